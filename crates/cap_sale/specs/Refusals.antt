-- Why an answer approves no sale.
use Rattle.std.specs.Prelude.{◌≡◌, ◌≢◌}
use Rattle.cap_base.specs.declared.codes.Response.TheVariants.{Appr}
use Rattle.cap_sale.specs.Tokens.{BegunSale}
use Rattle.cap_sale.specs.declared.response.AuthResponse.{AuthResponse}
use Rattle.cap_sale.specs.declared.tokens.AuthRefused.{AuthRefused}
use Rattle.cap_sale.specs.declared.tokens.AuthRefused.TheVariants.{NotTheAnswer, Declined}

-- the token comes back; another sale is named, or this one, and it is not approved
abbrev pub IsAuthRefusal : BegunSale → AuthResponse → AuthRefused → Type 0
IsAuthRefusal sale answer (NotTheAnswer begun) = (begun ≡ sale) × (answer.n ≢ sale.n)
IsAuthRefusal sale answer (Declined begun response) = (begun ≡ sale) × (answer.n ≡ sale.n) × (response ≡ answer.response) × (response ≢ Appr)
