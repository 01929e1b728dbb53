-- The header that a structure tells, field by field.
use Rattle.std.specs.Prelude.{ℕ, ◌+◌, List, Option, Some, None, option_and_then}
use Rattle.cap_leaf.specs.Date.{DateParts}
use Rattle.cap_leaf.specs.declared.header.Header.{Header}
use Rattle.cap_leaf.specs.Trees.{Data}
use Rattle.cap_fields.specs.Fields.{child_in, num_in, ident_in, date_in}

abbrev pub header_with : ℕ → Option ℕ → DateParts → List ℕ → List ℕ → Header
header_with exchange repeat created from to = record { exchange = exchange; repeat = repeat; created = created; from = from; to = to }

-- the name of a party at a place
abbrev pub party_in : Data → ℕ → Option (List ℕ)
party_in d at = option_and_then (λ party. ident_in party 0) (child_in d at)

-- the header whose protocol's version stands at a place
abbrev pub header_in : ℕ → Data → Option Header
header_in at d =
    option_and_then (λ exchange. option_and_then (λ created. option_and_then (λ from. option_and_then (λ to.
    Some (header_with exchange (num_in d (at + 2)) created from to))
    (party_in d (at + 5))) (party_in d (at + 4))) (date_in d (at + 3))) (num_in d (at + 1))
