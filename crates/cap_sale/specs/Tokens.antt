-- What the tokens of a sale know.
use Rattle.std.specs.Prelude.{ℕ, List, codes}

-- a sale that was begun
pub record BegunSale : Type 0 where
  pub n : ℕ
  pub amount : ℕ
  pub account : List ℕ

-- a sale that was approved
pub record ApprovedSale : Type 0 where
  pub n : ℕ
  pub amount : ℕ
  pub account : List ℕ
  pub code : List ℕ

-- a sale that was completed
pub record CompletedSale : Type 0 where
  pub n : ℕ
  pub code : List ℕ

-- the code of a sale that was approved without the host
abbrev pub offline_code : List ℕ
offline_code = codes "OFFLIN"

-- the same sale, approved with this code
abbrev pub approved_with : BegunSale → List ℕ → ApprovedSale
approved_with begun code = record { n = begun.n; amount = begun.amount; account = begun.account; code = code }
