-- The canonical spelling of a leaf.
use Rattle.std.specs.Prelude.{ℕ, ◌+◌, ◌/◌, ◌%◌, if◌then◌else◌, List, [], ◌∷◌, ◌++◌, Option, Some, None, codes}
use Rattle.std.specs.Fmt.{decimal}
use Rattle.cap_base.specs.Amount.{amount_text}
use Rattle.cap_leaf.specs.declared.zone.Zone.{Zone}
use Rattle.cap_leaf.specs.declared.zone.Zone.TheVariants.{Local, Utc, Offset}
use Rattle.cap_leaf.specs.declared.leaf.Leaf.{Leaf}
use Rattle.cap_leaf.specs.declared.leaf.Leaf.TheVariants as leaf
use Rattle.cap_leaf.specs.Date.{DateParts}
use Rattle.cap_leaf.specs.Codes.{code_at}

-- `YYYY-MM-DDThh:mm:ss`
abbrev pub moment_text : DateParts → List ℕ
moment_text d =
    (48 + d.year / 1000) ∷ (48 + d.year / 100 % 10) ∷ (48 + d.year / 10 % 10) ∷ (48 + d.year % 10) ∷ 45
    ∷ (48 + d.month / 10) ∷ (48 + d.month % 10) ∷ 45 ∷ (48 + d.day / 10) ∷ (48 + d.day % 10) ∷ 84
    ∷ (48 + d.hour / 10) ∷ (48 + d.hour % 10) ∷ 58 ∷ (48 + d.minute / 10) ∷ (48 + d.minute % 10) ∷ 58
    ∷ (48 + d.second / 10) ∷ (48 + d.second % 10) ∷ []

-- nothing, or `.` and three digits
abbrev pub fraction_text : Option ℕ → List ℕ
fraction_text None = []
fraction_text (Some n) = 46 ∷ (48 + n / 100) ∷ (48 + n / 10 % 10) ∷ (48 + n % 10) ∷ []

-- nothing, `Z`, or a sign, two digits, `:` and two digits
abbrev pub zone_text : Zone → List ℕ
zone_text Local = []
zone_text Utc = codes "Z"
zone_text (Offset minus hours minutes) =
    (if minus then 45 else 43) ∷ (48 + hours / 10) ∷ (48 + hours % 10) ∷ 58 ∷ (48 + minutes / 10) ∷ (48 + minutes % 10) ∷ []

abbrev pub date_text : DateParts → List ℕ
date_text d = moment_text d ++ (fraction_text d.millis ++ zone_text d.zone)

-- no leading zeros, two decimals, and all else as it stands
abbrev pub leaf_text : Leaf → List ℕ
leaf_text (leaf.Num n) = decimal n
leaf_text (leaf.Amount n) = amount_text n
leaf_text (leaf.Sum n) = amount_text n
leaf_text (leaf.Ident text) = text
leaf_text (leaf.Account text) = text
leaf_text (leaf.Code6 text) = text
leaf_text (leaf.DateTime d) = date_text d
leaf_text (leaf.Code l at) = code_at l at
