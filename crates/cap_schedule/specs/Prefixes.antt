-- What may stand before an action: `cut C FILL`, `fail C FILL`, `cut after`.
use Rattle.std.specs.Prelude.{ℕ, Bool, ◌&&◌, ◌||◌, nat_le, if◌then◌else◌, List, [], ◌∷◌, drop, Option, Some, None, codes}
use Rattle.std.specs.Str.{bytes_eq}
use Rattle.cap_base.specs.Number.{number_of}
use Rattle.cap_disk.specs.declared.arming.Fill.{Fill}
use Rattle.cap_disk.specs.declared.arming.Fill.TheVariants.{Old, New, Byte}
use Rattle.cap_schedule.specs.declared.schedule.Prefix.{Prefix}
use Rattle.cap_schedule.specs.declared.schedule.Prefix.TheVariants.{Cut, Fail, CutAfter}
use Rattle.cap_schedule.specs.Hex.{hex_byte}

abbrev pub byte_fill : Option ℕ → Option Fill
byte_fill None = None
byte_fill (Some b) = Some (Byte b)

-- two hexadecimal digits
abbrev pub digits_fill : List ℕ → Option Fill
digits_fill (high ∷ low ∷ []) = byte_fill (hex_byte high low)
digits_fill _ = None

-- FILL: `old`, `new`, or two hexadecimal digits
abbrev pub fill_of : List ℕ → Option Fill
fill_of word =
    if bytes_eq word (codes "old") then Some Old
    else (if bytes_eq word (codes "new") then Some New else digits_fill word)

abbrev pub call_if : Option ℕ → Option ℕ
call_if None = None
call_if (Some n) = if nat_le 1 n && nat_le n 1000000 then Some n else None

-- C: the number of a call, 1 to 1,000,000
abbrev pub call_of : List ℕ → Option ℕ
call_of word = call_if (number_of 10 word)

abbrev pub armed_as : List ℕ → ℕ → Fill → Prefix
armed_as word call fill = if bytes_eq word (codes "cut") then Cut call fill else Fail call fill

abbrev pub armed : List ℕ → Option ℕ → Option Fill → Option (Option Prefix)
armed word None fill = None
armed word (Some call) None = None
armed word (Some call) (Some fill) = Some (Some (armed_as word call fill))

abbrev pub is_cut_after : (a b : List ℕ) → Bool
is_cut_after a b = bytes_eq a (codes "cut") && bytes_eq b (codes "after")

abbrev pub is_arming : List ℕ → Bool
is_arming a = bytes_eq a (codes "cut") || bytes_eq a (codes "fail")

-- what stands before the action: `Some None` where nothing does, `None` where it is none of the three
abbrev pub prefix_in : List (List ℕ) → Option (Option Prefix)
prefix_in (a ∷ b ∷ c ∷ words) =
    if is_cut_after a b then Some (Some CutAfter)
    else (if is_arming a then armed a (call_of b) (fill_of c) else Some None)
prefix_in _ = Some None

-- how many words stand before those of the action
abbrev pub prefix_len : List (List ℕ) → ℕ
prefix_len (a ∷ b ∷ c ∷ words) = if is_cut_after a b then 2 else (if is_arming a then 3 else 0)
prefix_len _ = 0

-- the words of the action
abbrev pub after_prefix : List (List ℕ) → List (List ℕ)
after_prefix words = drop (prefix_len words) words
