-- The list of blocked prefixes, as a host line has it.
use Rattle.std.specs.Prelude.{ℕ, Bool, List, [], length, Option, Some, None, ◌==◌, if◌then◌else◌, codes}
use Rattle.std.specs.List.{list_all, slice_split}
use Rattle.std.specs.Str.{bytes_eq}
use Rattle.cap_entries.specs.Lists.{blocks_of}

abbrev pub has_six : List ℕ → Bool
has_six text = length text == 6

-- `none`, or 1 to 64 prefixes of six digits with commas
abbrev pub blocks_in : List ℕ → Option (List (List ℕ))
blocks_in text =
    if bytes_eq text (codes "none") then Some []
    else (if list_all has_six (slice_split (λ b. b == 44) text) then blocks_of (slice_split (λ b. b == 44) text) else None)
