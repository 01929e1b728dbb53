-- Which entry may stand next in a terminal's journal.
use Rattle.std.specs.Prelude.{◌≡◌, ◌+◌, Bool, true, false, ◌&&◌, ◌||◌, not, nat_le, nat_lt, ◌==◌, List, [], ◌∷◌, ◌++◌, length, None, count_by}
use Rattle.cap_base.specs.declared.parameters.ConfigPart.{ConfigPart}
use Rattle.cap_entries.specs.declared.terminal.TermEntry.{TermEntry}
use Rattle.cap_entries.specs.declared.terminal.TermEntry.TheVariants.{Setup, Begin, Declined, Completed, Voided, Cancelled, Closed, Acked, Part}
use Rattle.cap_entries.specs.Entry.{is_setup, is_any_begin, is_any_closed, is_pending, is_completed, is_cancelled, max_of}
use Rattle.cap_entries.specs.Items.{items}
use Rattle.cap_entries.specs.Acked.{acked}
use Rattle.cap_entries.specs.InForce.{version_in_force, staged_from, staged_version, continues}

-- the first part of a version above the one in force and above the staged one, or the next part of the staged one
abbrev pub part_allowed : List TermEntry → ConfigPart → Bool
part_allowed entries part =
    nat_le 1 part.part && nat_le part.part part.parts && nat_le part.parts 16
    && (((part.part == 1) && nat_lt (version_in_force entries) part.version && nat_lt (staged_version (staged_from None entries)) part.version)
    || continues (staged_from None entries) part)

-- what is allowed after the set-up
abbrev pub allowed_after : List TermEntry → TermEntry → Bool
allowed_after before (Setup settings) = false
allowed_after before (Begin n amount account) = (n == count_by is_any_begin before + 1) && nat_le n (max_of before)
allowed_after before (Declined n) = is_pending before n
allowed_after before (Completed n code) = is_pending before n
allowed_after before (Voided n) = is_pending before n
allowed_after before (Cancelled n) = is_completed before n && not (is_cancelled before n)
allowed_after before (Closed p) = (p == count_by is_any_closed before + 1) && nat_le p 250000
allowed_after before (Acked m) = nat_lt (acked before) m && nat_le m (length (items before))
allowed_after before (Part part) = part_allowed before part

-- the set-up stands first, and only there
abbrev pub allowed : List TermEntry → TermEntry → Bool
allowed [] entry = is_setup entry
allowed (first ∷ rest) entry = allowed_after (first ∷ rest) entry

-- each entry is allowed after those before it
abbrev pub all_allowed : List TermEntry → List TermEntry → Bool
all_allowed before [] = true
all_allowed before (entry ∷ entries) = allowed before entry && all_allowed (before ++ entry ∷ []) entries

-- the entries of a terminal's journal: there is one, and each is allowed after those before it
abbrev pub is_legal : List TermEntry → Bool
is_legal [] = false
is_legal (entry ∷ entries) = all_allowed [] (entry ∷ entries)

abbrev pub Legal : List TermEntry → Type 0
Legal entries = is_legal entries ≡ true
