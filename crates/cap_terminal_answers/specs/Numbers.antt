-- The numbers of the last part of a parameter set, without its rows.
use Rattle.std.specs.Prelude.{◌≡◌, ℕ, ◌+◌, Bool, false, ◌&&◌, ◌||◌, nat_le, nat_lt, ◌==◌, List, [], ◌∷◌, Option, Some, None}
use Rattle.std.proofs.Common.{refl, ◌∙◌, ap}
use Rattle.cap_base.specs.declared.parameters.ConfigPart.{ConfigPart}
use Rattle.cap_entries.specs.declared.terminal.TermEntry.{TermEntry}
use Rattle.cap_entries.specs.declared.terminal.TermEntry.TheVariants.{Setup, Begin, Declined, Completed, Voided, Cancelled, Closed, Acked, Part}
use Rattle.cap_entries.specs.InForce.{version_in_force, staged_from, staged_version, staged_count, continues}
use Rattle.cap_entries.specs.Allowed.{part_allowed}
use Rattle.cap_terminal_answers.specs.declared.part.PartNumbers.{PartNumbers}

abbrev pub numbers_of : Option PartNumbers → List TermEntry → Option PartNumbers
numbers_of last [] = last
numbers_of last (Part part ∷ entries) = numbers_of (Some (record { version = part.version; part = part.part; parts = part.parts })) entries
numbers_of last (_ ∷ entries) = numbers_of last entries

abbrev pub numbers_continue : Option PartNumbers → ConfigPart → Bool
numbers_continue None part = false
numbers_continue (Some last) part = (part.version == last.version) && (part.parts == last.parts) && (part.part == last.part + 1)

abbrev pub numbers_version : Option PartNumbers → ℕ
numbers_version None = 0
numbers_version (Some last) = last.version

abbrev pub numbers_part : Option PartNumbers → ℕ
numbers_part None = 0
numbers_part (Some last) = last.part

-- those of a part, if there is one
abbrev pub numbers : Option ConfigPart → Option PartNumbers
numbers None = None
numbers (Some part) = Some (record { version = part.version; part = part.part; parts = part.parts })

pub numbers_are : (staged : Option ConfigPart) (entries : List TermEntry) → numbers_of (numbers staged) entries ≡ numbers (staged_from staged entries)
numbers_are staged [] = refl
numbers_are staged (Part part ∷ entries) = numbers_are (Some part) entries
numbers_are staged (Setup settings ∷ entries) = numbers_are staged entries
numbers_are staged (Begin n amount account ∷ entries) = numbers_are staged entries
numbers_are staged (Declined n ∷ entries) = numbers_are staged entries
numbers_are staged (Completed n code ∷ entries) = numbers_are staged entries
numbers_are staged (Voided n ∷ entries) = numbers_are staged entries
numbers_are staged (Cancelled n ∷ entries) = numbers_are staged entries
numbers_are staged (Closed p ∷ entries) = numbers_are staged entries
numbers_are staged (Acked m ∷ entries) = numbers_are staged entries

pub continues_are : (staged : Option ConfigPart) (part : ConfigPart) → numbers_continue (numbers staged) part ≡ continues staged part
continues_are None part = refl
continues_are (Some last) part = refl

pub versions_are : (staged : Option ConfigPart) → numbers_version (numbers staged) ≡ staged_version staged
versions_are None = refl
versions_are (Some last) = refl

-- the part may be added where this version is in force, and these are the numbers of the last part
abbrev pub numbers_allow : ℕ → Option PartNumbers → ConfigPart → Bool
numbers_allow in_force last part =
    nat_le 1 part.part && nat_le part.part part.parts && nat_le part.parts 16
    && (((part.part == 1) && nat_lt in_force part.version && nat_lt (numbers_version last) part.version)
    || numbers_continue last part)

pub numbers_allow_is : (entries : List TermEntry) (part : ConfigPart) → numbers_allow (version_in_force entries) (numbers_of None entries) part ≡ part_allowed entries part
numbers_allow_is entries part =
    let staged = staged_from None entries in
    ap (λ (last : Option PartNumbers). numbers_allow (version_in_force entries) last part) (numbers_are None entries)
    ∙ (ap (λ (n : ℕ). nat_le 1 part.part && nat_le part.part part.parts && nat_le part.parts 16 && (((part.part == 1) && nat_lt (version_in_force entries) part.version && nat_lt n part.version) || numbers_continue (numbers staged) part)) (versions_are staged)
    ∙ ap (λ (b : Bool). nat_le 1 part.part && nat_le part.part part.parts && nat_le part.parts 16 && (((part.part == 1) && nat_lt (version_in_force entries) part.version && nat_lt (staged_version staged) part.version) || b)) (continues_are staged part))

-- the version whose parts are coming, and how many of them are there
pub staged_version_is : (entries : List TermEntry) → numbers_version (numbers_of None entries) ≡ staged_version (staged_from None entries)
staged_version_is entries = ap numbers_version (numbers_are None entries) ∙ versions_are (staged_from None entries)

parts_are : (staged : Option ConfigPart) → numbers_part (numbers staged) ≡ staged_count staged
parts_are None = refl
parts_are (Some last) = refl

pub staged_count_is : (entries : List TermEntry) → numbers_part (numbers_of None entries) ≡ staged_count (staged_from None entries)
staged_count_is entries = ap numbers_part (numbers_are None entries) ∙ parts_are (staged_from None entries)
