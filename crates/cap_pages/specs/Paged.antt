-- A journal that keeps the places of its records instead of its entries.
use Rattle.std.proofs.Common.{refl, sym, ◌∙◌, ap, subst}
use Rattle.std.specs.Prelude.{◌≡◌, ◌≤◌, ◌<◌, ◌++◌, All, IsTrue, ℕ, ◌+◌, ◌*◌, ◌/◌, ◌%◌, List, [], ◌∷◌, length, take, drop, Bool, true, false, Option, Some, None}
use Rattle.cap_journal.specs.File.{Has, Reading, group_length, body_of, group_of}
use Rattle.cap_journal.specs.Group.{joined}
use Rattle.cap_journal.specs.Kept.{HasFront}

-- A mark names a record by the gate of its group, and by how many bytes of the group's body stand before it. These are below 65,536.
abbrev pub mark_of : ℕ → ℕ → ℕ
mark_of gate before = gate * 65536 + before

abbrev pub gate_in : ℕ → ℕ
gate_in mark = mark / 65536

-- gate and length stand before the body
abbrev pub place_in : ℕ → ℕ
place_in mark = mark / 65536 + 5 + mark % 65536

-- the marks of the records of these entries, one behind the other in the group behind a gate
abbrev pub marks_of : {E : Type 0} → (E → List ℕ) → ℕ → ℕ → List E → List ℕ
marks_of bytes_of gate before [] = []
marks_of bytes_of gate before (e ∷ es) = mark_of gate before ∷ marks_of bytes_of gate (before + length (bytes_of e)) es

abbrev pub with_read : {E : Type 0} → Option (E × ℕ) → List E → List E
with_read None list = list
with_read (Some found) list = found.0 ∷ list

-- the values of the records that these marks name
abbrev pub listed : {E : Type 0} → Reading E → List ℕ → List ℕ → List E
listed reading bytes [] = []
listed reading bytes (mark ∷ marks) = with_read (reading (drop (place_in mark) bytes)) (listed reading bytes marks)

-- the bytes below the last gate; they stay, whatever an append does
abbrev pub front_of : List ℕ → ℕ → List ℕ
front_of shown end = take end shown

-- the entries, where the disk tells its contents
abbrev pub entries_told : {E : Type 0} → Bool → Reading E → List ℕ → List ℕ → List E
entries_told true reading front marks = listed reading front marks
entries_told false reading front marks = []

-- the marks of a group were noted, whose bytes are these, from its length up to the gate behind it
pub record IsNoted {E : Type 0} (reading : Reading E) (bytes_of : E → List ℕ) (fits : E → Bool) (bytes : List ℕ) (place : ℕ) (old new : List ℕ) (next : ℕ) : Type 0 where
  pub added : List E
  pub read : group_of reading bytes ≡ Some added
  pub fit : All (λ e. IsTrue (fits e)) added
  pub body : joined bytes_of added ≡ body_of bytes
  pub noted : new ≡ old ++ marks_of bytes_of place 0 added
  pub next_is : next ≡ place + 5 + group_length bytes
  pub long : 4 + group_length bytes < length bytes
  pub high : length (joined bytes_of added) ≤ 65536

-- where the disk tells its contents, they are what the marks name
pub told_list : {E : Type 0} (t : Bool) (reading : Reading E) (front marks : List ℕ) → IsTrue t → entries_told t reading front marks ≡ listed reading front marks
told_list true reading front marks told = refl
told_list false reading front marks told = cc

-- what is below the last gate stays, and so do the entries
pub told_same : {E : Type 0} (t t' : Bool) (reading : Reading E) (front front' marks : List ℕ) → t' ≡ t → (IsTrue t → front' ≡ front) → entries_told t' reading front' marks ≡ entries_told t reading front marks
told_same {E = E} true t' reading front front' marks is same = ap (λ (b : Bool). entries_told b reading front' marks) is ∙ ap (λ (l : List ℕ). listed reading l marks) (same refl)
told_same {E = E} false t' reading front front' marks is same = ap (λ (b : Bool). entries_told b reading front' marks) is

pub told_many : {E : Type 0} (t : Bool) (reading : Reading E) (front marks : List ℕ) → IsTrue t → length (listed reading front marks) ≡ length marks → length marks ≡ length (entries_told t reading front marks)
told_many t reading front marks told all = sym (ap length (told_list t reading front marks told) ∙ all)

pub told_has : {E : Type 0} (t : Bool) (reading : Reading E) (front marks image : List ℕ) → IsTrue t → Has reading image (listed reading front marks) → Has reading image (entries_told t reading front marks)
told_has {E = E} t reading front marks image told has = has ∙ ap (λ (l : List E). Some l) (sym (told_list t reading front marks told))

pub told_front : {E : Type 0} (t : Bool) (reading : Reading E) (front marks image : List ℕ) → IsTrue t → HasFront reading (listed reading front marks) image → HasFront reading (entries_told t reading front marks) image
told_front {E = E} t reading front marks image told has = subst (λ (l : List E). HasFront reading l image) (sym (told_list t reading front marks told)) has
