-- A text up to a `>`, without it.
use Rattle.std.specs.Prelude.{ℕ, Bool, true, false, ◌&&◌, ◌==◌, if◌then◌else◌, List, [], ◌∷◌, Option, Some, None, option_map}
use Rattle.std.specs.Str.{bytes_eq}
use Rattle.cap_leaf.specs.declared.kinds.Kind.{Kind}
use Rattle.cap_leaf.specs.Schema.{Content, Table, leaf, all, one_of}
use Rattle.cap_text.specs.Pieces.{Piece, document, opening, leaf_opening}
use Rattle.cap_text.specs.Faults.{Known, told_by}
use Rattle.cap_text.specs.Machine.{Left, rows, choice, Frame, inside, in_leaf, Found, look, fresh, around, Doc, within, root}
use Rattle.cap_text.specs.Bytes.{Reading, standing, barred}

-- it is the closing of a tag
abbrev pub closes : List ℕ → List ℕ → Bool
closes tag [] = false
closes tag (a ∷ []) = false
closes tag (a ∷ b ∷ name) = (60 == a) && ((47 == b) && bytes_eq tag name)

-- what stands after its `<`
abbrev pub name_in : List ℕ → Option (List ℕ)
name_in [] = None
name_in (a ∷ name) = if 60 == a then Some name else None

abbrev pub tagged : List ℕ → Found → List ℕ × Found
tagged name found = (name, found)

-- the tag that it opens, and what may stand there by it
abbrev pub sought_by : Left → Option (List ℕ) → Option (List ℕ × Found)
sought_by left None = None
sought_by left (Some name) = option_map (tagged name) (look left name)

abbrev pub sought : Left → List ℕ → Option (List ℕ × Found)
sought left front = sought_by left (name_in front)

-- where the opening of a child leads
abbrev pub entered_by : Kind → List Frame → Known → List ℕ → Content → ℕ → Reading
entered_by k fs n tag (leaf j) bytes = standing (within k (in_leaf tag j fs)) (told_by n (leaf_opening tag) bytes) []
entered_by k fs n tag (all t) bytes = standing (within k (inside (fresh tag (rows t 0 0) ∷ fs))) (told_by n (opening tag) bytes) []
entered_by k fs n tag (one_of t) bytes = standing (within k (inside (fresh tag (choice t) ∷ fs))) (told_by n (opening tag) bytes) []

abbrev pub entered : Kind → Frame → List Frame → Known → List ℕ → Found → ℕ → Reading
entered k f fs n tag found bytes = entered_by k (around f found ∷ fs) n tag found.content bytes

-- what may stand in a structure that is opened: one row of its table, or all of them
abbrev pub begun_by : Bool → Table → Left
begun_by one t = if one then choice t else rows t 0 0

-- where a piece leads before `Document` is open
abbrev pub opened_by : Doc → Known → List ℕ → ℕ → Option Piece → Reading
opened_by d n text bytes None = barred d n text true
opened_by d n text bytes (Some (document k)) = standing (within k (root k)) (told_by n (document k) bytes) []
opened_by d n text bytes (Some p) = barred d n text true
