-- What the place where the reader's document stands means.
use Rattle.std.specs.Prelude.{ℕ, true, List, ◌∷◌, [], Option, Some, None}
use Rattle.cap_leaf.specs.declared.tree.Tree.{Tree}
use Rattle.cap_leaf.specs.Trees.{data_of}
use Rattle.cap_text.specs.Faults.{Known}
use Rattle.cap_text.specs.Machine.{Frame, State, inside, in_leaf, whole, Doc, first, prolog, within}
use Rattle.cap_text.specs.Bytes.{Reading, standing, barred}
use Rattle.cap_text.specs.SeenFrames.{frame_of, frames_of}
use Rattle.cap_text.specs.declared.open.OpenLeaf.{OpenLeaf}
use Rattle.cap_text.specs.declared.open.Open.{Open}
use Rattle.cap_text.specs.declared.open.Doc.{Doc as CodeDoc}
use Rattle.cap_text.specs.declared.open.Doc.TheVariants.{First, Prolog, Inside, Whole}
use Rattle.cap_text.specs.declared.open.Outcome.{Outcome}
use Rattle.cap_text.specs.declared.open.Outcome.TheVariants.{Barred, Read, Moved}

abbrev pub open_of : Open → List Frame
open_of o = frame_of o.current ∷ frames_of o.outer.items

-- a leaf is open in the structures, or none is
abbrev pub state_by : Option OpenLeaf → List Frame → State
state_by None fs = inside fs
state_by (Some l) fs = in_leaf l.tag.now l.kind fs

abbrev pub state_of : Open → State
state_of o = state_by o.leaf (open_of o)

abbrev pub doc_in : Open → Doc
doc_in o = within o.kind (state_of o)

abbrev pub doc_of : CodeDoc → Doc
doc_of First = first
doc_of Prolog = prolog
doc_of (Inside o) = doc_in o
doc_of (Whole k t) = within k (whole (data_of t))

-- where the closing of a structure leads: into the one around it, or to a whole element
abbrev pub closed_to : Option Tree → List Frame → State
closed_to None fs = inside fs
closed_to (Some t) fs = whole (data_of t)

-- where the end of a text leads, from what is open and known after it
abbrev pub led_to : Outcome → Doc → Known → List ℕ → Reading
led_to Barred d n text = barred d n text true
led_to Read d n text = standing d n []
led_to (Moved e) d n text = standing (doc_of e) n []

-- how many of so many bytes are held then
abbrev pub held_after : Outcome → ℕ → ℕ
held_after Barred bytes = bytes
held_after Read bytes = 0
held_after (Moved e) bytes = 0
