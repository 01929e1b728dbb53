-- What `show` writes of a document.
use Rattle.std.specs.Prelude.{ℕ, ◌≡◌, ◌⊎◌, List, [], ◌∷◌, ◌++◌, codes, Option}
use Rattle.std.specs.List.{concat}
use Rattle.std.specs.Fmt.{decimal}
use Rattle.std.specs.Io.KnownBytes.{Appends}
use Rattle.cap_base.specs.Streams.{AppendsSome}
use Rattle.cap_leaf.specs.declared.kinds.Kind.{Kind}
use Rattle.cap_leaf.specs.declared.fault.Fault.{Fault}
use Rattle.cap_leaf.specs.Trees.{Data}
use Rattle.cap_text.specs.Pieces.{Spells, number_of}
use Rattle.cap_text.specs.Faults.{FirstFault}
use Rattle.cap_text.specs.Canon.{canonical_text}
use Rattle.cap_schedule.specs.Outcomes.{reason_text}

-- `message NUMBER` and the canonical text, a line each
abbrev pub message_text : Kind → Data → List ℕ
message_text k d = codes "message " ++ number_of k ++ 10 ∷ [] ++ canonical_text k d ++ 10 ∷ []

-- `fault REASON at PLACE exchange X`
unfoldable pub fault_text : Fault → List ℕ
fault_text f = concat (codes "fault " ∷ reason_text f.reason ∷ codes " at " ∷ decimal f.place ∷ codes " exchange " ∷ decimal f.exchange ∷ (10 ∷ []) ∷ [])

-- the text of the message that the bytes spell, or of their first fault
abbrev pub IsShown : List ℕ → List ℕ → Type 0
IsShown bytes text = ((k : Kind) × (d : Data) × Spells k d bytes × (text ≡ message_text k d)) ⊎ ((f : Fault) × FirstFault bytes f × (text ≡ fault_text f))

-- the whole text of the bytes was appended
abbrev pub Shows : Option (List ℕ) → Option (List ℕ) → List ℕ → Type 0
Shows old new bytes = (text : List ℕ) × IsShown bytes text × Appends old new text

-- a front of the text of the bytes was appended
abbrev pub ShowsSome : Option (List ℕ) → Option (List ℕ) → List ℕ → Type 0
ShowsSome old new bytes = (text : List ℕ) × IsShown bytes text × AppendsSome old new text
