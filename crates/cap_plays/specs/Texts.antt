-- The texts of messages, as they lie in the network.
use Rattle.std.specs.Prelude.{◌≡◌, ⊤, ℕ, List, [], ◌∷◌, map, Option, Some, None}
use Rattle.std.proofs.Common.{Vec, Global}
use Rattle.cap_msgs.specs.declared.message.Message.{Message}
use Rattle.cap_msgs.specs.Ranges.{IsSpellable}
use Rattle.cap_msgs.specs.Trees.{text_of}

-- the text of a message that can be written
pub record IsTextOf (message : Message) (text : List ℕ) : Type 0 where
  pub text_is : text ≡ text_of message
  pub spellable : IsSpellable message

-- the texts of these messages, one after the other
abbrev pub AreTexts : List (List ℕ) → List Message → Type 0
AreTexts [] [] = ⊤
AreTexts [] (message ∷ messages) = ⊥
AreTexts (text ∷ texts) [] = ⊥
AreTexts (text ∷ texts) (message ∷ messages) = IsTextOf message text × AreTexts texts messages

abbrev pub texts_in : List (Vec ℕ Global) → List (List ℕ)
texts_in vectors = map (λ (v : Vec ℕ Global). v.items) vectors

-- a line sends one message, of which this is the text, or none
abbrev pub IsSent : Option (Vec ℕ Global) → List Message → Type 0
IsSent None [] = ⊤
IsSent None (message ∷ messages) = ⊥
IsSent (Some text) [] = ⊥
IsSent (Some text) (message ∷ []) = IsTextOf message text.items
IsSent (Some text) (message ∷ other ∷ messages) = ⊥
