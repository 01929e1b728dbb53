-- The texts of messages, place by place.
use Rattle.std.proofs.Common.{◌≡◌, ℕ, zero, suc, ◌-◌, Bool, true, false, List, [], ◌∷◌, Some, None, refl, sym, subst}
use Rattle.std.specs.Prelude.{slice_get, ◌==◌, if◌then◌else◌}
use Rattle.std.proofs.lemmas.Option.{none-some, same_Some}
use Rattle.cap_msgs.specs.declared.message.Message.{Message}
use Rattle.cap_plays.specs.Turns.{nth}
use Rattle.cap_plays.specs.Texts.{IsTextOf, AreTexts}

text_at : (texts : List (List ℕ)) (messages : List Message) (i : ℕ) (text : List ℕ) → AreTexts texts messages → slice_get texts i ≡ Some text → (message : Message) × (slice_get messages i ≡ Some message) × IsTextOf message text
text_at [] messages i text are there = absurd (none-some text there)
text_at (t ∷ texts) [] i text are there = absurd are
text_at (t ∷ texts) (message ∷ messages) zero text are there = (message, refl, subst (λ (x : List ℕ). IsTextOf message x) (same_Some _ _ there) are.0)
text_at (t ∷ texts) (message ∷ messages) (suc i) text are there = text_at texts messages i text are.1 there

none_at : (texts : List (List ℕ)) (messages : List Message) (i : ℕ) → AreTexts texts messages → slice_get texts i ≡ None → slice_get messages i ≡ None
none_at [] [] i are past = refl
none_at [] (message ∷ messages) i are past = absurd are
none_at (t ∷ texts) [] i are past = absurd are
none_at (t ∷ texts) (message ∷ messages) zero are past = absurd (none-some t (sym past))
none_at (t ∷ texts) (message ∷ messages) (suc i) are past = none_at texts messages i are.1 past

-- the one with this number, from 1
pub text_there : (texts : List (List ℕ)) (messages : List Message) (k : ℕ) (text : List ℕ) → AreTexts texts messages → nth texts k ≡ Some text → (message : Message) × (nth messages k ≡ Some message) × IsTextOf message text
text_there texts messages k text are there = by_zero (k == 0) there
  where
    by_zero : (b : Bool) → (if b then None else slice_get texts (k - 1)) ≡ Some text → (message : Message) × ((if b then None else slice_get messages (k - 1)) ≡ Some message) × IsTextOf message text
    by_zero true there = absurd (none-some text there)
    by_zero false there = text_at texts messages (k - 1) text are there

pub text_past : (texts : List (List ℕ)) (messages : List Message) (k : ℕ) → AreTexts texts messages → nth texts k ≡ None → nth messages k ≡ None
text_past texts messages k are past = by_zero (k == 0) past
  where
    by_zero : (b : Bool) → (if b then None else slice_get texts (k - 1)) ≡ None → (if b then None else slice_get messages (k - 1)) ≡ None
    by_zero true past = refl
    by_zero false past = none_at texts messages (k - 1) are past
