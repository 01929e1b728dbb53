-- The message of a terminal with some number, by the texts of all that this terminal sent.
use Rattle.std.proofs.Common.{◌≡◌, ℕ, zero, suc, ◌-◌, Bool, true, false, List, [], ◌∷◌, Option, Some, None, refl, sym, subst}
use Rattle.std.specs.Prelude.{slice_get, ◌==◌, if◌then◌else◌}
use Rattle.std.proofs.lemmas.Option.{none-some, same_Some}
use Rattle.cap_msgs.specs.declared.message.Message.{Message}
use Rattle.cap_world.specs.World.{TerminalState}
use Rattle.cap_plays.specs.Turns.{nth}
use Rattle.cap_plays.specs.Texts.{IsTextOf, AreTexts}
use Rattle.cap_host_lines.specs.Acts.{sent_by}
use Rattle.cap_host_side.specs.Sides.{sent_by_any}

text_at : (texts : List (List ℕ)) (messages : List Message) (i : ℕ) (text : List ℕ) → AreTexts texts messages → slice_get texts i ≡ Some text → (message : Message) × (slice_get messages i ≡ Some message) × IsTextOf message text
text_at [] messages i text are there = absurd (none-some text there)
text_at (t ∷ texts) [] i text are there = absurd are
text_at (t ∷ texts) (message ∷ messages) zero text are there = (message, refl, subst (λ (x : List ℕ). IsTextOf message x) (same_Some _ _ there) are.0)
text_at (t ∷ texts) (message ∷ messages) (suc i) text are there = text_at texts messages i text are.1 there

none_at : (texts : List (List ℕ)) (messages : List Message) (i : ℕ) → AreTexts texts messages → slice_get texts i ≡ None → slice_get messages i ≡ None
none_at [] [] i are past = refl
none_at [] (message ∷ messages) i are past = absurd are
none_at (t ∷ texts) [] i are past = absurd are
none_at (t ∷ texts) (message ∷ messages) zero are past = absurd (none-some t (sym past))
none_at (t ∷ texts) (message ∷ messages) (suc i) are past = none_at texts messages i are.1 past

-- the one with this number, from 1
nth_text : (texts : List (List ℕ)) (messages : List Message) (k : ℕ) (text : List ℕ) → AreTexts texts messages → nth texts k ≡ Some text → (message : Message) × (nth messages k ≡ Some message) × IsTextOf message text
nth_text texts messages k text are there = by_zero (k == 0) there
  where
    by_zero : (b : Bool) → (if b then None else slice_get texts (k - 1)) ≡ Some text → (message : Message) × ((if b then None else slice_get messages (k - 1)) ≡ Some message) × IsTextOf message text
    by_zero true there = absurd (none-some text there)
    by_zero false there = text_at texts messages (k - 1) text are there

nth_none : (texts : List (List ℕ)) (messages : List Message) (k : ℕ) → AreTexts texts messages → nth texts k ≡ None → nth messages k ≡ None
nth_none texts messages k are past = by_zero (k == 0) past
  where
    by_zero : (b : Bool) → (if b then None else slice_get texts (k - 1)) ≡ None → (if b then None else slice_get messages (k - 1)) ≡ None
    by_zero true past = refl
    by_zero false past = none_at texts messages (k - 1) are past

-- of a terminal, where there is one
pub sent_text : (texts : List (List ℕ)) (found : Option TerminalState) (which : ℕ) (text : List ℕ) → AreTexts texts (sent_by_any found) → nth texts which ≡ Some text
    → (message : Message) × (sent_by found which ≡ Some message) × IsTextOf message text
sent_text [] None which text are there = let (message, nth_is, is) = nth_text [] [] which text tt there in absurd (no_nth which message nth_is)
  where
    no_nth : (k : ℕ) (message : Message) → nth [] k ≡ Some message → ⊥
    no_nth k message there = by_zero (k == 0) there
      where
        by_zero : (b : Bool) → (if b then None else slice_get [] (k - 1)) ≡ Some message → ⊥
        by_zero true there = none-some message there
        by_zero false there = none-some message there
sent_text (t ∷ texts) None which text are there = absurd are
sent_text texts (Some s) which text are there = nth_text texts s.sent which text are there

pub sent_none : (texts : List (List ℕ)) (found : Option TerminalState) (which : ℕ) → AreTexts texts (sent_by_any found) → nth texts which ≡ None → sent_by found which ≡ None
sent_none texts None which are past = refl
sent_none texts (Some s) which are past = nth_none texts s.sent which are past
