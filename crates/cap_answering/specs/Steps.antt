-- The steps of one end: what it does, what is interrupted, and how it is opened again.
use Rattle.std.proofs.Common.{refl, sym, ◌∙◌, ap, subst, append_assoc}
use Rattle.std.proofs.lemmas.List.{append-nil}
use Rattle.std.specs.Prelude.{◌≡◌, ℕ, Bool, true, false, IsTrue, List, [], ◌∷◌, ◌++◌, take, Option, Some, None}

-- an event at an end
pub data Event (Action : Type 0) : Type 0 where
  Acts : Action → Event Action
  -- the power goes, or the disk fails, within the action
  Interrupted : Action → Event Action
  -- it is opened again, and so many of the entries tried stand
  Restart : (kept : ℕ) → Event Action
  -- so too, but it is off again; None: what was tried stays tried
  Interrupted_restart : (kept : Option ℕ) → Event Action

-- the entries that are settled, those that an interrupted step tried, and whether the end is on
pub record EndState (E : Type 0) : Type 0 where
  pub settled : List E
  pub tried : List E
  pub on : Bool

-- an end that is on, with these entries
abbrev pub working : {E : Type 0} → List E → EndState E
working entries = record { settled = entries; tried = []; on = true }

-- an end that is off, with these entries
abbrev pub off : {E : Type 0} → List E → EndState E
off entries = record { settled = entries; tried = []; on = false }

-- each of these images has what is settled, followed by a front of what was tried
abbrev pub Holds : {E : Type 0} → (List ℕ → List E → Type 0) → (List ℕ → Type 0) → EndState E → Type 0
Holds has images s = (image : List ℕ) → images image → (kept : ℕ) × has image (s.settled ++ take kept s.tried)

-- `does` says what an action adds to the settled entries, `tries` what one is to add that is interrupted. `known` says whether its disk tells its contents: over one
-- that doesn't, nothing is known of the entries that an opening gives.
module _ {E A : Type 0} (known : Bool) (does tries : List E → A → List E → Type 0) where
  abbrev pub Step : EndState E → Event A → EndState E → Type 0
  Step s (Acts action) new = (added : List E) × (s.on ≡ true) × does s.settled action added × (new ≡ working (s.settled ++ added))
  Step s (Interrupted action) new =
      (added : List E) × (s.on ≡ true) × tries s.settled action added × (new ≡ record { settled = s.settled; tried = added; on = false })
  Step s (Restart kept) new = (IsTrue known → new.settled ≡ s.settled ++ take kept s.tried) × (new ≡ working new.settled)
  Step s (Interrupted_restart (Some kept)) new = (IsTrue known → new.settled ≡ s.settled ++ take kept s.tried) × (new ≡ off new.settled)
  Step s (Interrupted_restart None) new = new ≡ record { settled = s.settled; tried = s.tried; on = false }

  -- these steps, one after the other, lead from one state to the other
  abbrev pub Steps : EndState E → List (Event A) → EndState E → Type 0
  Steps s [] new = new ≡ s
  Steps s (event ∷ events) new = (next : EndState E) × Step s event next × Steps next events new

  -- some steps, and then more
  pub steps_more : (s mid new : EndState E) (events more : List (Event A)) → Steps s events mid → Steps mid more new → Steps s (events ++ more) new
  steps_more s mid new [] more is rest = subst (λ v. Steps v more new) is rest
  steps_more s mid new (event ∷ events) more (next, step, steps) rest = (next, step, steps_more next mid new events more steps rest)

  -- what is settled stays so, and only grows
  step_grows : (s new : EndState E) (event : Event A) → IsTrue known → Step s event new → (more : List E) × (new.settled ≡ s.settled ++ more)
  step_grows s new (Acts action) known' (added, on, does_so, is) = (added, ap (λ (v : EndState E). v.settled) is)
  step_grows s new (Interrupted action) known' (added, on, tries_so, is) = ([], ap (λ (v : EndState E). v.settled) is ∙ sym (append-nil s.settled))
  step_grows s new (Restart kept) known' (kept_so, is) = (take kept s.tried, kept_so known')
  step_grows s new (Interrupted_restart (Some kept)) known' (kept_so, is) = (take kept s.tried, kept_so known')
  step_grows s new (Interrupted_restart None) known' is = ([], ap (λ (v : EndState E). v.settled) is ∙ sym (append-nil s.settled))

  pub steps_grow : (s new : EndState E) (events : List (Event A)) → IsTrue known → Steps s events new → (more : List E) × (new.settled ≡ s.settled ++ more)
  steps_grow s new [] known' is = ([], ap (λ (v : EndState E). v.settled) is ∙ sym (append-nil s.settled))
  steps_grow s new (event ∷ events) known' (next, step, steps) =
      let first = step_grows s next event known' step in
      let rest = steps_grow next new events known' steps in
      (first.0 ++ rest.0, rest.1 ∙ (ap (λ (l : List E). l ++ rest.0) first.1 ∙ append_assoc s.settled first.0 rest.0))
