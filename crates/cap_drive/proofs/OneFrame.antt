-- One frame.
use Rattle.std.proofs.Common.{◌≡◌, inl, inr, ℕ, ◌≤◌, List, [], ◌∷◌, ◌++◌, length, Bool, true, false, IsTrue, Option, refl, ap, subst}
use Rattle.cap_frame.specs.Frame.{frames_of}
use Rattle.cap_link.specs.Lines.{Lines, Exchanges, PutsSome, untold}
use Rattle.cap_answering.specs.declared.reply.Reply.{Reply}
use Rattle.cap_answering.specs.Steps.{working, Steps}
use Rattle.cap_drive.specs.declared.closing.Closing.TheVariants.{Fault, Memory}
use Rattle.cap_drive.specs.Frames.{reply_bytes, IsTold, Does, Tries}
use Rattle.cap_drive.specs.Connections.{Lacks}
use Rattle.cap_drive.specs.Going.{act_of, ServesFrame, Cuts, FrameBreaks}

-- a front of these bytes was put, also where the link tells nothing
pub part_of : (tells : Bool) (bytes : List ℕ) (before after : Lines) → (IsTrue tells → PutsSome bytes before after)
    → (part : List ℕ) × (rest : List ℕ) × (part ++ rest ≡ bytes) × (IsTrue tells → Exchanges [] part before after)
part_of true bytes before after some = let s = some refl in (s.front, s.back, s.parts, λ _. s.put)
part_of false bytes before after some = ([], bytes, refl, λ e. untold e)

module _ {E : Type 0} (known readable : Bool) (adds : List E → ℕ → List ℕ → List E → Type 0) (replies : List E → ℕ → List ℕ → Reply → Type 0) where
  does_frame : (moment : ℕ) (body : List ℕ) (old new added : List E) (r s : Reply) → r ≡ s → moment ≤ 253402300799
      → (IsTrue readable → adds old moment body added) → (IsTrue readable → replies old moment body r) → new ≡ old ++ added
      → Steps known (Does readable adds replies) (Tries readable adds replies) (working old) (act_of (record { moment = moment; body = body; reply = s }) ∷ []) (working new)
  does_frame moment body old new added r s is range to_add replied now = (
    working new,
    (added, refl, (range, to_add, λ can. subst (λ (t : Reply). replies old moment body t) is (replied can)), ap (λ (l : List E). working l) now),
    refl,
  )

  module _ (told : Option ℕ) (tells : Bool) (moment : ℕ) (body : List ℕ) (old new added : List E) (before after : Lines) (r s : Reply) (is : r ≡ s) (range : moment ≤ 253402300799)
      (to_add : IsTrue readable → adds old moment body added) (replied : IsTrue readable → replies old moment body r) (now : new ≡ old ++ added) (at : IsTold told moment) where
    pub served_frame : (IsTrue tells → Exchanges [] (frames_of (reply_bytes s)) before after) → ServesFrame known readable adds replies told tells body old new before after (length (reply_bytes s))
    served_frame put = record {
      answered = record { moment = moment; body = body; reply = s };
      of_body = refl;
      steps = does_frame moment body old new added r s is range to_add replied now;
      moment = at;
      put = put;
      counted = refl;
    }

    pub broken_put : (has : List ℕ → List E → Type 0) (is_allowed : List E → Type 0) (images : List ℕ → Type 0) → (IsTrue tells → PutsSome (frames_of (reply_bytes s)) before after)
        → FrameBreaks known readable adds replies told tells has is_allowed Fault images body old new before after
    broken_put has is_allowed images some =
        let p = part_of tells (frames_of (reply_bytes s)) before after some in (
          record { moment = moment; body = body; reply = s },
          p.0,
          p.1,
          record {
            part = p.0;
            last = inr refl;
            steps = does_frame moment body old new added r s is range to_add replied now;
            moments = (at, tt);
            put = p.3;
            puts = (refl, p.2);
          },
        )

    pub lacks_to_put : (has : List ℕ → List E → Type 0) (is_allowed : List E → Type 0) (images : List ℕ → Type 0) → (IsTrue tells → PutsSome (frames_of (reply_bytes s)) before after)
        → FrameBreaks known readable adds replies told tells has is_allowed Memory images body old new before after
    lacks_to_put has is_allowed images some =
        let p = part_of tells (frames_of (reply_bytes s)) before after some in
        inr (
          record { moment = moment; body = body; reply = s },
          p.0,
          p.1,
          record {
            part = p.0;
            last = inr refl;
            steps = does_frame moment body old new added r s is range to_add replied now;
            moments = (at, tt);
            put = p.3;
            puts = (refl, p.2);
          },
        )

  pub lacks_before : (told : Option ℕ) (tells : Bool) (body : List ℕ) (old new : List E) (before after : Lines) → new ≡ old → (IsTrue tells → Exchanges [] [] before after)
      → Cuts known readable adds replies told tells Lacks body old (working new) before after
  lacks_before told tells body old new before after same still = record {
    part = [];
    last = inl refl;
    steps = ap (λ (l : List E). working l) same;
    moments = tt;
    put = still;
    puts = refl;
  }
