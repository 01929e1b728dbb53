-- A run of the driver, and then one connection more.
use Rattle.std.proofs.Common.{sym, ◌∙◌, ap, subst, append_assoc}
use Rattle.std.proofs.lemmas.List.{append-nil}
use Rattle.std.specs.Prelude.{◌≡◌, ℕ, Bool, List, [], ◌∷◌, ◌++◌, Option, IsTrue}
use Rattle.std.specs.List.{AllByRecursion}
use Rattle.cap_link.specs.Lines.{Lines, Opens}
use Rattle.cap_answering.specs.declared.reply.Reply.{Reply}
use Rattle.cap_answering.specs.Steps.{Event}
use Rattle.cap_answering.specs.Steps.{EndState, Steps, steps_more}
use Rattle.cap_drive.specs.Frames.{Task, IsTold, Does, Tries}
use Rattle.cap_drive.specs.Connections.{Connection, events_of, all_events, moments_of, IsServed, Talks, HostRun}

events_push : (cs : List Connection) (c : Connection) → all_events (cs ++ c ∷ []) ≡ all_events cs ++ events_of c
events_push [] c = append-nil (events_of c)
events_push (d ∷ cs) c = ap (λ (l : List (Event Task)). events_of d ++ l) (events_push cs c) ∙ sym (append_assoc (events_of d) (all_events cs) (events_of c))

all_push : (P : Connection → Type 0) (cs : List Connection) (c : Connection) → AllByRecursion P cs → P c → AllByRecursion P (cs ++ c ∷ [])
all_push P [] c all p = (p, all)
all_push P (d ∷ cs) c (first, all) p = (first, all_push P cs c all p)

talks_push : (before between after : Lines) (cs : List Connection) (c : Connection) → Talks before cs between → Talks between (c ∷ []) after → Talks before (cs ++ c ∷ []) after
talks_push before between after [] c is (opened, talked, opens, exchanges, emptied, end) =
    (opened, talked, subst (λ (v : Lines). Opens v opened) is opens, exchanges, emptied, end)
talks_push before between after (d ∷ cs) c (opened, talked, opens, exchanges, emptied, rest) last =
    (opened, talked, opens, exchanges, emptied, talks_push talked between after cs c rest last)

module _ {E : Type 0} (known readable : Bool) (adds : List E → ℕ → List ℕ → List E → Type 0) (replies : List E → ℕ → List ℕ → Reply → Type 0) (told : Option ℕ) (link_tells : Bool) where
  pub run_more : (cs : List Connection) (c : Connection) (old mid new : EndState E) (before between after : Lines)
      → HostRun known readable adds replies told link_tells cs old mid before between
      → Steps known (Does readable adds replies) (Tries readable adds replies) mid (events_of c) new
      → IsServed c → AllByRecursion (IsTold told) (moments_of c) → (IsTrue link_tells → Talks between (c ∷ []) after)
      → HostRun known readable adds replies told link_tells (cs ++ c ∷ []) old new before after
  run_more cs c old mid new before between after run steps served moments talks = record {
    steps = subst (λ (l : List (Event Task)). Steps known (Does readable adds replies) (Tries readable adds replies) old l new) (sym (events_push cs c))
        (steps_more known (Does readable adds replies) (Tries readable adds replies) old mid new (all_events cs) (events_of c) run.steps steps);
    each = all_push IsServed cs c run.each served;
    moments = all_push (λ (d : Connection). AllByRecursion (IsTold told) (moments_of d)) cs c run.moments moments;
    talks = λ tells. talks_push before between after cs c (run.talks tells) (talks tells);
  }
