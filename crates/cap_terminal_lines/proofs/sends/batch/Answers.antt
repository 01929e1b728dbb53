use Rattle.std.proofs.Common.{◌≡◌, ℕ, ◌+◌, ◌<◌, ◌≤◌, Bool, List, length, take, Option, None, Ok, refl, true, false, sym, subst, arith, length-drop}
use Rattle.std.specs.Prelude.{IfSome, IsSome, nat_lt, if◌then◌else◌}
use Rattle.std.proofs.lemmas.Bool.{false≢true, cond-true, cond-false, lt-ltb, le-ltb}
use Rattle.cap_batch_msgs.specs.declared.body.BatchBody.TheVariants.{Batch}
use Rattle.cap_msgs.specs.declared.message.Message.{Message}
use Rattle.cap_msgs.specs.declared.message.Body.TheVariants.{Batch as Of_batch}
use Rattle.cap_entries.specs.declared.terminal.TermEntry.{TermEntry}
use Rattle.cap_entries.specs.Acked.{acked}
use Rattle.cap_entries.specs.Items.{items}
use Rattle.cap_plain.specs.Queue.{queue}
use Rattle.cap_terminal_answers.specs.Sends.{message_of, Sends, Batch_of}
use Rattle.cap_schedule.specs.declared.outcome.Outcome.TheVariants as O
use Rattle.cap_plays.specs.Turns.{Turn, says, sends}
use Rattle.cap_terminal_lines.specs.Acts.{LineDone}
use Rattle.cap_terminal_lines.proofs.Steps.{said_line}
use Rattle.cap_terminal_lines.proofs.Quiet.{sent_line}
use Rattle.cap_terminal_lines.proofs.sends.batch.Goals as goal
use Rattle.std.proofs.lemmas.Bool.{ltb-true, ltb-false}

not_more : (a b : ℕ) → (a < b → ⊥) → b ≤ a
not_more a b never = by_test (nat_lt a b) refl
  where
    by_test : (t : Bool) → nat_lt a b ≡ t → b ≤ a
    by_test true is = absurd (never (ltb-true a b is))
    by_test false is = ltb-false a b is

pub returns-in-Ok-Some : goal.returns-in-Ok-Some
returns-in-Ok-Some g c = λ heard s places armed ended before ready count.
    let J = g.J.Journal in
    let now = c.args.terminal.now in
    let is : J.entries now ≡ s.settled = ready.stands.end.entries_are refl in
    let L : Turn → Type 0 = λ v. LineDone J 0 now heard s places armed ended before v (c.send.result) in
    let m = subst (λ (o : Option Message). IfSome o (λ message. Sends (J.entries now) (Batch_of c.args.limit 0) c.args.moment message)) c.in-Ok-Some.field-0-is c.in-Ok-Some.ensures.message in
    let made = m.4 in
    let is_message : c.in-Ok-Some.message ≡ message_of s.settled made.0 None (acked s.settled + 1) (Of_batch (Batch (take c.args.limit (queue s.settled)))) = subst (λ (l : List TermEntry). c.in-Ok-Some.message ≡ message_of l made.0 None (acked l + 1) (Of_batch (Batch (take c.args.limit (queue l))))) is made.2 in
    let line = sent_line J now heard s places armed ended before (Batch_of c.args.limit 0) c.args.moment c.args.sent made.0 (acked s.settled + 1) (Of_batch (Batch (take c.args.limit (queue s.settled)))) c.in-Ok-Some.message c.send.result ready count is_message c.send.ensures in
    (made.0, made.1, subst (λ (l : List TermEntry). L (if nat_lt 0 (length (queue l)) then sends s (Batch_of c.args.limit 0) c.args.moment made.0 (acked s.settled + 1) (Of_batch (Batch (take c.args.limit (queue s.settled)))) else says O.NothingQueued)) is (subst (λ (v : Turn). L v) (sym (cond-true (nat_lt 0 (length (queue (J.entries now)))) _ _ (lt-ltb _ _ m.3))) line))

pub returns-in-Ok-None : goal.returns-in-Ok-None
returns-in-Ok-None g c = λ heard s places armed ended before ready count.
    let J = g.J.Journal in
    let now = c.args.terminal.now in
    let is : J.entries now ≡ s.settled = ready.stands.end.entries_are refl in
    let L : Turn → Type 0 = λ v. LineDone J 0 now heard s places armed ended before v (Ok c.quiet.result) in
    let short : length (items (J.entries now)) ≤ acked (J.entries now) = not_more (acked (J.entries now)) (length (items (J.entries now))) (λ more. false≢true (subst (λ (o : Option Message). IsSome o) c.in-Ok-None.field-0-is (c.in-Ok-None.ensures.some.1 more))) in
    let empty : length (queue (J.entries now)) ≤ 0 = omega (arith, length-drop (acked (J.entries now)) (items (J.entries now)), short) in
    let line = said_line J 0 now heard s places armed ended before O.NothingQueued c.quiet.result ready c.quiet.ensures in
    (c.date_of.ensures.0, c.date_of.ensures.1, subst (λ (l : List TermEntry). L (if nat_lt 0 (length (queue l)) then sends s (Batch_of c.args.limit 0) c.args.moment c.date_of.ensures.0 (acked s.settled + 1) (Of_batch (Batch (take c.args.limit (queue s.settled)))) else says O.NothingQueued)) is (subst (λ (v : Turn). L v) (sym (cond-false (nat_lt 0 (length (queue (J.entries now)))) _ _ (le-ltb _ _ empty))) line))

pub returns-in-Err : goal.returns-in-Err
returns-in-Err g c = λ heard s places armed ended before ready count. (c.date_of.ensures.0, c.date_of.ensures.1, tt)
