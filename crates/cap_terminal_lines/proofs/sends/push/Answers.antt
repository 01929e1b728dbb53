use Rattle.std.proofs.Common.{◌≡◌, ◌+◌, List, Option, Some, None, Ok, refl, sym, subst}
use Rattle.std.proofs.lemmas.Bool.{false≢true}
use Rattle.std.proofs.lemmas.Option.{slice_get_within}
use Rattle.cap_base.specs.declared.item.Item.{Item}
use Rattle.cap_msgs.specs.Report.{advice_of}
use Rattle.cap_entries.specs.declared.terminal.TermEntry.{TermEntry}
use Rattle.cap_entries.specs.Acked.{acked}
use Rattle.cap_entries.specs.Items.{items}
use Rattle.cap_terminal_answers.specs.Takes.{queue_head}
use Rattle.cap_terminal_answers.specs.Sends.{message_of, Head}
use Rattle.cap_schedule.specs.declared.outcome.Outcome.TheVariants as O
use Rattle.cap_plays.specs.Turns.{Turn, sends_head}
use Rattle.cap_terminal_lines.specs.Acts.{LineDone}
use Rattle.cap_terminal_lines.proofs.Steps.{said_line}
use Rattle.cap_terminal_lines.proofs.Quiet.{sent_line}
use Rattle.cap_terminal_lines.proofs.sends.push.Goals as goal

none_or : (o : Option Item) → ((item : Item) → o ≡ Some item → ⊥) → o ≡ None
none_or None never = refl
none_or (Some item) never = absurd (never item refl)

pub returns-in-Some : goal.returns-in-Some
returns-in-Some g c = λ heard s places armed ended before ready count.
    let J = g.J.Journal in
    let now = c.args.terminal.now in
    let is : J.entries now ≡ s.settled = ready.stands.end.entries_are refl in
    let L : Turn → Type 0 = λ v. LineDone J 0 now heard s places armed ended before v (c.send.result) in
    let m = c.in-Some.ensures.message in
    let made = m.3 in
    let head : queue_head s.settled ≡ Some m.0 = subst (λ (l : List TermEntry). queue_head l ≡ Some m.0) is m.1 in
    let is_message : c.in-Some.message ≡ message_of s.settled made.0 None (acked s.settled + 1) (advice_of m.0) = subst (λ (l : List TermEntry). c.in-Some.message ≡ message_of l made.0 None (acked l + 1) (advice_of m.0)) is made.2 in
    let line = sent_line J now heard s places armed ended before (Head 0) c.args.moment c.args.sent made.0 (acked s.settled + 1) (advice_of m.0) c.in-Some.message c.send.result ready count is_message c.send.ensures in
    (made.0, made.1, subst (λ (o : Option Item). L (sends_head s c.args.moment made.0 o)) (sym head) line)

pub returns-in-None : goal.returns-in-None
returns-in-None g c = λ heard s places armed ended before ready count.
    let J = g.J.Journal in
    let now = c.args.terminal.now in
    let is : J.entries now ≡ s.settled = ready.stands.end.entries_are refl in
    let L : Turn → Type 0 = λ v. LineDone J 0 now heard s places armed ended before v (Ok c.quiet.result) in
    let past : queue_head (J.entries now) ≡ None = none_or (queue_head (J.entries now)) (λ item there. false≢true (c.in-None.ensures.some.1 (slice_get_within (items (J.entries now)) (acked (J.entries now)) item there))) in
    let head : queue_head s.settled ≡ None = subst (λ (l : List TermEntry). queue_head l ≡ None) is past in
    let line = said_line J 0 now heard s places armed ended before O.NothingQueued c.quiet.result ready c.quiet.ensures in
    (c.date_of.ensures.0, c.date_of.ensures.1, subst (λ (o : Option Item). L (sends_head s c.args.moment c.date_of.ensures.0 o)) (sym head) line)
