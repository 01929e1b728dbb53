use Rattle.std.proofs.Common.{◌≡◌, List, None, Ok, refl, sym, subst}
use Rattle.std.proofs.lemmas.Bool.{cond-true}
use Rattle.cap_sale_msgs.specs.declared.body.SaleBody.TheVariants.{CancelRequest}
use Rattle.cap_msgs.specs.declared.message.Body.TheVariants.{Sale as Of_sale}
use Rattle.cap_entries.specs.declared.terminal.TermEntry.{TermEntry}
use Rattle.cap_entries.specs.declared.terminal.TermEntry.TheVariants.{Cancelled}
use Rattle.cap_entries.specs.Entry.{amount_of}
use Rattle.cap_entries.specs.Allowed.{allowed}
use Rattle.cap_terminal_answers.specs.Sends.{message_of, Ask_cancel}
use Rattle.cap_terminal.specs.Causes.{IsAskCause}
use Rattle.cap_terminal.specs.declared.faults.AskFault.{AskFault}
use Rattle.cap_schedule.specs.declared.outcome.Outcome.TheVariants as O
use Rattle.cap_plays.specs.Turns.{Turn, sends, if_cancellable}
use Rattle.cap_terminal_lines.specs.Acts.{LineDone}
use Rattle.cap_terminal_lines.proofs.Steps.{said_line}
use Rattle.cap_terminal_lines.proofs.Quiet.{sent_line}
use Rattle.cap_terminal_lines.proofs.Cancels.{no_sale, not_completed, already_cancelled}
use Rattle.cap_terminal_lines.proofs.sends.ask_cancel.Goals as goal

pub returns-in-Ok : goal.returns-in-Ok
returns-in-Ok g c = λ heard s places armed ended before ready count.
    let J = g.J.Journal in
    let now = c.args.terminal.now in
    let is : J.entries now ≡ s.settled = ready.stands.end.entries_are refl in
    let L : Turn → Type 0 = λ v. LineDone J 0 now heard s places armed ended before v (c.send.result) in
    let m = c.in-Ok.ensures.message in
    let made = m.1 in
    let is_message : c.in-Ok.message ≡ message_of s.settled made.0 None (c.args.n) (Of_sale (CancelRequest (amount_of s.settled c.args.n))) = subst (λ (l : List TermEntry). c.in-Ok.message ≡ message_of l made.0 None (c.args.n) (Of_sale (CancelRequest (amount_of l c.args.n)))) is made.2 in
    let line = sent_line J now heard s places armed ended before (Ask_cancel c.args.n) c.args.moment c.args.sent made.0 (c.args.n) (Of_sale (CancelRequest (amount_of s.settled c.args.n))) c.in-Ok.message c.send.result ready count is_message c.send.ensures in
    (made.0, made.1, subst (λ (l : List TermEntry). L (if_cancellable l c.args.n (sends s (Ask_cancel c.args.n) c.args.moment made.0 c.args.n (Of_sale (CancelRequest (amount_of s.settled c.args.n)))))) is (subst (λ (v : Turn). L v) (sym (cond-true (allowed (J.entries now) (Cancelled c.args.n)) _ _ m.0)) line))

pub returns-in-Err-NoSale : goal.returns-in-Err-NoSale
returns-in-Err-NoSale g c = λ heard s places armed ended before ready count.
    let J = g.J.Journal in
    let now = c.args.terminal.now in
    let is : J.entries now ≡ s.settled = ready.stands.end.entries_are refl in
    let L : Turn → Type 0 = λ v. LineDone J 0 now heard s places armed ended before v (Ok c.quiet.result) in
    let turn : Turn = (sends s (Ask_cancel c.args.n) c.args.moment c.date_of.ensures.0 c.args.n (Of_sale (CancelRequest (amount_of s.settled c.args.n)))) in
    let cause = subst (λ (f : AskFault). IsAskCause (J.entries now) c.args.n f) c.in-Err-NoSale.field-0-is c.in-Err-NoSale.ensures.refused in
    let told = c.quiet.ensures in
    let line = said_line J 0 now heard s places armed ended before (O.NoSale c.args.n) c.quiet.result ready told in
    (c.date_of.ensures.0, c.date_of.ensures.1, subst (λ (l : List TermEntry). L (if_cancellable l c.args.n turn)) is (subst (λ (v : Turn). L v) (sym (no_sale (J.entries now) c.args.n turn c.setup.ensures.legal cause.1)) line))

pub returns-in-Err-NotCompleted : goal.returns-in-Err-NotCompleted
returns-in-Err-NotCompleted g c = λ heard s places armed ended before ready count.
    let J = g.J.Journal in
    let now = c.args.terminal.now in
    let is : J.entries now ≡ s.settled = ready.stands.end.entries_are refl in
    let L : Turn → Type 0 = λ v. LineDone J 0 now heard s places armed ended before v (Ok c.quiet-in-Err-NotCompleted.result) in
    let turn : Turn = (sends s (Ask_cancel c.args.n) c.args.moment c.date_of.ensures.0 c.args.n (Of_sale (CancelRequest (amount_of s.settled c.args.n)))) in
    let cause = subst (λ (f : AskFault). IsAskCause (J.entries now) c.args.n f) c.in-Err-NotCompleted.field-0-is c.in-Err-NotCompleted.ensures.refused in
    let told = c.quiet-in-Err-NotCompleted.ensures in
    let line = said_line J 0 now heard s places armed ended before (O.NotCompleted c.args.n) c.quiet-in-Err-NotCompleted.result ready told in
    (c.date_of.ensures.0, c.date_of.ensures.1, subst (λ (l : List TermEntry). L (if_cancellable l c.args.n turn)) is (subst (λ (v : Turn). L v) (sym (not_completed (J.entries now) c.args.n turn cause.1 cause.2)) line))

pub returns-in-Err-AlreadyCancelled : goal.returns-in-Err-AlreadyCancelled
returns-in-Err-AlreadyCancelled g c = λ heard s places armed ended before ready count.
    let J = g.J.Journal in
    let now = c.args.terminal.now in
    let is : J.entries now ≡ s.settled = ready.stands.end.entries_are refl in
    let L : Turn → Type 0 = λ v. LineDone J 0 now heard s places armed ended before v (Ok c.quiet-in-Err-AlreadyCancelled.result) in
    let turn : Turn = (sends s (Ask_cancel c.args.n) c.args.moment c.date_of.ensures.0 c.args.n (Of_sale (CancelRequest (amount_of s.settled c.args.n)))) in
    let cause = subst (λ (f : AskFault). IsAskCause (J.entries now) c.args.n f) c.in-Err-AlreadyCancelled.field-0-is c.in-Err-AlreadyCancelled.ensures.refused in
    let told = c.quiet-in-Err-AlreadyCancelled.ensures in
    let line = said_line J 0 now heard s places armed ended before (O.AlreadyCancelled c.args.n) c.quiet-in-Err-AlreadyCancelled.result ready told in
    (c.date_of.ensures.0, c.date_of.ensures.1, subst (λ (l : List TermEntry). L (if_cancellable l c.args.n turn)) is (subst (λ (v : Turn). L v) (sym (already_cancelled (J.entries now) c.args.n turn c.setup.ensures.legal cause.1)) line))
