use Rattle.std.proofs.Common.{◌≡◌, ℕ, List, None, Ok, refl, sym, subst, ap}
use Rattle.std.specs.Prelude.{if◌then◌else◌}
use Rattle.std.proofs.lemmas.Bool.{false≢true, false_from_ne_true, cond-true, cond-false}
use Rattle.cap_sale_msgs.specs.declared.body.SaleBody.TheVariants.{AuthRequest}
use Rattle.cap_msgs.specs.declared.message.Body.TheVariants.{Sale as Of_sale}
use Rattle.cap_entries.specs.declared.terminal.TermEntry.{TermEntry}
use Rattle.cap_entries.specs.Entry.{is_pending, amount_of, account_of}
use Rattle.cap_sale.specs.Tokens.{BegunSale}
use Rattle.cap_terminal_answers.specs.Sends.{message_of, Sends, Ask}
use Rattle.cap_schedule.specs.declared.outcome.Outcome.TheVariants as O
use Rattle.cap_plays.specs.Turns.{Turn, says, sends}
use Rattle.cap_terminal_lines.specs.Acts.{LineDone}
use Rattle.cap_terminal_lines.proofs.Steps.{said_line}
use Rattle.cap_terminal_lines.proofs.Quiet.{sent_line}
use Rattle.cap_terminal_lines.proofs.sends.ask.Goals as goal

pub ask-message-requires-clause-live : goal.ask-message-requires-clause-live
ask-message-requires-clause-live g c = c.in-Some.ensures.live

pub returns-in-Some : goal.returns-in-Some
returns-in-Some g c = λ heard s places armed ended before ready count.
    let J = g.J.Journal in
    let now = c.args.terminal.now in
    let is : J.entries now ≡ s.settled = ready.stands.end.entries_are refl in
    let L : Turn → Type 0 = λ v. LineDone J 0 now heard s places armed ended before v (c.send.result) in
    let number : c.in-Some.begun.n ≡ c.args.n = ap (λ (b : BegunSale). b.n) c.in-Some.ensures.token in
    let m = subst (λ (k : ℕ). Sends (J.entries now) (Ask k) c.args.moment c.ask-message.result) number c.ask-message.ensures in
    let made = m.1 in
    let is_message : c.ask-message.result ≡ message_of s.settled made.0 None (c.args.n) (Of_sale (AuthRequest (amount_of s.settled c.args.n) (account_of s.settled c.args.n))) = subst (λ (l : List TermEntry). c.ask-message.result ≡ message_of l made.0 None (c.args.n) (Of_sale (AuthRequest (amount_of l c.args.n) (account_of l c.args.n)))) is made.2 in
    let line = sent_line J now heard s places armed ended before (Ask c.args.n) c.args.moment c.args.sent made.0 (c.args.n) (Of_sale (AuthRequest (amount_of s.settled c.args.n) (account_of s.settled c.args.n))) c.ask-message.result c.send.result ready count is_message c.send.ensures in
    (made.0, made.1, subst (λ (l : List TermEntry). L (if is_pending l c.args.n then sends s (Ask c.args.n) c.args.moment made.0 c.args.n (Of_sale (AuthRequest (amount_of s.settled c.args.n) (account_of s.settled c.args.n))) else says (O.NotPending c.args.n))) is (subst (λ (v : Turn). L v) (sym (cond-true (is_pending (J.entries now) c.args.n) _ _ m.0)) line))

pub returns-in-None : goal.returns-in-None
returns-in-None g c = λ heard s places armed ended before ready count.
    let J = g.J.Journal in
    let now = c.args.terminal.now in
    let is : J.entries now ≡ s.settled = ready.stands.end.entries_are refl in
    let L : Turn → Type 0 = λ v. LineDone J 0 now heard s places armed ended before v (Ok c.quiet.result) in
    let none = false_from_ne_true _ (λ t. false≢true (c.in-None.ensures.exact.1 t)) in
    let line = said_line J 0 now heard s places armed ended before (O.NotPending c.args.n) c.quiet.result ready c.quiet.ensures in
    (c.date_of.ensures.0, c.date_of.ensures.1, subst (λ (l : List TermEntry). L (if is_pending l c.args.n then sends s (Ask c.args.n) c.args.moment c.date_of.ensures.0 c.args.n (Of_sale (AuthRequest (amount_of s.settled c.args.n) (account_of s.settled c.args.n))) else says (O.NotPending c.args.n))) is (subst (λ (v : Turn). L v) (sym (cond-false (is_pending (J.entries now) c.args.n) _ _ none)) line))
