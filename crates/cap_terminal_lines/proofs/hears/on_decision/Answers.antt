use Rattle.std.proofs.Common.{◌≡◌, List, [], Ok, refl, sym, subst, ap}
use Rattle.std.proofs.lemmas.Bool.{false≢true, false_from_ne_true, cond-true, cond-false}
use Rattle.cap_entries.specs.declared.terminal.TermEntry.{TermEntry}
use Rattle.cap_entries.specs.Entry.{is_pending}
use Rattle.cap_sale.specs.Tokens.{BegunSale}
use Rattle.cap_schedule.specs.declared.outcome.Outcome.TheVariants as O
use Rattle.cap_plays.specs.Turns.{Decided, makes, on_authorisation}
use Rattle.cap_terminal_lines.specs.declared.said.Said.{Said}
use Rattle.cap_plays.specs.Texts.{IsSent}
use Rattle.cap_terminal_lines.specs.Acts.{LineDone}
use Rattle.cap_terminal_lines.proofs.Quiet.{quiet_line}
use Rattle.cap_terminal_lines.proofs.hears.on_decision.Goals as goal

pub decide-requires-clause-live : goal.decide-requires-clause-live
decide-requires-clause-live g c = c.in-Some.ensures.live

pub decide-requires-clause-sale : goal.decide-requires-clause-sale
decide-requires-clause-sale g c = ap (λ (b : BegunSale). b.n) c.in-Some.ensures.token

pub returns-in-Some-clause-done : goal.returns-in-Some-clause-done
returns-in-Some-clause-done g c = λ action heard s places armed ended before ready.
    let J = g.J.Journal in
    let old = c.args.terminal.now in
    let new = c.decide.new.terminal in
    let w = c.args.walks_out in
    let answer = c.args.answer.now in
    let is : J.entries old ≡ s.settled = ready.stands.end.entries_are refl in
    let M : Decided → Type 0 = λ d. LineDone J 4 new heard s places armed ended before (makes (record { action = action; added = d.added; sent = [] }) d.outcome) c.decide.result in
    subst (λ (l : List TermEntry). M (on_authorisation w l answer)) is
    (subst M (sym (cond-true (is_pending (J.entries old) answer.n) _ _ (c.in-Some.ensures.exact.0 refl))) (c.decide.ensures.done action heard s places armed ended before ready))

pub returns-in-None-clause-done : goal.returns-in-None-clause-done
returns-in-None-clause-done g c = λ action heard s places armed ended before ready.
    let J = g.J.Journal in
    let old = c.args.terminal.now in
    let w = c.args.walks_out in
    let answer = c.args.answer.now in
    let is : J.entries old ≡ s.settled = ready.stands.end.entries_are refl in
    let none = false_from_ne_true _ (λ t. false≢true (c.in-None.ensures.exact.1 t)) in
    let M : Decided → Type 0 = λ d. LineDone J 4 old heard s places armed ended before (makes (record { action = action; added = d.added; sent = [] }) d.outcome) (Ok c.quiet.result) in
    subst (λ (l : List TermEntry). M (on_authorisation w l answer)) is
    (subst M (sym (cond-false (is_pending (J.entries old) answer.n) _ _ none))
    (quiet_line J 4 old heard s places armed ended before action [] (O.NotPending answer.n) c.quiet.result ready (ap (λ (d : Said). d.outcome) c.quiet.ensures) (subst (λ (d : Said). IsSent d.sent []) (sym c.quiet.ensures) tt)))
