use Rattle.std.proofs.Common.{◌≡◌, [], None, Ok, refl, false, sym, subst, ap, ◌∙◌}
use Rattle.std.proofs.lemmas.Option.{none-some}
use Rattle.cap_terminal_answers.specs.declared.handled.Handled.{Handled}
use Rattle.cap_plays.specs.Turns.{Decided, makes, on_handled}
use Rattle.cap_terminal_lines.specs.declared.said.Said.{Said}
use Rattle.cap_plays.specs.Texts.{IsSent}
use Rattle.cap_terminal_lines.specs.Acts.{LineDone}
use Rattle.cap_terminal_lines.specs.Hears.{decision_in, DecidedDone, says_only}
use Rattle.cap_terminal_lines.proofs.Quiet.{quiet_line}
use Rattle.cap_terminal_lines.proofs.Hearing.{decision_is, alone_decided}
use Rattle.cap_terminal_lines.proofs.hears.after_answer.Goals as goal

pub returns-in-Some-clause-done : goal.returns-in-Some-clause-done
returns-in-Some-clause-done g c =
    let J = g.J.Journal in
    let handled_is = decision_is c.args.handled.now c.in-Some.answer c.in-Some.ensures in
    subst (λ (h : Handled). DecidedDone J c.args.terminal.now c.on_decision.new.terminal (λ l. on_handled c.args.walks_out l h) c.on_decision.result) (sym handled_is) c.on_decision.ensures.done

pub returns-in-Some-clause-says : goal.returns-in-Some-clause-says
returns-in-Some-clause-says g c = λ alone. absurd (none-some c.in-Some.answer (sym (c.in-Some.ensures ∙ alone)))

pub returns-in-Some-clause-stays : goal.returns-in-Some-clause-stays
returns-in-Some-clause-stays g c = λ alone. absurd (none-some c.in-Some.answer (sym (c.in-Some.ensures ∙ alone)))

pub returns-in-None-clause-done : goal.returns-in-None-clause-done
returns-in-None-clause-done g c = λ action heard s places armed ended before ready.
    let J = g.J.Journal in
    let old = c.args.terminal.now in
    let alone : decision_in c.args.handled.now ≡ None = sym c.in-None.ensures in
    let outcome = (on_handled false [] c.args.handled.now).outcome in
    let told = c.quiet.ensures ∙ ap says_only c.outcome_of.ensures in
    subst (λ (d : Decided). LineDone J 4 old heard s places armed ended before (makes (record { action = action; added = d.added; sent = [] }) d.outcome) (Ok c.quiet.result)) (sym (alone_decided c.args.walks_out s.settled c.args.handled.now alone))
    (quiet_line J 4 old heard s places armed ended before action [] outcome c.quiet.result ready (ap (λ (d : Said). d.outcome) told) (subst (λ (d : Said). IsSent d.sent []) (sym told) tt))

pub returns-in-None-clause-says : goal.returns-in-None-clause-says
returns-in-None-clause-says g c = λ alone.
    let told = c.quiet.ensures ∙ ap says_only c.outcome_of.ensures in
    ap (λ (d : Said). Ok d) told

pub returns-in-None-clause-stays : goal.returns-in-None-clause-stays
returns-in-None-clause-stays g c = λ alone. refl
