use Rattle.std.proofs.Common.{◌≡◌, ℕ, List, Ok, refl, sym, subst, ap}
use Rattle.std.specs.Prelude.{if◌then◌else◌}
use Rattle.std.proofs.lemmas.Bool.{false≢true, false_from_ne_true, cond-true, cond-false}
use Rattle.cap_entries.specs.declared.terminal.TermEntry.{TermEntry}
use Rattle.cap_entries.specs.declared.terminal.TermEntry.TheVariants.{Voided}
use Rattle.cap_entries.specs.Entry.{is_pending}
use Rattle.cap_sale.specs.Tokens.{BegunSale}
use Rattle.cap_schedule.specs.declared.outcome.Outcome.TheVariants as O
use Rattle.cap_world.specs.World.{Gives_up}
use Rattle.cap_plays.specs.Turns.{Turn, makes, says, adds}
use Rattle.cap_terminal_lines.specs.Acts.{LineDone}
use Rattle.cap_terminal_lines.proofs.Steps.{said_line}
use Rattle.cap_terminal_lines.proofs.sales.void.Goals as goal

pub void_begun-requires : goal.void_begun-requires
void_begun-requires g c = c.in-Some.ensures.live

pub returns-in-Some-clause-done : goal.returns-in-Some-clause-done
returns-in-Some-clause-done g c = λ heard s places armed ended before ready.
    let J = g.J.Journal in
    let old = c.args.terminal.now in
    let new = c.void_begun.new.terminal in
    let n = c.args.n in
    let is : J.entries old ≡ s.settled = ready.stands.end.entries_are refl in
    let L : Turn → Type 0 = λ v. LineDone J 4 new heard s places armed ended before v c.void_begun.result in
    let pending = c.in-Some.ensures.exact.0 refl in
    let number = ap (λ (b : BegunSale). b.n) c.in-Some.ensures.token in
    subst (λ (l : List TermEntry). L (if is_pending l n then makes (adds (Gives_up n) (Voided n)) (O.GivenUp n) else says (O.NotPending n))) is
    (subst (λ (v : Turn). L v) (sym (cond-true (is_pending (J.entries old) n) _ _ pending))
    (subst (λ (k : ℕ). L (makes (adds (Gives_up n) (Voided k)) (O.GivenUp k))) number (c.void_begun.ensures.done (Gives_up n) heard s places armed ended before ready)))

pub returns-in-None-clause-done : goal.returns-in-None-clause-done
returns-in-None-clause-done g c = λ heard s places armed ended before ready.
    let J = g.J.Journal in
    let old = c.args.terminal.now in
    let n = c.args.n in
    let is : J.entries old ≡ s.settled = ready.stands.end.entries_are refl in
    let L : Turn → Type 0 = λ v. LineDone J 4 old heard s places armed ended before v (Ok c.quiet.result) in
    let none = false_from_ne_true _ (λ t. false≢true (c.in-None.ensures.exact.1 t)) in
    subst (λ (l : List TermEntry). L (if is_pending l n then makes (adds (Gives_up n) (Voided n)) (O.GivenUp n) else says (O.NotPending n))) is
    (subst (λ (v : Turn). L v) (sym (cond-false (is_pending (J.entries old) n) _ _ none))
    (said_line J 4 old heard s places armed ended before (O.NotPending n) c.quiet.result ready c.quiet.ensures))
