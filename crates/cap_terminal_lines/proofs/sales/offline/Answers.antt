use Rattle.std.proofs.Common.{◌≡◌, ℕ, List, Ok, refl, sym, subst, ap}
use Rattle.std.specs.Prelude.{nat_le, if◌then◌else◌}
use Rattle.std.proofs.lemmas.Bool.{false≢true, false_from_ne_true, cond-false}
use Rattle.cap_entries.specs.declared.terminal.TermEntry.{TermEntry}
use Rattle.cap_entries.specs.Entry.{is_pending, amount_of}
use Rattle.cap_entries.specs.Floor.{floor}
use Rattle.cap_sale.specs.Tokens.{BegunSale}
use Rattle.cap_schedule.specs.declared.outcome.Outcome.TheVariants as O
use Rattle.cap_plays.specs.Turns.{Turn, makes, says, completes_offline, offline_turn}
use Rattle.cap_terminal_lines.specs.Acts.{LineDone}
use Rattle.cap_terminal_lines.proofs.Steps.{said_line}
use Rattle.cap_terminal_lines.proofs.sales.offline.Goals as goal

pub complete_offline-requires : goal.complete_offline-requires
complete_offline-requires g c = c.in-Some.ensures.live

pub returns-in-Some-clause-done : goal.returns-in-Some-clause-done
returns-in-Some-clause-done g c = λ heard s places armed ended before ready.
    let J = g.J.Journal in
    let old = c.args.terminal.now in
    let new = c.complete_offline.new.terminal in
    let n = c.args.n in
    let is : J.entries old ≡ s.settled = ready.stands.end.entries_are refl in
    let L : Turn → Type 0 = λ v. LineDone J 4 new heard s places armed ended before v c.complete_offline.result in
    let pending = c.in-Some.ensures.exact.0 refl in
    let number = ap (λ (b : BegunSale). b.n) c.in-Some.ensures.token in
    subst (λ (k : ℕ). L (offline_turn s k)) number (c.complete_offline.ensures.done heard s places armed ended before ready)

pub returns-in-None-clause-done : goal.returns-in-None-clause-done
returns-in-None-clause-done g c = λ heard s places armed ended before ready.
    let J = g.J.Journal in
    let old = c.args.terminal.now in
    let n = c.args.n in
    let is : J.entries old ≡ s.settled = ready.stands.end.entries_are refl in
    let L : Turn → Type 0 = λ v. LineDone J 4 old heard s places armed ended before v (Ok c.quiet.result) in
    let none = false_from_ne_true _ (λ t. false≢true (c.in-None.ensures.exact.1 t)) in
    subst (λ (l : List TermEntry). L (if is_pending l n then (if nat_le (amount_of l n) (floor l) then makes (completes_offline n) (O.Sold n) else says (O.AboveFloor n)) else says (O.NotPending n))) is
    (subst (λ (v : Turn). L v) (sym (cond-false (is_pending (J.entries old) n) _ _ none))
    (said_line J 4 old heard s places armed ended before (O.NotPending n) c.quiet.result ready c.quiet.ensures))
