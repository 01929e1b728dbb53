use Rattle.std.proofs.Common.{◌≡◌, ℕ, List, [], ◌∷◌, None, Ok, Err, refl, true, sym, subst, ap, ◌∙◌}
use Rattle.std.specs.Prelude.{if◌then◌else◌}
use Rattle.std.proofs.lemmas.Bool.{false≢true, cond-true, cond-false}
use Rattle.cap_entries.specs.declared.terminal.TermEntry.{TermEntry}
use Rattle.cap_entries.specs.declared.terminal.TermEntry.TheVariants.{Closed}
use Rattle.cap_entries.specs.Allowed.{allowed}
use Rattle.cap_schedule.specs.declared.outcome.Outcome.TheVariants as O
use Rattle.cap_terminal.specs.Adding.{close_as}
use Rattle.cap_terminal.specs.Causes.{IsCloseCause}
use Rattle.cap_terminal.specs.declared.faults.CloseFault.{CloseFault}
use Rattle.cap_world.specs.World.{Closes}
use Rattle.cap_plays.specs.declared.fault.LineFault.TheVariants.{Disk}
use Rattle.cap_plays.specs.Turns.{Turn, makes, says, adds, next_period}
use Rattle.cap_terminal_lines.specs.declared.said.Said.{Said}
use Rattle.cap_terminal_lines.specs.Acts.{LineDone}
use Rattle.cap_terminal_lines.proofs.Steps.{add_ok, add_disk, grew, broke, rested, rested_ready, still_works, said_line}
use Rattle.cap_terminal_lines.proofs.Cancels.{may_close, may_not_close}
use Rattle.cap_terminal_lines.proofs.sales.close.Goals as goal

pub returns-in-Ok-clause-done : goal.returns-in-Ok-clause-done
returns-in-Ok-clause-done g c = λ heard s places armed ended before ready.
    let J = g.J.Journal in
    let old = c.args.terminal.now in
    let new = c.close_period.new.self in
    let is : J.entries old ≡ s.settled = ready.stands.end.entries_are refl in
    let L : Turn → Type 0 = λ v. LineDone J 4 new heard s places armed ended before v (Ok c.quiet.result) in
    let e = c.in-Ok.ensures in
    let p = next_period (J.entries old) in
    let may = may_close (J.entries old) c.setup.ensures.legal e.answers.1 in
    let grows = grew J g.met.J.Journal.kept g.met.J.Journal.told_is_readable old new (Closed p) e.adds in
    let told = c.quiet.ensures ∙ ap (λ (k : ℕ). let d : Said = record { outcome = O.ClosedPeriod k; sent = None } in d) (e.period.0) in
    subst (λ (l : List TermEntry). L (if allowed l (Closed (next_period l)) then makes (adds Closes (Closed (next_period l))) (O.ClosedPeriod (next_period l)) else says O.PeriodLimit)) is
    (subst (λ (v : Turn). L v) (sym (cond-true (allowed (J.entries old) (Closed p)) _ _ may))
    (add_ok J old new (Closed p) (O.ClosedPeriod p) c.quiet.result told grows Closes heard s places armed ended before ready))

pub returns-in-Err-PeriodLimit-clause-done : goal.returns-in-Err-PeriodLimit-clause-done
returns-in-Err-PeriodLimit-clause-done g c = λ heard s places armed ended before ready.
    let J = g.J.Journal in
    let old = c.args.terminal.now in
    let new = c.close_period.new.self in
    let is : J.entries old ≡ s.settled = ready.stands.end.entries_are refl in
    let L : Turn → Type 0 = λ v. LineDone J 4 new heard s places armed ended before v (Ok c.quiet-in-Err-PeriodLimit.result) in
    let e = c.in-Err-PeriodLimit.ensures in
    let rests = rested J g.met.J.Journal.kept old new (Closed (next_period (J.entries old))) (close_as c.in-Err-PeriodLimit.field-0) (ap close_as c.in-Err-PeriodLimit.field-0-is) e.adds before ready.counts_are ready.few ready.told ready.works in
    let again = rested_ready J 4 old new heard s places armed before ready rests in
    let cause = subst (λ (f : CloseFault). IsCloseCause (J.has_failed old) (J.entries old) f) c.in-Err-PeriodLimit.field-0-is e.refused in
    subst (λ (l : List TermEntry). L (if allowed l (Closed (next_period l)) then makes (adds Closes (Closed (next_period l))) (O.ClosedPeriod (next_period l)) else says O.PeriodLimit)) is
    (subst (λ (v : Turn). L v) (sym (cond-false (allowed (J.entries old) (Closed (next_period (J.entries old)))) _ _ (may_not_close (J.entries old) cause.1)))
    (said_line J 4 new heard s places armed ended before O.PeriodLimit c.quiet-in-Err-PeriodLimit.result again c.quiet-in-Err-PeriodLimit.ensures))

pub returns-in-Err-Disk-clause-done : goal.returns-in-Err-Disk-clause-done
returns-in-Err-Disk-clause-done g c = λ heard s places armed ended before ready.
    let J = g.J.Journal in
    let old = c.args.terminal.now in
    let new = c.close_period.new.self in
    let is : J.entries old ≡ s.settled = ready.stands.end.entries_are refl in
    let L : Turn → Type 0 = λ v. LineDone J 4 new heard s places armed ended before v (Err Disk) in
    let e = c.in-Err-Disk.ensures in
    let p = next_period (J.entries old) in
    let cause = subst (λ (f : CloseFault). IsCloseCause (J.has_failed old) (J.entries old) f) c.in-Err-Disk.field-0-is e.refused in
    let may = may_close (J.entries old) c.setup.ensures.legal cause.1 in
    let breaks = broke J g.met.J.Journal.kept g.met.J.Journal.counts_now old new (Closed p) (close_as c.in-Err-Disk.field-0) (ap close_as c.in-Err-Disk.field-0-is) e.adds in
    subst (λ (l : List TermEntry). L (if allowed l (Closed (next_period l)) then makes (adds Closes (Closed (next_period l))) (O.ClosedPeriod (next_period l)) else says O.PeriodLimit)) is
    (subst (λ (v : Turn). L v) (sym (cond-true (allowed (J.entries old) (Closed p)) _ _ may))
    (add_disk J old new (Closed p) (O.ClosedPeriod p) breaks Closes heard s places armed ended before ready))

pub returns-in-Err-Failed-clause-done : goal.returns-in-Err-Failed-clause-done
returns-in-Err-Failed-clause-done g c = λ heard s places armed ended before ready.
    let J = g.J.Journal in
    let old = c.args.terminal.now in
    let failed : J.has_failed old ≡ true = subst (λ (f : CloseFault). IsCloseCause (J.has_failed old) (J.entries old) f) c.in-Err-Failed.field-0-is c.in-Err-Failed.ensures.refused in
    absurd (false≢true (sym ready.works ∙ failed))

pub returns-in-Err-Memory-clause-done : goal.returns-in-Err-Memory-clause-done
returns-in-Err-Memory-clause-done g c = λ heard s places armed ended before ready. tt

pub returns-in-Ok-clause-works : goal.returns-in-Ok-clause-works
returns-in-Ok-clause-works g c = c.in-Ok.ensures.adds.stays.still (λ e. cc)

pub returns-in-Err-PeriodLimit-clause-works : goal.returns-in-Err-PeriodLimit-clause-works
returns-in-Err-PeriodLimit-clause-works g c =
    let J = g.J.Journal in
    let old = c.args.terminal.now in
    still_works J old c.close_period.new.self (Closed (next_period (J.entries old)) ∷ []) (close_as c.in-Err-PeriodLimit.field-0) (ap close_as c.in-Err-PeriodLimit.field-0-is) c.in-Err-PeriodLimit.ensures.adds
