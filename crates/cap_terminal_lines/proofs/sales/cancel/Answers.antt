use Rattle.std.proofs.Common.{◌≡◌, ℕ, List, [], ◌∷◌, None, Ok, Err, refl, true, sym, subst, ap, ◌∙◌}
use Rattle.std.proofs.lemmas.Bool.{false≢true, cond-true}
use Rattle.cap_entries.specs.declared.terminal.TermEntry.{TermEntry}
use Rattle.cap_entries.specs.declared.terminal.TermEntry.TheVariants.{Cancelled}
use Rattle.cap_entries.specs.Allowed.{allowed}
use Rattle.cap_schedule.specs.declared.outcome.Outcome.TheVariants as O
use Rattle.cap_terminal.specs.Adding.{cancel_as}
use Rattle.cap_terminal.specs.Causes.{IsCancelCause}
use Rattle.cap_terminal.specs.declared.faults.CancelFault.{CancelFault}
use Rattle.cap_world.specs.World.{Cancels}
use Rattle.cap_plays.specs.declared.fault.LineFault.TheVariants.{Disk}
use Rattle.cap_plays.specs.Turns.{Turn, makes, adds, if_cancellable}
use Rattle.cap_terminal_lines.specs.declared.said.Said.{Said}
use Rattle.cap_terminal_lines.specs.Acts.{LineDone}
use Rattle.cap_terminal_lines.proofs.Steps.{add_ok, add_disk, grew, broke, rested, rested_ready, still_works, said_line}
use Rattle.cap_terminal_lines.proofs.Cancels.{may_cancel, no_sale, not_completed, already_cancelled}
use Rattle.cap_terminal_lines.proofs.sales.cancel.Goals as goal

pub returns-in-Ok-clause-done : goal.returns-in-Ok-clause-done
returns-in-Ok-clause-done g c = λ heard s places armed ended before ready.
    let J = g.J.Journal in
    let old = c.args.terminal.now in
    let new = c.cancel.new.self in
    let is : J.entries old ≡ s.settled = ready.stands.end.entries_are refl in
    let L : Turn → Type 0 = λ v. LineDone J 4 new heard s places armed ended before v (Ok c.quiet.result) in
    let e = c.in-Ok.ensures in
    let turn : Turn = makes (adds (Cancels c.args.n) (Cancelled c.args.n)) (O.CancelledSale c.args.n) in
    let may = may_cancel (J.entries old) c.args.n e.answers.1 e.answers.2 in
    let grows = grew J g.met.J.Journal.kept g.met.J.Journal.told_is_readable old new (Cancelled c.args.n) e.adds in
    subst (λ (l : List TermEntry). L (if_cancellable l c.args.n turn)) is
    (subst (λ (v : Turn). L v) (sym (cond-true (allowed (J.entries old) (Cancelled c.args.n)) _ _ may))
    (add_ok J old new (Cancelled c.args.n) (O.CancelledSale c.args.n) c.quiet.result c.quiet.ensures grows (Cancels c.args.n) heard s places armed ended before ready))

pub returns-in-Err-NoSale-clause-done : goal.returns-in-Err-NoSale-clause-done
returns-in-Err-NoSale-clause-done g c = λ heard s places armed ended before ready.
    let J = g.J.Journal in
    let old = c.args.terminal.now in
    let new = c.cancel.new.self in
    let is : J.entries old ≡ s.settled = ready.stands.end.entries_are refl in
    let L : Turn → Type 0 = λ v. LineDone J 4 new heard s places armed ended before v (Ok c.quiet-in-Err-NoSale.result) in
    let e = c.in-Err-NoSale.ensures in
    let rests = rested J g.met.J.Journal.kept old new (Cancelled c.args.n) (cancel_as c.in-Err-NoSale.field-0) (ap cancel_as c.in-Err-NoSale.field-0-is) e.adds before ready.counts_are ready.few ready.told ready.works in
    let again = rested_ready J 4 old new heard s places armed before ready rests in
    let turn : Turn = makes (adds (Cancels c.args.n) (Cancelled c.args.n)) (O.CancelledSale c.args.n) in
    let cause = subst (λ (f : CancelFault). IsCancelCause (J.has_failed old) (J.entries old) c.args.n f) c.in-Err-NoSale.field-0-is e.refused in
    let told = c.quiet-in-Err-NoSale.ensures ∙ ap (λ (k : ℕ). let d : Said = record { outcome = O.NoSale k; sent = None } in d) (cause.1) in
    subst (λ (l : List TermEntry). L (if_cancellable l c.args.n turn)) is
    (subst (λ (v : Turn). L v) (sym (no_sale (J.entries old) c.args.n turn c.setup.ensures.legal cause.2))
    (said_line J 4 new heard s places armed ended before (O.NoSale c.args.n) c.quiet-in-Err-NoSale.result again told))

pub returns-in-Err-NotCompleted-clause-done : goal.returns-in-Err-NotCompleted-clause-done
returns-in-Err-NotCompleted-clause-done g c = λ heard s places armed ended before ready.
    let J = g.J.Journal in
    let old = c.args.terminal.now in
    let new = c.cancel.new.self in
    let is : J.entries old ≡ s.settled = ready.stands.end.entries_are refl in
    let L : Turn → Type 0 = λ v. LineDone J 4 new heard s places armed ended before v (Ok c.quiet-in-Err-NotCompleted.result) in
    let e = c.in-Err-NotCompleted.ensures in
    let rests = rested J g.met.J.Journal.kept old new (Cancelled c.args.n) (cancel_as c.in-Err-NotCompleted.field-0) (ap cancel_as c.in-Err-NotCompleted.field-0-is) e.adds before ready.counts_are ready.few ready.told ready.works in
    let again = rested_ready J 4 old new heard s places armed before ready rests in
    let turn : Turn = makes (adds (Cancels c.args.n) (Cancelled c.args.n)) (O.CancelledSale c.args.n) in
    let cause = subst (λ (f : CancelFault). IsCancelCause (J.has_failed old) (J.entries old) c.args.n f) c.in-Err-NotCompleted.field-0-is e.refused in
    let told = c.quiet-in-Err-NotCompleted.ensures ∙ ap (λ (k : ℕ). let d : Said = record { outcome = O.NotCompleted k; sent = None } in d) (cause.1) in
    subst (λ (l : List TermEntry). L (if_cancellable l c.args.n turn)) is
    (subst (λ (v : Turn). L v) (sym (not_completed (J.entries old) c.args.n turn cause.2 cause.3))
    (said_line J 4 new heard s places armed ended before (O.NotCompleted c.args.n) c.quiet-in-Err-NotCompleted.result again told))

pub returns-in-Err-AlreadyCancelled-clause-done : goal.returns-in-Err-AlreadyCancelled-clause-done
returns-in-Err-AlreadyCancelled-clause-done g c = λ heard s places armed ended before ready.
    let J = g.J.Journal in
    let old = c.args.terminal.now in
    let new = c.cancel.new.self in
    let is : J.entries old ≡ s.settled = ready.stands.end.entries_are refl in
    let L : Turn → Type 0 = λ v. LineDone J 4 new heard s places armed ended before v (Ok c.quiet-in-Err-AlreadyCancelled.result) in
    let e = c.in-Err-AlreadyCancelled.ensures in
    let rests = rested J g.met.J.Journal.kept old new (Cancelled c.args.n) (cancel_as c.in-Err-AlreadyCancelled.field-0) (ap cancel_as c.in-Err-AlreadyCancelled.field-0-is) e.adds before ready.counts_are ready.few ready.told ready.works in
    let again = rested_ready J 4 old new heard s places armed before ready rests in
    let turn : Turn = makes (adds (Cancels c.args.n) (Cancelled c.args.n)) (O.CancelledSale c.args.n) in
    let cause = subst (λ (f : CancelFault). IsCancelCause (J.has_failed old) (J.entries old) c.args.n f) c.in-Err-AlreadyCancelled.field-0-is e.refused in
    let told = c.quiet-in-Err-AlreadyCancelled.ensures ∙ ap (λ (k : ℕ). let d : Said = record { outcome = O.AlreadyCancelled k; sent = None } in d) (cause.1) in
    subst (λ (l : List TermEntry). L (if_cancellable l c.args.n turn)) is
    (subst (λ (v : Turn). L v) (sym (already_cancelled (J.entries old) c.args.n turn c.setup.ensures.legal cause.2))
    (said_line J 4 new heard s places armed ended before (O.AlreadyCancelled c.args.n) c.quiet-in-Err-AlreadyCancelled.result again told))

pub returns-in-Err-Disk-clause-done : goal.returns-in-Err-Disk-clause-done
returns-in-Err-Disk-clause-done g c = λ heard s places armed ended before ready.
    let J = g.J.Journal in
    let old = c.args.terminal.now in
    let new = c.cancel.new.self in
    let is : J.entries old ≡ s.settled = ready.stands.end.entries_are refl in
    let L : Turn → Type 0 = λ v. LineDone J 4 new heard s places armed ended before v (Err Disk) in
    let e = c.in-Err-Disk.ensures in
    let turn : Turn = makes (adds (Cancels c.args.n) (Cancelled c.args.n)) (O.CancelledSale c.args.n) in
    let cause = subst (λ (f : CancelFault). IsCancelCause (J.has_failed old) (J.entries old) c.args.n f) c.in-Err-Disk.field-0-is e.refused in
    let may = may_cancel (J.entries old) c.args.n cause.1 cause.2 in
    let breaks = broke J g.met.J.Journal.kept g.met.J.Journal.counts_now old new (Cancelled c.args.n) (cancel_as c.in-Err-Disk.field-0) (ap cancel_as c.in-Err-Disk.field-0-is) e.adds in
    subst (λ (l : List TermEntry). L (if_cancellable l c.args.n turn)) is
    (subst (λ (v : Turn). L v) (sym (cond-true (allowed (J.entries old) (Cancelled c.args.n)) _ _ may))
    (add_disk J old new (Cancelled c.args.n) (O.CancelledSale c.args.n) breaks (Cancels c.args.n) heard s places armed ended before ready))

pub returns-in-Err-Failed-clause-done : goal.returns-in-Err-Failed-clause-done
returns-in-Err-Failed-clause-done g c = λ heard s places armed ended before ready.
    let J = g.J.Journal in
    let old = c.args.terminal.now in
    let failed : J.has_failed old ≡ true = subst (λ (f : CancelFault). IsCancelCause (J.has_failed old) (J.entries old) c.args.n f) c.in-Err-Failed.field-0-is c.in-Err-Failed.ensures.refused in
    absurd (false≢true (sym ready.works ∙ failed))

pub returns-in-Ok-clause-works : goal.returns-in-Ok-clause-works
returns-in-Ok-clause-works g c = c.in-Ok.ensures.adds.stays.still (λ e. cc)

pub returns-in-Err-NoSale-clause-works : goal.returns-in-Err-NoSale-clause-works
returns-in-Err-NoSale-clause-works g c =
    let J = g.J.Journal in
    let old = c.args.terminal.now in
    still_works J old c.cancel.new.self (Cancelled c.args.n ∷ []) (cancel_as c.in-Err-NoSale.field-0) (ap cancel_as c.in-Err-NoSale.field-0-is) c.in-Err-NoSale.ensures.adds

pub returns-in-Err-NotCompleted-clause-works : goal.returns-in-Err-NotCompleted-clause-works
returns-in-Err-NotCompleted-clause-works g c =
    let J = g.J.Journal in
    let old = c.args.terminal.now in
    still_works J old c.cancel.new.self (Cancelled c.args.n ∷ []) (cancel_as c.in-Err-NotCompleted.field-0) (ap cancel_as c.in-Err-NotCompleted.field-0-is) c.in-Err-NotCompleted.ensures.adds

pub returns-in-Err-AlreadyCancelled-clause-works : goal.returns-in-Err-AlreadyCancelled-clause-works
returns-in-Err-AlreadyCancelled-clause-works g c =
    let J = g.J.Journal in
    let old = c.args.terminal.now in
    still_works J old c.cancel.new.self (Cancelled c.args.n ∷ []) (cancel_as c.in-Err-AlreadyCancelled.field-0) (ap cancel_as c.in-Err-AlreadyCancelled.field-0-is) c.in-Err-AlreadyCancelled.ensures.adds
