use Rattle.std.proofs.Common.{◌≡◌, ℕ, None, true, sym, subst, ap, ◌∙◌}
use Rattle.std.proofs.lemmas.Bool.{false≢true}
use Rattle.cap_entries.specs.declared.terminal.TermEntry.{TermEntry}
use Rattle.cap_entries.specs.declared.terminal.TermEntry.TheVariants.{Declined}
use Rattle.cap_schedule.specs.declared.outcome.Outcome.TheVariants.{DeclinedSale}
use Rattle.cap_terminal.specs.declared.faults.EntryFault.{EntryFault}
use Rattle.cap_terminal.specs.Adding.{entry_as}
use Rattle.cap_terminal.specs.Causes.{IsEntryCause}
use Rattle.cap_terminal_lines.specs.declared.said.Said.{Said}
use Rattle.cap_terminal_lines.proofs.Steps.{add_ok, add_disk, grew, broke}
use Rattle.cap_terminal_lines.proofs.ends.decline.Goals as goal

pub decline-requires : goal.decline-requires
decline-requires g c = record { live = c.requires }

pub returns-in-Ok-clause-done : goal.returns-in-Ok-clause-done
returns-in-Ok-clause-done g c =
    let J = g.J.Journal in
    let old = c.args.terminal.now in
    let new = c.decline.new.self in
    let entry : TermEntry = Declined c.args.begun.n in
    let number : c.n-n.result ≡ c.args.begun.n = c.n-n.ensures in
    let is = c.quiet.ensures ∙ ap (λ (n : ℕ). let d : Said = record { outcome = DeclinedSale n; sent = None } in d) number in
    add_ok J old new entry (DeclinedSale c.args.begun.n) c.quiet.result is
    (grew J g.met.J.Journal.kept g.met.J.Journal.told_is_readable old new entry c.in-Ok.ensures.adds)

pub returns-in-Err-Disk-clause-done : goal.returns-in-Err-Disk-clause-done
returns-in-Err-Disk-clause-done g c =
    let J = g.J.Journal in
    let old = c.args.terminal.now in
    let new = c.decline.new.self in
    let entry : TermEntry = Declined c.args.begun.n in
    add_disk J old new entry (DeclinedSale c.args.begun.n)
    (broke J g.met.J.Journal.kept g.met.J.Journal.counts_now old new entry (entry_as c.in-Err-Disk.field-0) (ap entry_as c.in-Err-Disk.field-0-is) c.in-Err-Disk.ensures.adds)

pub returns-in-Err-Failed-clause-done : goal.returns-in-Err-Failed-clause-done
returns-in-Err-Failed-clause-done g c = λ action heard s places armed ended before ready.
    let failed : g.J.Journal.has_failed c.args.terminal.now ≡ true = subst (λ (f : EntryFault). IsEntryCause (g.J.Journal.has_failed c.args.terminal.now) f) c.in-Err-Failed.field-0-is c.in-Err-Failed.ensures.refused in
    absurd (false≢true (sym ready.works ∙ failed))

pub returns-in-Ok-clause-works : goal.returns-in-Ok-clause-works
returns-in-Ok-clause-works g c = c.in-Ok.ensures.adds.stays.still (λ e. cc)
