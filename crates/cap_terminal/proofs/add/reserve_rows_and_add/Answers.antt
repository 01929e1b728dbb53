use Rattle.std.proofs.Common.{[], ◌∷◌}
use Rattle.cap_entries.specs.declared.terminal.TermEntry.TheVariants.{Part}
use Rattle.cap_entries.specs.TermRecord.{term_reading}
use Rattle.cap_ledger.specs.Laws.{reads_then_adds}
use Rattle.cap_ledger.specs.Appended.{same_reads}
use Rattle.cap_terminal.specs.Adding.{ending, room_as}
use Rattle.cap_terminal.proofs.add.reserve_rows_and_add.Goals as goal

pub returns-in-Ok-clause-adds : goal.returns-in-Ok-clause-adds
returns-in-Ok-clause-adds g c =
    let J = g.J.Journal in
    let old = c.args.journal.now in
    let mid = c.reserve_rows.new.self in
    let e = c.in-Ok.ensures in
    reads_then_adds {reading = term_reading} {g = J} {journal = λ journal. journal} {failed = J.has_failed} old mid c.reserve_and_add.new.journal {V = Unit {0}} {T = Unit {0}} tt (Part c.args.part ∷ []) (ending room_as c.reserve_and_add.result)
    (same_reads term_reading J (λ journal. journal) J.has_failed g.met.J.Journal.counts_now old mid {T = Unit {0}} tt e.has_failed e.entries e.len e.faults e.counts e.is_readable e.tells e.images) c.reserve_and_add.ensures.adds
