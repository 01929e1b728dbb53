use Rattle.cap_power.specs.contracts.terminal.TerminalDiskJournalTermEntryMemoryDiskOverDiskTermEntry.TheImpl.{ghosts as term}
use Rattle.cap_terminal_side.specs.declared.side.Side.{Side}
use Rattle.cap_entries.specs.Log.{log}
use Rattle.cap_network.proofs.Reporting.{on_ok, end_is}
use Rattle.cap_network.proofs.report.put_end.Goals as goal

pub returns-in-Ok-clause-text : goal.returns-in-Ok-clause-text
returns-in-Ok-clause-text c = λ most s doubt small stands on.
    let log_put = c.in-Ok.ensures.text most s doubt small stands on in
    on_ok c.put_verdict.result (λ put. (
      log_put.0,
      end_is term.entries (λ (side : Side). side.power) c.in-On.terminal c.args.side.now.power c.args.id.now (log s.settled c.args.place)
          c.args.text.now.items c.put_terminal_line.new.text.items c.put_log.new.text.items c.put_verdict.new.text.items c.items_len.result c.in-Ok.taken
          c.in-On.is c.in_ok-put_terminal_line-in-On.ensures log_put.1 put c.items_len.ensures log_put.2,
    )) c.put_verdict.ensures
