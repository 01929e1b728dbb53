use Rattle.std.proofs.Common.{◌∙◌, ap}
use Rattle.cap_entries.specs.Entry.{is_pending}
use Rattle.cap_terminal.proofs.Growth.{declined_allowed}
use Rattle.cap_terminal.proofs.terminal.Terminal.decline.Goals as goal

pub add-requires-clause-allowed : goal.add-requires-clause-allowed
add-requires-clause-allowed g c =
    let entries = g.J.Journal.entries c.args.self.now in
    declined_allowed entries c.n-n.result (ap (is_pending entries) c.n-n.ensures ∙ c.requires.live.pending)
