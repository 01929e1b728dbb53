use Rattle.std.proofs.Common.{sym, subst, ◌<◌, length}
use Rattle.std.proofs.lemmas.Option.{slice_get_read}
use Rattle.cap_entries.specs.Settings.{HostSettings}
use Rattle.cap_host.proofs.host.Host.log.Goals as goal

pub returns : goal.returns
returns g c =
    let host = c.args.self.now in
    let within = subst (λ (s : HostSettings). c.args.terminal < length s.terminals) (sym host.ties.set_up) c.requires in
    host.ties.logs_are c.args.terminal c.index.result.now (slice_get_read host.logs.items _ c.args.terminal c.index.result.now (sym host.wide) within c.index.ensures)
