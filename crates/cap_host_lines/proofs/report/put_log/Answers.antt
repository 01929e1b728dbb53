use Rattle.cap_entries.specs.declared.host.HostEntry.{HostEntry}
use Rattle.std.proofs.Common.{◌≡◌, ◌++◌, ◌<◌, List, length, sym, subst}
use Rattle.cap_entries.specs.Log.{log, setup_of}
use Rattle.cap_host.specs.Host.{entries_of}
use Rattle.cap_host_lines.specs.Logs.{log_text}
use Rattle.cap_host_lines.proofs.Keeping.{ok_then, ok_map}
use Rattle.cap_host_lines.proofs.Logs.{log_said}
use Rattle.cap_host_lines.proofs.report.put_log.Goals as goal

pub put_lines-requires : goal.put_lines-requires
put_lines-requires g c = subst (λ (es : List HostEntry). c.args.place < length (setup_of es).terminals) (sym c.in-Ok.ensures.keeps.entries) c.requires

pub returns-in-Ok-clause-text : goal.returns-in-Ok-clause-text
returns-in-Ok-clause-text g c =
    ok_then (c.put_lines.new.text.items ≡ c.args.text.now.items ++ log_text c.args.id.now (log (entries_of c.args.host.now) c.args.place)) c.put_lines.result c.or_memory.result c.or_memory.ensures.ok
    (ok_map c.put_lines.result
    (log_said c.args.id.now c.args.text.now.items c.put_lines.new.text.items (entries_of c.args.host.now) (entries_of c.captured_sum.new.host) c.args.place c.in-Ok.sums.count c.in-Ok.sums.sum c.in-Ok.ensures.keeps.entries c.in-Ok.ensures.count c.in-Ok.ensures.sum)
    c.put_lines.ensures)
