use Rattle.cap_host_lines.proofs.Keeping.{kept_if, blamed}
use Rattle.cap_host_lines.proofs.report.captured_line.Goals as goal

pub returns-clause-keeps : goal.returns-clause-keeps
returns-clause-keeps g c = kept_if c.args.host.now c.capture_line.new.self c.capture_line.result c.capture_line.ensures.reads

pub returns-clause-blames : goal.returns-clause-blames
returns-clause-blames g c = blamed c.args.host.now c.capture_line.new.self c.capture_line.result c.capture_line.ensures.reads
