use Rattle.std.proofs.Common.{refl, []}
use Rattle.cap_drive.specs.Closings.{closing_line}
use Rattle.cap_drive.proofs.Running.{appends_nothing}
use Rattle.cap_drive.proofs.line.put_line.Goals as goal

pub returns-in_default-clause-line : goal.returns-in_default-clause-line
returns-in_default-clause-line g c = ([], closing_line c.args.number c.args.replied c.args.closing, refl, appends_nothing _)
