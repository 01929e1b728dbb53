use Rattle.std.proofs.Common.{◌∙◌, sym, ap, length}
use Rattle.cap_entries.specs.Settings.{HostSettings}
use Rattle.cap_host.proofs.Tabled.{ties_read, setup_missing}
use Rattle.cap_host.proofs.opening.start_of.Goals as goal

pub returns-in-None : goal.returns-in-None
returns-in-None c = λ entries ok tie. setup_missing entries (sym tie.set_up ∙ c.in-None.is) ok
