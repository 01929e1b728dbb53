use Rattle.cap_entries.specs.HostRecordFits.{allowed_host_fits}
use Rattle.cap_entries.specs.TermRecordFits.{allowed_term_fits}
use Rattle.cap_entries.proofs.record_laws.allowed_entries_fit.Goals as goal

pub returns-clause-terminal : goal.returns-clause-terminal
returns-clause-terminal c = allowed_term_fits

pub returns-clause-host : goal.returns-clause-host
returns-clause-host c = allowed_host_fits
