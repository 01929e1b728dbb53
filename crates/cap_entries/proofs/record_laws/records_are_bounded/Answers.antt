use Rattle.cap_entries.specs.HostRecordLaws.{host_record_high, took_record_small}
use Rattle.cap_entries.specs.TermRecordLaws.{term_record_high, term_record_small}
use Rattle.cap_entries.proofs.record_laws.records_are_bounded.Goals as goal

pub returns-clause-terminal : goal.returns-clause-terminal
returns-clause-terminal c = term_record_high

pub returns-clause-host : goal.returns-clause-host
returns-clause-host c = host_record_high

pub returns-clause-small : goal.returns-clause-small
returns-clause-small c = term_record_small

pub returns-clause-took : goal.returns-clause-took
returns-clause-took c = took_record_small
