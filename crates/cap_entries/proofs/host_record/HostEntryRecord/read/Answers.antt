use Rattle.std.proofs.Common.{◌≡◌, ℕ, Option, IfOk, subst}
use Rattle.cap_entries.specs.declared.host.HostEntry.{HostEntry}
use Rattle.cap_entries.proofs.Places.{host_read, host_unread}
use Rattle.cap_entries.proofs.host_record.HostEntryRecord.read.Goals as goal

pub returns-in-Some : goal.returns-in-Some
returns-in-Some c = subst (λ (z : Option (HostEntry × ℕ)). IfOk c.behind.result (λ found. found ≡ z)) (host_read c.args.bytes.now c.in-Some.first c.in-Some.at c.in-Some.ensures.value) c.behind.ensures

pub returns-in-None : goal.returns-in-None
returns-in-None c = host_unread c.args.bytes.now c.in-None.ensures.value
