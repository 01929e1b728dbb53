use Rattle.cap_power.specs.contracts.host.HostDiskJournalHostEntryMemoryDiskOverDiskHostEntry.TheImpl.{ghosts as ends}
use Rattle.cap_host_side.proofs.Ready.{ready_works}
use Rattle.cap_host_side.proofs.Opening.{reopened}
use Rattle.cap_host_side.proofs.Powers.{stands_at}
use Rattle.cap_host_side.proofs.side.reopen.Goals as goal

pub returns-clause-opens : goal.returns-clause-opens
returns-clause-opens c = λ most s doubt two stands.
    let opened = c.in_ok-settled.ensures.opened s.settled s.tried s.on doubt (stands_at ends.entries ends.disk ends.has_failed most _ _ s doubt c.lend.ensures.taken stands).stands in
    reopened ends.entries ends.disk ends.has_failed most s doubt c.args.prefix c.in_ok-settled.settled opened.0 two opened.1 opened.2 c.in_ok-settled.ensures.ready

pub returns-clause-works : goal.returns-clause-works
returns-clause-works c = ready_works ends.disk ends.has_failed 2 c.in_ok-settled.settled.power c.in_ok-settled.ensures.ready
