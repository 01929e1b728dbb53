use Rattle.std.proofs.Common.{sym}
use Rattle.cap_power.specs.contracts.host.HostDiskJournalHostEntryMemoryDiskOverDiskHostEntry.TheImpl.{ghosts as ends}
use Rattle.cap_host_side.proofs.Powers.{never_on}
use Rattle.cap_host_side.proofs.Begun.{disk_has, never_lent}
use Rattle.cap_host_side.proofs.starting.disk_in.Goals as goal

pub returns-in-On-clause-has : goal.returns-in-On-clause-has
returns-in-On-clause-has c = λ most s doubt stands on. disk_has ends.entries ends.disk ends.has_failed most _ c.in-On.host _ s doubt (sym c.in-On.is) c.disk_of.ensures stands on

pub returns-in-Off-clause-has : goal.returns-in-Off-clause-has
returns-in-Off-clause-has c = λ most s doubt stands on. absurd (never_on ends.entries ends.disk ends.has_failed most _ c.in-Off.disk s doubt (sym c.in-Off.is) stands on)

pub returns-in-Lent-clause-given : goal.returns-in-Lent-clause-given
returns-in-Lent-clause-given c = λ most s doubt stands. absurd (never_lent ends.entries ends.disk ends.has_failed most _ s doubt (sym c.in-Lent.is) stands)
