use Rattle.std.proofs.Common.{ℕ, refl, subst}
use Rattle.std.specs.Prelude.{◌+◌, IfOk}
use Rattle.cap_power.specs.contracts.host.HostDiskJournalHostEntryMemoryDiskOverDiskHostEntry.TheImpl.{ghosts as ends}
use Rattle.cap_host_side.specs.Sides.{DoesAt}
use Rattle.cap_host_side.proofs.Powers.{stands_at, never_off, never_on, works_at, works_after}
use Rattle.cap_host_side.proofs.side.act.Goals as goal

pub act_at-requires-clause-works : goal.act_at-requires-clause-works
act_at-requires-clause-works c = works_at ends.has_failed _ c.in-On.host c.in-On.ensures.taken c.requires.works

pub returns-in-On-clause-on : goal.returns-in-On-clause-on
returns-in-On-clause-on c = λ reads most w doubt reader room given stands on.
    subst (λ (n : ℕ). IfOk c.act_at.result (λ done. DoesAt ends.entries ends.disk ends.has_failed reads (most + 4) c.act_at.new.power w n c.args.prefix c.args.order.now done)) c.moment_of.ensures.moment
    (c.act_at.ensures.acts reads most w doubt reader room given (stands_at ends.entries ends.disk ends.has_failed most _ _ w.host doubt c.in-On.ensures.taken stands))

pub returns-in-On-clause-off : goal.returns-in-On-clause-off
returns-in-On-clause-off c = λ most s doubt stands off. absurd (never_off ends.entries ends.disk ends.has_failed most _ c.in-On.host s doubt c.in-On.ensures.taken stands off)

pub returns-in-On-clause-works : goal.returns-in-On-clause-works
returns-in-On-clause-works c = works_after ends.has_failed c.act_at.result _ _ c.act_at.ensures.works c.act_at.ensures.lent c.in-On.ensures.lent

pub returns-in-Off-clause-on : goal.returns-in-Off-clause-on
returns-in-Off-clause-on c = λ reads most w doubt reader room given stands on. absurd (never_on ends.entries ends.disk ends.has_failed most _ c.in-Off.disk w.host doubt c.in-Off.ensures.taken stands on)

pub returns-in-Off-clause-off : goal.returns-in-Off-clause-off
returns-in-Off-clause-off c = λ most s doubt stands off. record { stands = stands_at ends.entries ends.disk ends.has_failed most _ _ s doubt c.in-Off.ensures.taken stands; outcome_is = refl; none_replied = refl }
