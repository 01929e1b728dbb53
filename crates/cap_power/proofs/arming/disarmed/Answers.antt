use Rattle.cap_power.proofs.arming.disarmed.Goals as goal

pub returns-clause-counts : goal.returns-clause-counts
returns-clause-counts g c = λ calls stop is. c.arm.ensures.counts (record { calls = calls; stop = stop }) is
