use Rattle.std.proofs.Common.{refl, subst, arith}
use Rattle.cap_journal.specs.File.{Has}
use Rattle.cap_power.proofs.reopening.on_again.Goals as goal

pub arm-requires : goal.arm-requires
arm-requires g c = c.requires

pub returns-clause-on : goal.returns-clause-on
returns-clause-on g c = record {
  end = c.in_ok-end.end;
  power_is = refl;
  entries_are = c.in_ok-end.ensures.entries;
  each = λ image left. subst (λ l. Has g.E.Record.reading image l) c.in_ok-end.ensures.entries (g.met.T.OverDisk.kept c.in_ok-end.end image c.in_ok-end.ensures.works left);
  outcome_is = refl;
}

pub returns-clause-ready : goal.returns-clause-ready
returns-clause-ready g c = λ stop is. (c.in_ok-end.ensures.works, record { calls = 2; few = omega arith; is = c.in_ok-end.ensures.counts (record { calls = 2; stop = stop }) is })
