use Rattle.std.proofs.Common.{rules, append_assoc, List, ℕ, subst, sym}
use Rattle.cap_schedule.specs.declared.schedule.Schedule.{Schedule}
use Rattle.cap_schedule.specs.Nobodys.{NoiseIsNobodys}
use Rattle.cap_plays.specs.Laws.{InRange}
use Rattle.cap_replay.specs.Made.{IsReported}
use Rattle.cap_replay.proofs.Premises.{some_reader}
use Rattle.cap_replay.proofs.MadeRange.{made_in_range, made_has_no_noise}
use Rattle.cap_replay.proofs.making.make_over.Goals as goal

pub report_over-requires : goal.report_over-requires
report_over-requires g c = subst InRange (sym c.in_ok-schedule.ensures) (made_in_range c.args.sales c.requires.first c.requires.last)

pub returns : goal.returns
returns g c = record {
  some = some_reader c.reading_is_exact.ensures.some;
  each = λ reads reader.
      let report : List ℕ = c.in_ok-report.report.items in
      record {
        report = report;
        text_is = search (rules, append_assoc);
        reported = subst (λ (s : Schedule). IsReported reads s report) c.in_ok-schedule.ensures
            (c.in_ok-report.ensures reads reader (subst (NoiseIsNobodys reads) (sym c.in_ok-schedule.ensures) (made_has_no_noise reads c.args.sales)));
      };
}
