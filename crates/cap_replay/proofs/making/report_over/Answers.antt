use Rattle.std.proofs.Common.{◌∙◌, ◌++◌, ℕ, List, ap}
use Rattle.cap_plays.specs.Laws.{IsReached}
use Rattle.cap_plays.specs.Session.{ReportsSo}
use Rattle.cap_replay.specs.Made.{report_of_ends}
use Rattle.cap_replay.proofs.making.report_over.Goals as goal

pub returns : goal.returns
returns g c = λ reads reader noise.
    let s = c.args.schedule.now in
    let p = c.in_ok-play.ensures reads reader noise in
    let reached : IsReached s p.played.last = (p.played.happenings, p.run.steps) in
    let reports : ReportsSo (g.N.Network.corresponds c.play.new.network) (g.N.Network.corresponds c.put_report.new.self) s c.new-report.result.items c.put_report.new.text.items = c.in_ok-put_report.ensures in
    let said = reports p.played.last p.doubts reached p.run.all_on p.stands in
    record {
      played = p.played;
      run = p.run;
      reports = said.1 ∙ ap (λ (l : List ℕ). l ++ report_of_ends s p.played.last) c.new-report.ensures.items;
    }
