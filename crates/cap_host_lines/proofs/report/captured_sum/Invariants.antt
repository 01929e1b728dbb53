use Rattle.std.proofs.Common.{◌≡◌, ◌+◌, ◌*◌, ◌≤◌, length, drop}
use Rattle.cap_base.specs.Captured.{captured}
use Rattle.cap_entries.specs.Log.{log}
use Rattle.cap_host.specs.Host.{entries_of}
use Rattle.cap_plays.specs.Report.{amounts}
use Rattle.cap_host_lines.specs.Logs.{Keeps, faults_of}
use Rattle.cap_host_lines.proofs.report.captured_sum.Given as goal

abbrev pub invariant-loop-k : goal.invariant-loop-k
invariant-loop-k g l =
    let sales = captured (log (entries_of l.fn.host) l.place) in
    record {
      few : l.k ≤ length sales;
      rest : l.sum + amounts (drop l.k sales) ≡ amounts sales;
      small : l.sum ≤ l.k * 999999999999;
      keeps : Keeps l.fn.host l.host;
      later : faults_of l.fn.host ≤ faults_of l.host;
    }
