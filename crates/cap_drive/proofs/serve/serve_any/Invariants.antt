use Rattle.std.proofs.Common.{◌≡◌, ◌≤◌, false}
use Rattle.cap_drive.proofs.Running.{Running}
use Rattle.cap_drive.proofs.serve.serve_any.Given as goal

abbrev pub invariant-loop-i : goal.invariant-loop-i
invariant-loop-i g l = record {
  so_far : Running (g.A.Answering.tells l.initial.host) (g.A.Answering.is_readable l.initial.host) g.A.Answering.adds g.A.Answering.replies (g.C.Clock.told l.initial.clock) (g.L.Link.tells l.initial.link) l.first (g.A.Answering.entries l.initial.host) (g.A.Answering.entries l.host) (g.L.Link.lines l.initial.link) (g.L.Link.lines l.link) (g.K.Sink.contents l.initial.out) (g.K.Sink.contents l.out) (g.L.Link.line_faults l.initial.link) (g.L.Link.line_faults l.link) (g.A.Answering.faults l.initial.host) (g.A.Answering.faults l.host) l.i;
  works : g.A.Answering.has_failed l.host ≡ false;
  is_readable : g.A.Answering.is_readable l.host ≡ g.A.Answering.is_readable l.initial.host;
  host_tells : g.A.Answering.tells l.host ≡ g.A.Answering.tells l.initial.host;
  told : g.C.Clock.told l.clock ≡ g.C.Clock.told l.initial.clock;
  tells : g.L.Link.tells l.link ≡ g.L.Link.tells l.initial.link;
  disk_later : g.A.Answering.faults l.initial.host ≤ g.A.Answering.faults l.host;
  line_later : g.L.Link.line_faults l.initial.link ≤ g.L.Link.line_faults l.link;
  port_later : g.L.Link.port_faults l.initial.link ≤ g.L.Link.port_faults l.link;
  out_later : g.K.Sink.faults l.initial.out ≤ g.K.Sink.faults l.out;
}
