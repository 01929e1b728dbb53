use Rattle.std.proofs.Common.{◌≡◌, ◌≤◌, ◌<◌, true, false, List, [], ℕ, length}
use Rattle.cap_drive.specs.Going.{IsBegun, Goes}
use Rattle.cap_drive.proofs.connection.serve_connection.Given as goal

abbrev pub invariant-takes : goal.invariant-takes
invariant-takes g l = record {
  served : (taken : List ℕ) × (l.i ≤ length taken) × Goes (g.A.Answering.tells l.initial.host) (g.A.Answering.is_readable l.initial.host) g.A.Answering.adds g.A.Answering.replies (g.C.Clock.told l.initial.clock) (g.L.Link.tells l.initial.link) taken taken [] (g.A.Answering.entries l.initial.host) (g.L.Link.lines l.initial.link) l.initial.tally l.framer (g.A.Answering.entries l.host) (g.L.Link.lines l.link) l.tally;
  open_now : g.L.Link.is_open l.link ≡ true;
  begun : IsBegun l.framer;
  few : l.tally.frames < 65536;
  replied : l.tally.replies ≤ l.tally.frames;
  works : g.A.Answering.has_failed l.host ≡ false;
  faults : g.A.Answering.faults l.initial.host ≤ g.A.Answering.faults l.host;
  is_readable : g.A.Answering.is_readable l.host ≡ g.A.Answering.is_readable l.initial.host;
  host_tells : g.A.Answering.tells l.host ≡ g.A.Answering.tells l.initial.host;
  told : g.C.Clock.told l.clock ≡ g.C.Clock.told l.initial.clock;
  line_later : g.L.Link.line_faults l.initial.link ≤ g.L.Link.line_faults l.link;
  tells : g.L.Link.tells l.link ≡ g.L.Link.tells l.initial.link;
  port : g.L.Link.port_faults l.link ≡ g.L.Link.port_faults l.initial.link;
}
