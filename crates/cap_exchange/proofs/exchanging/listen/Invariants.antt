use Rattle.std.proofs.Common.{◌≡◌, ◌≤◌, true, length, []}
use Rattle.cap_exchange.specs.Exchange.{seen}
use Rattle.cap_exchange.specs.Hearing.{IsBegun, Talks}
use Rattle.cap_exchange.proofs.exchanging.listen.Given as goal

abbrev pub invariant-takes : goal.invariant-takes
invariant-takes g l = record {
  many : l.i ≤ length l.framer;
  begun : IsBegun l.framer;
  talks : Talks (g.L.Link.tells l.initial.link) (record { taken = l.framer; put = [] }) (seen g.L.Link l.initial.link) (seen g.L.Link l.link);
  open_now : g.L.Link.is_open l.link ≡ true;
  tells : g.L.Link.tells l.link ≡ g.L.Link.tells l.initial.link;
}
