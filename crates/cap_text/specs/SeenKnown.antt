-- What the pieces that were read tell, as the reader keeps it.
use Rattle.cap_text.specs.Faults.{Known}
use Rattle.cap_text.specs.declared.known.Known.{Known as CodeKnown}

abbrev pub known_of : CodeKnown → Known
known_of n = record {
  place = n.place;
  named = n.named;
  exchange = n.exchange;
  initiator = n.initiator;
  from = n.from;
  depth = n.depth;
  closed = n.closed;
  open_leaf = n.open_leaf;
  version = n.version;
}
