use Rattle.std.proofs.Common.{length, ◌-◌, ◌≡◌, ◌<◌, ◌≤◌, ◌+◌, ◌^◌, take}
use Rattle.cap_text.specs.Bytes.{on_bytes}
use Rattle.cap_text.specs.Seen.{reading_of}
use Rattle.cap_text.proofs.reading.Reading.feed.Given as goal

abbrev pub invariant-loop-at : goal.invariant-loop-at
invariant-loop-at l = record {
  within : l.at ≤ length l.piece;
  read : l.initial.self.known.place + length l.initial.self.held.bytes.items + length l.piece < 2 ^ 64 → reading_of l.self ≡ on_bytes (reading_of l.initial.self) (take l.at l.piece);
  few : l.self.known.place + length l.self.held.bytes.items ≤ l.initial.self.known.place + length l.initial.self.held.bytes.items + l.at;
}

abbrev pub decreases-loop-at : goal.decreases-loop-at
decreases-loop-at l = length l.piece - l.at
