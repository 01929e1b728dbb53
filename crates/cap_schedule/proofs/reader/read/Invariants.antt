use Rattle.std.proofs.Common.{◌≡◌, ◌+◌, ◌≤◌, ℕ, List, length}
use Rattle.std.specs.Str.Lines.{lines}
use Rattle.cap_msgs.specs.Received.{Received}
use Rattle.cap_schedule.specs.Reader.{IsReader}
use Rattle.cap_schedule.specs.Language.{read_lines, reading}
use Rattle.cap_schedule.proofs.reader.read.Given as goal

abbrev pub invariant-lines : goal.invariant-lines
invariant-lines l = record {
  reading : (reads : List ℕ → Received) → IsReader reads → read_lines reads (lines l.rest) l.number l.draft ≡ reading reads l.fn.text;
  number : l.number + length l.rest ≤ length l.fn.text + 1;
}

abbrev pub decreases-lines : goal.decreases-lines
decreases-lines l = length l.rest
