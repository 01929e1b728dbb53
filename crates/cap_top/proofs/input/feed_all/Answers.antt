use Rattle.std.proofs.Common.{◌≡◌, ◌<◌, ◌+◌, ℕ, List, ◌++◌, ◌^◌, length, arith, rules, subst, sym}
use Rattle.std.specs.Io.KnownBytes.{Consumes, IsAtEnd}
use Rattle.cap_top.proofs.Feeding.{consumes_more, consumes_none, bytes_of, few_lines, within_limits, past_size, past_lines, tally_more, bytes_more}
use Rattle.cap_top.proofs.input.feed_all.Goals.{then-pieces-test+else-tally-le-MOST_LINES, else-pieces-test}
use Rattle.cap_top.proofs.input.feed_all.Goals as goal

pub returns-then-count-eq0-clause-ok : goal.returns-then-count-eq0-clause-ok
returns-then-count-eq0-clause-ok g c =
    let inv = c.pieces.invariant in
    let bytes = c.in-Ok.ensures.bytes in
    let at_end : IsAtEnd (g.S.Source.left c.take.new.self) = search rules in (
      at_end,
      (
        inv.bytes,
        consumes_none _ _ _ inv.bytes c.take.new.buf c.in-Ok.count inv.taken bytes.0 c.if-count-eq0.true,
        (inv.read, within_limits c.pieces.tally inv.bytes inv.tally c.pieces-test.true c.if-tally-le-MOST_LINES.true),
      ),
    )

pub with-tally-requires-clause-lines : goal.with-tally-requires-clause-lines
with-tally-requires-clause-lines g c = few_lines c.pieces.tally c.pieces.invariant.bytes c.pieces.invariant.tally

pub pieces-smaller : goal.pieces-smaller
pieces-smaller g c =
    let more : c.with-tally.result.bytes ≡ c.pieces.tally.bytes + length c.split_at.result.0.now = bytes_more c.pieces.tally c.with-tally.result c.split_at.result.0.now c.with-tally.ensures in
    omega (arith, more, c.split_at.ensures.front_len, c.pieces-test.true)

pub pieces-preserved : goal.pieces-preserved
pieces-preserved g c =
    let inv = c.pieces.invariant in
    let piece : List ℕ = c.split_at.result.0.now in
    let left = g.S.Source.left c.take.new.self in
    let given : Consumes (g.S.Source.left c.pieces.input) left piece = subst (λ (l : List ℕ). Consumes (g.S.Source.left c.pieces.input) left l) (sym c.split_at.ensures.front) c.in-Ok.ensures.bytes.0 in
    let few : length inv.bytes + length piece < 2 ^ 64 = omega (arith, bytes_of c.pieces.tally inv.bytes inv.tally, c.split_at.ensures.front_len, c.pieces-test.true) in
    record {
      bytes = inv.bytes ++ piece;
      taken = consumes_more _ _ _ inv.bytes piece inv.taken given;
      read = c.in-Ok-feed.ensures.read inv.bytes inv.read few;
      tally = tally_more c.pieces.tally c.with-tally.result inv.bytes piece inv.tally c.with-tally.ensures;
      faults = omega (arith, inv.faults, c.in-Ok.ensures.cause.later);
    }

pub returns-clause-limit : goal.returns-clause-limit
returns-clause-limit g c = λ _.
    let inv = c.pieces.invariant in
    elim c.pieces-test.branch [
      | then-pieces-test+else-tally-le-MOST_LINES w ↦ (inv.bytes, inv.taken, past_lines c.pieces.tally inv.bytes inv.tally w.if-tally-le-MOST_LINES.false)
      | else-pieces-test w ↦ (inv.bytes, inv.taken, past_size c.pieces.tally inv.bytes inv.tally w.pieces-test.false)
    ]
