use Rattle.std.proofs.Common.{◌≡◌, ◌+◌, drop, arith, sym, ◌∙◌}
use Rattle.std.specs.List.{prefix_len}
use Rattle.std.proofs.lemmas.List.Sums.{prefix_len-drop_yes, prefix_len-drop_no}
use Rattle.cap_text.specs.Pieces.{is_space}
use Rattle.cap_text.proofs.skipping.spaces_in.Goals as goal

pub returns-then-not-is_space-clause-count : goal.returns-then-not-is_space-clause-count
returns-then-not-is_space-clause-count c =
    let xs = c.args.bytes.now in
    let i = c.loop-i.i in
    let so_far : i + prefix_len is_space (drop i xs) ≡ prefix_len is_space xs = c.loop-i.invariant in
    omega (arith, so_far, prefix_len-drop_no is_space xs i 0 c.loop-i-test.true (sym c.is_space.ensures ∙ c.if-not-is_space.true))

pub loop-i-preserved : goal.loop-i-preserved
loop-i-preserved c =
    let xs = c.args.bytes.now in
    let i = c.loop-i.i in
    let so_far : i + prefix_len is_space (drop i xs) ≡ prefix_len is_space xs = c.loop-i.invariant in
    let next : i + 1 + prefix_len is_space (drop (i + 1) xs) ≡ prefix_len is_space xs =
    omega (arith, so_far, prefix_len-drop_yes is_space xs i 0 c.loop-i-test.true (sym c.is_space.ensures ∙ c.if-not-is_space.false)) in
    next
