use Rattle.std.proofs.Common.{◌+◌, ◌++◌, ◌∷◌, [], List, ℕ, length, true, false, ap, sym, refl, ◌∙◌}
use Rattle.cap_leaf.specs.Spelling.{leaf_of}
use Rattle.cap_text.specs.Pieces.{ending}
use Rattle.cap_text.specs.Faults.{told_by}
use Rattle.cap_text.specs.Machine.{within}
use Rattle.cap_text.specs.Bytes.{standing, barred}
use Rattle.cap_text.specs.SeenDocs.{open_of, state_of, state_by}
use Rattle.cap_text.specs.SeenKnown.{known_of}
use Rattle.cap_text.proofs.SoughtRow.{stands}
use Rattle.cap_text.proofs.Pieced.{ended_filled, ended_unclosed, rest_closes, content_at}
use Rattle.cap_text.proofs.ending.end_leaf.Goals as goal

pub returns-then-not-closes-clause-read : goal.returns-then-not-closes-clause-read
returns-then-not-closes-clause-read c = λ fits.
    ap (λ l. barred (within c.args.stack.now.kind (state_by l (open_of c.args.stack.now))) (known_of c.args.known.now) (c.args.front.now ++ 62 ∷ []) true) c.requires
    ∙ ended_unclosed c.args.stack.now.kind c.args.leaf.tag.now c.args.leaf.kind (open_of c.args.stack.now) (known_of c.args.known.now) c.args.front.now
    (rest_closes c.args.leaf.tag.now c.args.front.now c.saturating_sub-at.result false c.closes.result c.saturating_sub-at.ensures c.closes.ensures c.if-not-closes.true)

pub returns-in_ok-fill-in-Some-clause-read : goal.returns-in_ok-fill-in-Some-clause-read
returns-in_ok-fill-in-Some-clause-read c = λ fits.
    let k = c.args.stack.now.kind in
    let tag = c.args.leaf.tag.now in
    let front = c.args.front.now in
    let n = known_of c.args.known.now in
    let content = content_at tag front c.saturating_sub-at.result c.saturating_sub-at.ensures in
    ap (λ j. standing (within j (state_of c.fill.new.stack)) (known_of c.end_a_leaf.new.self) []) c.fill.ensures.kind
    ∙ stands k _ _ _ _ _ refl c.in_ok-fill-in-Some.ensures.filled
    (c.end_a_leaf.ensures.known fits ∙ ap (λ (t : List ℕ). told_by n (ending tag t) (length front + 1)) content)
    ∙ ended_filled k tag c.args.leaf.kind (open_of c.args.stack.now) n front c.in-Some.read
    (rest_closes tag front c.saturating_sub-at.result true c.closes.result c.saturating_sub-at.ensures c.closes.ensures c.if-not-closes.false)
    (ap (leaf_of c.args.leaf.kind) (sym content) ∙ sym c.in-Some.ensures.value)
