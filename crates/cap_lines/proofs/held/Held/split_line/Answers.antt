use Rattle.std.proofs.Common.{◌≡◌, ◌+◌, ℕ, List, None, Some, length, drop, position, ap, sym, subst, ◌∙◌}
use Rattle.std.specs.Str.Lines.{strip_carriage_return}
use Rattle.cap_lines.specs.Lines.{is_feed}
use Rattle.cap_lines.specs.Holding.{SplitsLine, between}
use Rattle.cap_lines.proofs.Holds.{rest_none, all_searched, splits, searched_in, stripped_in}
use Rattle.cap_lines.proofs.held.Held.split_line.Goals as goal

none_in : (c : goal.After-self-1) → position is_feed (drop c.self.inside.searched c.self.inside.buffer.items) ≡ None
none_in c =
    sym (searched_in c.deref.result.now c.self.inside.buffer.items c.self.inside.searched c.line_feed-place.result c.deref.ensures.value c.line_feed-place.ensures)
    ∙ c.in_default.is

pub invariant_of-self : goal.invariant_of-self
invariant_of-self c =
    let h = c.self.inside in
    all_searched h.buffer.items h.from h.to h.start h.searched c.self.invariant c.len-self-inside.result
    (c.len-self-inside.ensures ∙ (sym c.deref.ensures.len ∙ ap length c.deref.ensures.value)) (none_in c)

pub returns-in_default-clause-none : goal.returns-in_default-clause-none
returns-in_default-clause-none c = λ _.
    let h = c.self.inside in
    (rest_none h.buffer.items h.from h.to h.start h.searched c.self.invariant (none_in c), ap (λ v. v.1) c.self.view_is)

pub returns-clause-some : goal.returns-clause-some
returns-clause-some c = λ _.
    let h = c.self.inside in
    let at = c.in-Some.at in
    let line_now : List ℕ = between h.start (h.start + c.stripped_len.result) h.buffer.items in
    let found : position is_feed (drop h.searched h.buffer.items) ≡ Some at =
    sym (searched_in c.deref.result.now h.buffer.items h.searched c.line_feed-place.result c.deref.ensures.value c.line_feed-place.ensures) ∙ c.in-Some.is in
    let line : line_now ≡ strip_carriage_return (between h.start (h.searched + at) h.buffer.items) =
    stripped_in c.deref-2.result.now h.buffer.items h.start (h.searched + at) c.stripped_len.result c.deref-2.ensures.value c.stripped_len.ensures.bytes c.stripped_len.ensures.fits in
    subst (λ (l : List ℕ). SplitsLine l line_now (drop (h.searched + at + 1) h.buffer.items)) (ap (λ v. v.1) c.self.view_is)
    (splits h.buffer.items h.from h.to h.start h.searched c.self.invariant at found line_now line)
