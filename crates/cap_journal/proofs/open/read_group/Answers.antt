use Rattle.std.proofs.Common.{ℕ, List, drop, Bool, ◌∙◌, ap, arith, length-drop}
use Rattle.cap_journal.specs.File.{group_of}
use Rattle.cap_journal.specs.Reading.{with_front, some_if}
use Rattle.cap_journal.proofs.Sizes.{group_is, none_of}
use Rattle.cap_journal.proofs.open.read_group.Goals as goal

pub returns-then-whole : goal.returns-then-whole
returns-then-whole g c =
    let reading = g.E.Record.reading in
    let image : List ℕ = c.args.image.now in
    let at : ℕ = c.args.at in
    let size : ℕ = c.in-Some.size in
    let facts = c.in-Some.ensures.some in
    let is = group_is reading image at size facts.1 facts.0 facts.2 in
    (facts.0, omega (arith, facts.2, length-drop at image), ap (λ o. with_front c.args.entries.now.items o) is ∙ c.in_ok-whole-in-Some.ensures ∙ ap (λ (b : Bool). some_if b c.read_records.new.entries.items) c.if-whole.true)

pub returns-else-whole : goal.returns-else-whole
returns-else-whole g c =
    let reading = g.E.Record.reading in
    let image : List ℕ = c.args.image.now in
    let at : ℕ = c.args.at in
    let size : ℕ = c.in-Some.size in
    let facts = c.in-Some.ensures.some in
    let is = group_is reading image at size facts.1 facts.0 facts.2 in
    none_of reading image c.args.entries.now.items (group_of reading (drop at image)) (ap (λ o. with_front c.args.entries.now.items o) is ∙ c.in_ok-whole-in-Some.ensures ∙ ap (λ (b : Bool). some_if b c.read_records.new.entries.items) c.if-whole.false)
