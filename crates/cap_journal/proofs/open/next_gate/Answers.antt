use Rattle.std.proofs.Common.{◌≡◌, ◌≤◌, ◌+◌, ◌-◌, ◌++◌, ℕ, List, length, drop, replicate, Some, refl, sym, ◌∙◌, ap, arith}
use Rattle.cap_journal.specs.File.{group_of}
use Rattle.cap_journal.specs.Reading.{IsGroupRead}
use Rattle.cap_journal.proofs.Sizes.{group_step}
use Rattle.cap_journal.proofs.open.next_gate.Goals as goal

pub returns-in_ok-note_gates-in-Ok-Some-clause-ok : goal.returns-in_ok-note_gates-in-Ok-Some-clause-ok
returns-in_ok-note_gates-in-Ok-Some-clause-ok g c =
    let reading = g.E.Record.reading in
    let image : List ℕ = c.args.image.now in
    let place : ℕ = c.args.place in
    let size : ℕ = c.in-Ok-Some.size in
    let facts : IsGroupRead reading (drop (place + 1) image) c.args.entries.now.items c.read_group.new.entries.items (Some size) = rw c.in-Ok-Some.field-0-is at c.in-Ok-Some.ensures in
    let sized : (value : g.row.E.Denot) (n : ℕ) (l : List ℕ) → reading l ≡ Some (value, n) → 1 ≤ n = λ value n l found. (let law = g.met.E.Record.reads_only value n l found in let low = g.met.E.Record.size_low value law.0 in omega (arith, law.1, low)) in
    group_step reading sized image c.args.entries.now.items c.read_group.new.entries.items c.args.gates.now.items c.note_gates.new.gates.items place size (group_of reading (drop (place + 1) image)) c.requires.place c.requires.open refl facts.2 (sym facts.0)
    c.requires.gates (c.in_ok-note_gates-in-Ok-Some.ensures ∙ ap (λ (k : ℕ). c.args.gates.now.items ++ replicate (k - length c.args.gates.now.items) place) (omega arith))
