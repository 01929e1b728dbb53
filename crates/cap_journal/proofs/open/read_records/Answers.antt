use Rattle.std.proofs.Common.{◌≡◌, ◌≤◌, ◌+◌, ℕ, List, length, drop, Some, None, sym, ◌∙◌, ap, arith}
use Rattle.cap_journal.specs.Reading.{all_records, with_front}
use Rattle.cap_journal.proofs.Readings.{one_read, none_read}
use Rattle.cap_journal.proofs.open.read_records.Goals as goal

pub loop-at-preserved : goal.loop-at-preserved
loop-at-preserved g c =
    let reading = g.E.Record.reading in
    let body : List ℕ = c.args.body.now in
    let at : ℕ = c.loop-at.at in
    let size : ℕ = c.in-Ok-Some.size in
    let is : reading (drop at body) ≡ Some (c.in-Ok-Some.entry, size) = sym (rw c.in-Ok-Some.field-0-is at c.in-Ok-Some.ensures.found) in
    let within : (1 ≤ size) × (at + size ≤ length body) = rw c.in-Ok-Some.field-0-is at c.in-Ok-Some.ensures.size in
    let sized : (value : g.row.E.Denot) (n : ℕ) (l : List ℕ) → reading l ≡ Some (value, n) → 1 ≤ n = λ value n l found. (let law = g.met.E.Record.reads_only value n l found in let low = g.met.E.Record.size_low value law.0 in omega (arith, law.1, low)) in
    record {
      within = within.1;
      so_far = c.loop-at.invariant.so_far ∙ one_read reading sized body c.loop-at.entries.items c.in-Ok-Some.entry at size c.loop-at-test.true is ∙ ap (λ (l : List g.row.E.Denot). with_front l (all_records reading (drop (at + size) body))) (sym c.in_ok-push-in-Ok-Some.ensures.items);
    }

pub returns-in-Ok-None : goal.returns-in-Ok-None
returns-in-Ok-None g c =
    let reading = g.E.Record.reading in
    let body : List ℕ = c.args.body.now in
    let at : ℕ = c.loop-at.at in
    let is : reading (drop at body) ≡ None = sym (rw c.in-Ok-None.field-0-is at c.in-Ok-None.ensures.found) in
    let sized : (value : g.row.E.Denot) (n : ℕ) (l : List ℕ) → reading l ≡ Some (value, n) → 1 ≤ n = λ value n l found. (let law = g.met.E.Record.reads_only value n l found in let low = g.met.E.Record.size_low value law.0 in omega (arith, law.1, low)) in
    c.loop-at.invariant.so_far ∙ none_read reading sized body c.loop-at.entries.items at c.loop-at-test.true is
