use Rattle.std.proofs.Common.{◌≡◌, ℕ, length, take, drop, Some, sym, ◌∙◌, ap}
use Rattle.cap_pages.proofs.Marked.{listed_at, longer_by, behind_part}
use Rattle.cap_pages.proofs.marks.read_marked.Goals as goal

pub returns-in-Ok-Some-clause-value : goal.returns-in-Ok-Some-clause-value
returns-in-Ok-Some-clause-value g c tells =
    let reading = g.E.Record.reading in
    let front = take c.args.end (g.D.Disk.contents c.args.disk.now).shown in
    let marks = c.args.marks.now in
    let bytes = c.in_ok-bytes.bytes.items in
    let part : bytes ≡ take (length bytes) (drop c.place_of-place.result front) = c.in_ok-bytes.ensures.bytes tells in
    let here : reading bytes ≡ Some (c.in-Ok-Some.entry, c.in-Ok-Some.field-0-0-1) = sym (sym c.in-Ok-Some.field-0-is ∙ c.in-Ok-Some.ensures ∙ ap reading c.as_slice.ensures.value) in
    let law = g.met.E.Record.reads_only c.in-Ok-Some.entry c.in-Ok-Some.field-0-0-1 bytes here in
    let there : reading (drop c.place_of-place.result front) ≡ Some (c.in-Ok-Some.entry, c.in-Ok-Some.field-0-0-1) =
    ap reading (behind_part bytes front c.place_of-place.result part) ∙ longer_by reading c.in-Ok-Some.entry (g.E.Record.bytes_of c.in-Ok-Some.entry) bytes (drop (length bytes) (drop c.place_of-place.result front)) c.in-Ok-Some.field-0-0-1 law.1 law.2 (λ l. g.met.E.Record.reads_back c.in-Ok-Some.entry l law.0) in
    listed_at reading front marks c.args.i c.in-Ok-Some.entry c.in-Ok-Some.field-0-0-1 (c.requires.all_read tells) c.requires.there (ap (λ (k : ℕ). reading (drop k front)) (sym c.place_of-place.ensures) ∙ there)
