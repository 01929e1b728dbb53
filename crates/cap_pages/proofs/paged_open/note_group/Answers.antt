use Rattle.std.proofs.Common.{◌≡◌, ◌+◌, ◌++◌, ℕ, List, length, map, sum, All, Some, IsTrue, sym, ◌∙◌, ap, subst, arith}
use Rattle.cap_journal.specs.File.{group_of}
use Rattle.cap_journal.specs.Reading.{IsGroupRead}
use Rattle.cap_pages.specs.Paged.{marks_of}
use Rattle.cap_journal.proofs.Appending.{length_joined}
use Rattle.cap_journal.proofs.Sizes.{front_none, group_are, body_long}
use Rattle.cap_pages.proofs.paged_open.note_group.Goals as goal

pub note_marks-requires-clause-fits : goal.note_marks-requires-clause-fits
note_marks-requires-clause-fits g c =
    let reading = g.E.Record.reading in
    let bytes = c.args.bytes.now in
    let added = c.read_group.new.entries.items in
    let facts : IsGroupRead reading bytes c.new-added.result.items added (Some c.in-Ok-Some.size) = rw c.in-Ok-Some.field-0-is at c.in-Ok-Some.ensures in
    let is : group_of reading bytes ≡ Some added = front_none (group_of reading bytes) c.new-added.result.items added c.new-added.ensures.items facts.2 in
    let are = group_are reading g.E.Record.bytes_of g.E.Record.fits (λ value size l found. (let law = g.met.E.Record.reads_only value size l found in (law.0, law.2))) bytes added is in
    subst (λ (l : List g.row.E.Denot). All (λ e. IsTrue (g.E.Record.fits e)) l) (sym c.as_slice.ensures.value) are.1.0

pub note_marks-requires-clause-size : goal.note_marks-requires-clause-size
note_marks-requires-clause-size g c =
    let reading = g.E.Record.reading in
    let bytes = c.args.bytes.now in
    let added = c.read_group.new.entries.items in
    let facts : IsGroupRead reading bytes c.new-added.result.items added (Some c.in-Ok-Some.size) = rw c.in-Ok-Some.field-0-is at c.in-Ok-Some.ensures in
    let is : group_of reading bytes ≡ Some added = front_none (group_of reading bytes) c.new-added.result.items added c.new-added.ensures.items facts.2 in
    let are = group_are reading g.E.Record.bytes_of g.E.Record.fits (λ value size l found. (let law = g.met.E.Record.reads_only value size l found in (law.0, law.2))) bytes added is in
    let slice = c.as_slice.result.now in
    omega (arith, body_long bytes are.0, ap length are.1.1, length_joined g.E.Record.bytes_of added, ap (λ (l : List g.row.E.Denot). sum (map (λ e. length (g.E.Record.bytes_of e)) l)) c.as_slice.ensures.value)

pub returns-clause-noted : goal.returns-clause-noted
returns-clause-noted g c =
    let reading = g.E.Record.reading in
    let bytes = c.args.bytes.now in
    let added = c.read_group.new.entries.items in
    let facts : IsGroupRead reading bytes c.new-added.result.items added (Some c.in-Ok-Some.size) = rw c.in-Ok-Some.field-0-is at c.in-Ok-Some.ensures in
    let is : group_of reading bytes ≡ Some added = front_none (group_of reading bytes) c.new-added.result.items added c.new-added.ensures.items facts.2 in
    let are = group_are reading g.E.Record.bytes_of g.E.Record.fits (λ value size l found. (let law = g.met.E.Record.reads_only value size l found in (law.0, law.2))) bytes added is in
    record {
      added = added;
      read = is;
      fit = are.1.0;
      body = are.1.1;
      noted = c.note_marks.ensures.items ∙ ap (λ (l : List ℕ). l ++ marks_of g.E.Record.bytes_of c.args.place 0 c.as_slice.result.now) c.reserve.ensures.items ∙ ap (λ (l : List g.row.E.Denot). c.args.marks.now.items ++ marks_of g.E.Record.bytes_of c.args.place 0 l) c.as_slice.ensures.value;
      next_is = ap (λ (k : ℕ). c.args.place + 5 + k) facts.0;
      long = omega (arith, facts.0, facts.1);
      high = omega (arith, body_long bytes are.0, ap length are.1.1);
    }
