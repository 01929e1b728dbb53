use Rattle.std.proofs.Common.{◌≡◌, ◌+◌, ◌++◌, ℕ, List, [], ◌∷◌, length, take, replicate, sum, map, sym, ◌∙◌, ap, arith, length-append}
use Rattle.byteorder.specs.Endian.{big_bytes}
use Rattle.byteorder.specs.Numbers.{length-bytes_high_first}
use Rattle.cap_journal.specs.File.{Whole}
use Rattle.cap_journal.specs.Group.{joined}
use Rattle.cap_pages.specs.Paged.{marks_of, gate_in, listed}
use Rattle.cap_journal.proofs.Appending.{ready, length_joined}
use Rattle.cap_pages.specs.Pages.{pages_on}
use Rattle.std.proofs.lemmas.List.{take-take}
use Rattle.cap_journal.proofs.Writes.{length_front}
use Rattle.cap_pages.proofs.Marked.{listed_more, gates_are, gates_both, marks_many, longer_by, some_by, new_front}
use Rattle.cap_pages.proofs.marks.write_marked.Goals as goal

pub write_added-requires-clause-gate : goal.write_added-requires-clause-gate
write_added-requires-clause-gate g c tells = (ready g.E.Record.reading (g.D.Disk.contents c.args.disk.now).shown _ _ c.args.end (c.requires.whole tells)).lt

pub returns-clause-list : goal.returns-clause-list
returns-clause-list g c tells =
    let reading = g.E.Record.reading in
    let shown = (g.D.Disk.contents c.args.disk.now).shown in
    let new = (g.D.Disk.contents c.write_added.new.disk).shown in
    let marks = c.args.marks.now.items in
    let added = c.args.added.now in
    let end : ℕ = c.args.end in
    let front = take end shown in
    let body = joined g.E.Record.bytes_of added in
    let head = big_bytes 4 (length body) in
    let four : length head ≡ 4 = length-bytes_high_first 4 (length body) in
    let lt = (ready reading shown _ _ end (c.requires.whole tells)).lt in
    let size : length front ≡ end = length_front shown end lt in
    let long : length body ≡ sum (map (λ e. length (g.E.Record.bytes_of e)) added) = length_joined g.E.Record.bytes_of added in
    let opened = c.in_ok-now.ensures.opened tells in
    let below : take c.in_ok-now.now new ≡ front ++ (165 ∷ (head ++ body)) = new_front front head body opened.rest new end c.in_ok-now.now size four (c.in_ok-now.ensures.end ∙ ap (λ (k : ℕ). end + 5 + k) (sym long)) opened.is in
    ap (λ (l : List ℕ). listed reading l c.note_marks.new.marks.items) below
    ∙ ap (λ (l : List ℕ). listed reading (front ++ (165 ∷ (head ++ body))) l) c.note_marks.ensures.items
    ∙ listed_more reading g.E.Record.bytes_of g.E.Record.fits g.met.E.Record.size_low g.met.E.Record.reads_back
    (λ bytes rest e n is. (let law = g.met.E.Record.reads_only e n bytes is in longer_by reading e (g.E.Record.bytes_of e) bytes rest n law.1 law.2 (λ l. g.met.E.Record.reads_back e l law.0)))
    (λ bytes e n is. (let law = g.met.E.Record.reads_only e n bytes is in some_by (g.E.Record.bytes_of e) bytes n law.1 law.2 (g.met.E.Record.size_low e law.0)))
    front head marks end added (c.requires.all_read tells) c.requires.fits size four (omega (arith, long, c.requires.size))

pub returns-clause-whole : goal.returns-clause-whole
returns-clause-whole g c tells =
    let reading = g.E.Record.reading in
    let shown = (g.D.Disk.contents c.args.disk.now).shown in
    let marks = c.args.marks.now.items in
    let added = c.args.added.now in
    let end : ℕ = c.args.end in
    let list = listed reading (take end shown) marks in
    let long : length (joined g.E.Record.bytes_of added) ≡ sum (map (λ e. length (g.E.Record.bytes_of e)) added) = length_joined g.E.Record.bytes_of added in
    let gates : map gate_in c.note_marks.new.marks.items ≡ map gate_in marks ++ replicate (length added) end =
    ap (λ (l : List ℕ). map gate_in l) c.note_marks.ensures.items ∙ gates_both marks (marks_of g.E.Record.bytes_of end 0 added)
    ∙ ap (λ (l : List ℕ). map gate_in marks ++ l) (gates_are reading g.E.Record.bytes_of g.E.Record.fits g.met.E.Record.size_low g.met.E.Record.reads_back added end 0 c.requires.fits (omega (arith, long, c.requires.size))) in
    c.in_ok-now.ensures.whole list (map gate_in marks) tells (c.requires.whole tells)
    ∙ ap (λ (l : List g.row.E.Denot). Whole l (map gate_in marks ++ replicate (length added) end) c.in_ok-now.now) (sym (returns-clause-list g c tells))
    ∙ ap (λ (l : List ℕ). Whole (listed reading (take c.in_ok-now.now (g.D.Disk.contents c.write_added.new.disk).shown) c.note_marks.new.marks.items) l c.in_ok-now.now) (sym gates)

pub returns-clause-many : goal.returns-clause-many
returns-clause-many g c =
    let new = marks_of g.E.Record.bytes_of c.args.end 0 c.args.added.now in
    omega (arith, ap length c.note_marks.ensures.items, length-append c.args.marks.now.items new, marks_many g.E.Record.reading g.E.Record.bytes_of g.E.Record.fits g.met.E.Record.size_low g.met.E.Record.reads_back c.args.added.now c.args.end 0)

pub returns-clause-held : goal.returns-clause-held
returns-clause-held g c pages tells are =
    let shown = (g.D.Disk.contents c.args.disk.now).shown in
    let new = (g.D.Disk.contents c.write_added.new.disk).shown in
    let end : ℕ = c.args.end in
    let front = take end shown in
    let lt = (ready g.E.Record.reading shown _ _ end (c.requires.whole tells)).lt in
    let size : length front ≡ end = length_front shown end lt in
    pages_on pages front (take c.in_ok-now.now new) are (ap (λ (k : ℕ). take k (take c.in_ok-now.now new)) size ∙ take-take end c.in_ok-now.now new (omega (arith, c.in_ok-now.ensures.end)) ∙ c.in_ok-now.ensures.front tells)

pub returns-clause-below : goal.returns-clause-below
returns-clause-below g c tells =
    let shown = (g.D.Disk.contents c.args.disk.now).shown in
    let new = (g.D.Disk.contents c.write_added.new.disk).shown in
    let added = c.args.added.now in
    let body = joined g.E.Record.bytes_of added in
    let head = big_bytes 4 (length body) in
    let lt = (ready g.E.Record.reading shown _ _ c.args.end (c.requires.whole tells)).lt in
    let opened = c.in_ok-now.ensures.opened tells in
    let front = take c.args.end shown in
    omega (arith, c.in_ok-now.ensures.end, length_joined g.E.Record.bytes_of added, length-bytes_high_first 4 (length body), length_front shown c.args.end lt, ap length opened.is, length-append front (165 ∷ (((head ++ body) ++ (0 ∷ [])) ++ opened.rest)), length-append ((head ++ body) ++ (0 ∷ [])) opened.rest, length-append (head ++ body) (0 ∷ []), length-append head body)

pub returns-clause-all_read : goal.returns-clause-all_read
returns-clause-all_read g c tells =
    let list = listed g.E.Record.reading (take c.args.end (g.D.Disk.contents c.args.disk.now).shown) c.args.marks.now.items in
    omega (arith, ap length (returns-clause-list g c tells), length-append list c.args.added.now, c.requires.all_read tells, returns-clause-many g c)
