use Rattle.std.proofs.Common.{◌≡◌, ℕ, List, IsTrue, length, take, map, ap, sym, subst, ◌∙◌}
use Rattle.cap_journal.specs.File.{Reading, Found, Whole, journal_of, entries_found, gates_found, end_found}
use Rattle.cap_pages.specs.Paged.{gate_in, listed}
use Rattle.cap_pages.proofs.Standing.{settled_stands}
use Rattle.cap_pages.proofs.paged_journal.PagedJournal.open.Goals as goal

-- what opening found is what a read gives after it
found_now : {E : Type 0} (reading : Reading E) (old new marks : List ℕ) (end : ℕ) → new ≡ old → journal_of reading old ≡ Whole (listed reading (take end old) marks) (map gate_in marks) end → journal_of reading new ≡ Whole (listed reading (take end new) marks) (map gate_in marks) end
found_now reading old new marks end same whole = subst (λ (s : List ℕ). journal_of reading s ≡ Whole (listed reading (take end s) marks) (map gate_in marks) end) (sym same) whole

pub invariant_of-result-clause-parsed : goal.invariant_of-result-clause-parsed
invariant_of-result-clause-parsed g c told works =
    let D = g.D.Disk in
    let reading = g.E.Record.reading in
    let new = D.contents c.open_marked.new.disk in
    let was : IsTrue (D.tells c.args.disk) = sym c.open_marked.ensures.tells ∙ told in
    let arm = c.in-Ok-open_marked in
    let marks = arm.field-0.marks.items in
    let end : ℕ = arm.field-0.end in
    let same : new.shown ≡ (D.contents c.args.disk).shown = c.open_marked.ensures.shown was in
    let found = found_now reading (D.contents c.args.disk).shown new.shown marks end same (arm.ensures.whole was) in
    ap entries_found found

pub invariant_of-result-clause-placed : goal.invariant_of-result-clause-placed
invariant_of-result-clause-placed g c told works =
    let D = g.D.Disk in
    let reading = g.E.Record.reading in
    let new = D.contents c.open_marked.new.disk in
    let was : IsTrue (D.tells c.args.disk) = sym c.open_marked.ensures.tells ∙ told in
    let arm = c.in-Ok-open_marked in
    let marks = arm.field-0.marks.items in
    let end : ℕ = arm.field-0.end in
    let same : new.shown ≡ (D.contents c.args.disk).shown = c.open_marked.ensures.shown was in
    let found = found_now reading (D.contents c.args.disk).shown new.shown marks end same (arm.ensures.whole was) in
    ap gates_found found

pub invariant_of-result-clause-last_gate : goal.invariant_of-result-clause-last_gate
invariant_of-result-clause-last_gate g c told works =
    let D = g.D.Disk in
    let reading = g.E.Record.reading in
    let new = D.contents c.open_marked.new.disk in
    let was : IsTrue (D.tells c.args.disk) = sym c.open_marked.ensures.tells ∙ told in
    let arm = c.in-Ok-open_marked in
    let marks = arm.field-0.marks.items in
    let end : ℕ = arm.field-0.end in
    let same : new.shown ≡ (D.contents c.args.disk).shown = c.open_marked.ensures.shown was in
    let found = found_now reading (D.contents c.args.disk).shown new.shown marks end same (arm.ensures.whole was) in
    ap end_found found

pub invariant_of-result-clause-all_read : goal.invariant_of-result-clause-all_read
invariant_of-result-clause-all_read g c told =
    let D = g.D.Disk in
    let reading = g.E.Record.reading in
    let new = D.contents c.open_marked.new.disk in
    let was : IsTrue (D.tells c.args.disk) = sym c.open_marked.ensures.tells ∙ told in
    let arm = c.in-Ok-open_marked in
    let marks = arm.field-0.marks.items in
    let end : ℕ = arm.field-0.end in
    let same : new.shown ≡ (D.contents c.args.disk).shown = c.open_marked.ensures.shown was in
    subst (λ (s : List ℕ). length (listed reading (take end s) marks) ≡ length marks) (sym same) (arm.ensures.all_read was)

pub invariant_of-result-clause-stands : goal.invariant_of-result-clause-stands
invariant_of-result-clause-stands g c told =
    let D = g.D.Disk in
    let reading = g.E.Record.reading in
    let new = D.contents c.open_marked.new.disk in
    let was : IsTrue (D.tells c.args.disk) = sym c.open_marked.ensures.tells ∙ told in
    let arm = c.in-Ok-open_marked in
    let marks = arm.field-0.marks.items in
    let end : ℕ = arm.field-0.end in
    let same : new.shown ≡ (D.contents c.args.disk).shown = c.open_marked.ensures.shown was in
    let found = found_now reading (D.contents c.args.disk).shown new.shown marks end same (arm.ensures.whole was) in
    settled_stands reading new (listed reading (take end new.shown) marks) (map gate_in marks) end (arm.ensures.settled was) found
