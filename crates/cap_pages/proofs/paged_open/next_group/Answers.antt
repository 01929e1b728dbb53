use Rattle.std.proofs.Common.{◌≡◌, ◌+◌, ℕ, take, drop, IsTrue, sym, ◌∙◌, ap, arith}
use Rattle.cap_journal.specs.File.{Damaged, group_length, fits_group}
use Rattle.cap_pages.proofs.Marked.{longer_by, some_by}
use Rattle.cap_pages.proofs.Noting.{ok_from, noted_step}
use Rattle.cap_journal.proofs.Sizes.{cut_group}
use Rattle.cap_journal.proofs.Readings.{at_damaged}
use Rattle.cap_pages.proofs.paged_open.next_group.Goals as goal

pub returns-in-Ok-Some-clause-all_read : goal.returns-in-Ok-Some-clause-all_read
returns-in-Ok-Some-clause-all_read g c told =
    let reading = g.E.Record.reading in
    let shown = (g.D.Disk.contents c.args.disk.now).shown in
    let rest = drop (c.args.place + 1) shown in
    let facts : IsTrue (fits_group rest) × (c.in-Ok-Some.bytes.items ≡ take (5 + group_length rest) rest) = rw c.in-Ok-Some.field-0-is at c.in-Ok-Some.ensures.some told in
    ok_from c.note_group.result (λ next noted. (noted_step reading g.E.Record.bytes_of g.E.Record.fits g.met.E.Record.size_low g.met.E.Record.reads_back
    (λ bytes more e n is. (let law = g.met.E.Record.reads_only e n bytes is in longer_by reading e (g.E.Record.bytes_of e) bytes more n law.1 law.2 (λ l. g.met.E.Record.reads_back e l law.0)))
    (λ bytes e n is. (let law = g.met.E.Record.reads_only e n bytes is in some_by (g.E.Record.bytes_of e) bytes n law.1 law.2 (g.met.E.Record.size_low e law.0)))
    (λ e n bytes is. (let law = g.met.E.Record.reads_only e n bytes is in omega (arith, law.1, g.met.E.Record.size_low e law.0)))
    shown c.as_slice.result.now c.args.place next c.args.marks.now.items c.note_group.new.marks.items (omega (arith, c.requires.within, c.requires.long told)) (c.requires.gate told) facts.0 (c.as_slice.ensures.value ∙ facts.1) (c.requires.all_read told) noted).all_read) c.note_group.ensures.noted

pub returns-in-Ok-Some-clause-ok : goal.returns-in-Ok-Some-clause-ok
returns-in-Ok-Some-clause-ok g c told =
    let reading = g.E.Record.reading in
    let shown = (g.D.Disk.contents c.args.disk.now).shown in
    let rest = drop (c.args.place + 1) shown in
    let facts : IsTrue (fits_group rest) × (c.in-Ok-Some.bytes.items ≡ take (5 + group_length rest) rest) = rw c.in-Ok-Some.field-0-is at c.in-Ok-Some.ensures.some told in
    ok_from c.note_group.result (λ next noted. (noted_step reading g.E.Record.bytes_of g.E.Record.fits g.met.E.Record.size_low g.met.E.Record.reads_back
    (λ bytes more e n is. (let law = g.met.E.Record.reads_only e n bytes is in longer_by reading e (g.E.Record.bytes_of e) bytes more n law.1 law.2 (λ l. g.met.E.Record.reads_back e l law.0)))
    (λ bytes e n is. (let law = g.met.E.Record.reads_only e n bytes is in some_by (g.E.Record.bytes_of e) bytes n law.1 law.2 (g.met.E.Record.size_low e law.0)))
    (λ e n bytes is. (let law = g.met.E.Record.reads_only e n bytes is in omega (arith, law.1, g.met.E.Record.size_low e law.0)))
    shown c.as_slice.result.now c.args.place next c.args.marks.now.items c.note_group.new.marks.items (omega (arith, c.requires.within, c.requires.long told)) (c.requires.gate told) facts.0 (c.as_slice.ensures.value ∙ facts.1) (c.requires.all_read told) noted).goes_on) c.note_group.ensures.noted

pub returns-in-Ok-Some-clause-damaged : goal.returns-in-Ok-Some-clause-damaged
returns-in-Ok-Some-clause-damaged g c told at is =
    let reading = g.E.Record.reading in
    let shown = (g.D.Disk.contents c.args.disk.now).shown in
    let rest = drop (c.args.place + 1) shown in
    let facts : IsTrue (fits_group rest) × (c.in-Ok-Some.bytes.items ≡ take (5 + group_length rest) rest) = rw c.in-Ok-Some.field-0-is at c.in-Ok-Some.ensures.some told in
    let same = cut_group reading c.as_slice.result.now rest facts.0 (c.as_slice.ensures.value ∙ facts.1) in
    let damaged = c.note_group.ensures.damaged at is in
    at_damaged reading (λ e n bytes found. (let law = g.met.E.Record.reads_only e n bytes found in omega (arith, law.1, g.met.E.Record.size_low e law.0))) shown _ _ c.args.place (omega (arith, c.requires.within, c.requires.long told)) (c.requires.gate told) (sym same.group ∙ damaged.1)
    ∙ ap (λ (k : ℕ). Damaged k) (sym damaged.0)
