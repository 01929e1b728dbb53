use Rattle.std.proofs.Common.{◌≡◌, List, length, map, sum, ap, arith, sym, ◌∙◌, IsTrue}
use Rattle.cap_pages.specs.Cache.{pages_of}
use Rattle.cap_pages.proofs.Standing.{settled_stands}
use Rattle.cap_pages.proofs.paged_journal.PagedJournalJournal.append_group.Goals as goal

pub invariant_of-self-clause-short : goal.invariant_of-self-clause-short
invariant_of-self-clause-short g c =
    let added = c.args.added.items in
    let one : sum (map (λ e. length (g.E.Record.bytes_of e)) c.as_slice.result.now) ≡ sum (map (λ e. length (g.E.Record.bytes_of e)) added) = ap (λ (l : List g.row.E.Denot). sum (map (λ e. length (g.E.Record.bytes_of e)) l)) c.as_slice.ensures.value in
    let two : sum (map (λ e. length (g.E.Record.bytes_of e)) c.as_slice-2.result.now) ≡ sum (map (λ e. length (g.E.Record.bytes_of e)) added) = ap (λ (l : List g.row.E.Denot). sum (map (λ e. length (g.E.Record.bytes_of e)) l)) c.as_slice-2.ensures.value in
    let many : length c.as_slice.result.now ≡ length added = ap length c.as_slice.ensures.value in
    omega (arith, c.in-Ok.ensures.end, c.less-self.ensures.bytes, one, two, many, c.requires.some, c.args.self.now.short)

pub invariant_of-self-clause-held : goal.invariant_of-self-clause-held
invariant_of-self-clause-held g c told =
    let was : IsTrue (g.D.Disk.tells c.args.self.now.disk) = sym c.in-Ok.ensures.tells ∙ told in
    c.in-Ok.ensures.held (pages_of c.args.self.now.pages) was (c.args.self.now.held was)

pub invariant_of-self-clause-stands : goal.invariant_of-self-clause-stands
invariant_of-self-clause-stands g c told =
    let was : IsTrue (g.D.Disk.tells c.args.self.now.disk) = sym c.in-Ok.ensures.tells ∙ told in
    settled_stands g.E.Record.reading (g.D.Disk.contents c.write_marked.new.disk) _ _ _ (c.in-Ok.ensures.settled was) (c.in-Ok.ensures.whole was)
