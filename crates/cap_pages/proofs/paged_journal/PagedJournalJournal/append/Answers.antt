use Rattle.std.proofs.Common.{◌≡◌, ℕ, List, length, take, [], ◌∷◌, IsTrue, ap, sym, subst, ◌∙◌}
use Rattle.cap_disk.specs.Disk.{MayLeave}
use Rattle.cap_pages.specs.Cache.{pages_of}
use Rattle.cap_pages.specs.Pages.{ArePages}
use Rattle.cap_pages.specs.Paged.{listed}
use Rattle.cap_pages.proofs.Standing.{settled_stands, broken_stands}
use Rattle.cap_pages.proofs.paged_journal.PagedJournalJournal.append.Goals as goal

pub invariant_of-self-clause-stands : goal.invariant_of-self-clause-stands
invariant_of-self-clause-stands g c told =
    let was : IsTrue (g.D.Disk.tells c.args.self.now.disk) = sym c.in-Ok.ensures.tells ∙ told in
    settled_stands g.E.Record.reading (g.D.Disk.contents c.write_one.new.disk) _ _ _ (c.in-Ok.ensures.settled was) (c.in-Ok.ensures.whole was)

pub invariant_of-self-clause-held : goal.invariant_of-self-clause-held
invariant_of-self-clause-held g c told =
    let was : IsTrue (g.D.Disk.tells c.args.self.now.disk) = sym c.in-Ok.ensures.tells ∙ told in
    c.in-Ok.ensures.held (pages_of c.args.self.now.pages) was (c.args.self.now.held was)

pub invariant_of-self-in-Err-clause-held : goal.invariant_of-self-in-Err-clause-held
invariant_of-self-in-Err-clause-held g c told =
    let self = c.args.self.now in
    let was : IsTrue (g.D.Disk.tells self.disk) = sym c.in-Err.ensures.tells ∙ told in
    subst (λ (l : List ℕ). ArePages (pages_of self.pages) l) (sym (c.in-Err.ensures.front was)) (self.held was)

pub invariant_of-self-in-Err-clause-all_read : goal.invariant_of-self-in-Err-clause-all_read
invariant_of-self-in-Err-clause-all_read g c told =
    let self = c.args.self.now in
    let reading = g.E.Record.reading in
    let was : IsTrue (g.D.Disk.tells self.disk) = sym c.in-Err.ensures.tells ∙ told in
    subst (λ (marks : List ℕ). length (listed reading (take self.end (g.D.Disk.contents c.write_one.new.disk).shown) marks) ≡ length marks) (sym c.in-Err.ensures.err)
    (ap (λ (l : List ℕ). length (listed reading l self.marks.items)) (c.in-Err.ensures.front was) ∙ self.all_read was)

pub invariant_of-self-in-Err-clause-stands : goal.invariant_of-self-in-Err-clause-stands
invariant_of-self-in-Err-clause-stands g c told =
    let self = c.args.self.now in
    let D = g.D.Disk in
    let new = c.write_one.new.disk in
    let was : IsTrue (D.tells self.disk) = sym c.in-Err.ensures.tells ∙ told in
    broken_stands g.E.Record.reading (MayLeave (D.contents new)) (D.contents self.disk).shown (D.contents new).shown self.end self.marks.items _ (c.args.entry ∷ [])
    (c.in-Err.ensures.front was) c.in-Err.ensures.err
    (λ image left. (c.in-Err.ensures.any_moment was).each image (g.met.D.Disk.counts_now new (D.moment self.disk) image told (c.in-Err.ensures.any_moment was).later left))
