use Rattle.std.proofs.Common.{ℕ, ◌∙◌, ap}
use Rattle.std.specs.Ordering.{nat_cmp}
use Rattle.std.specs.BTreeSet.{BTreeSet, contains}
use Rattle.std.specs.BTreeMap.{BTreeMap, get}
use Rattle.cap_entries.specs.Log.{log}
use Rattle.cap_host_index.proofs.index.LogIndex.note.Goals as goal
use Rattle.cap_host_index.proofs.Growth.{forgotten, some_none}

pub returns-in-Err-clause-unnoted : goal.returns-in-Err-clause-unnoted
returns-in-Err-clause-unnoted c = λ entries terminal index fit.
    let m = c.make_room.ensures in
    let a = c.note_all.ensures in
    let f = c.forget_all.ensures in
    let x = c.args.self.now in
    record {
      places = ap (λ v. v.items) (f.places ∙ a.places) ∙ (m.places ∙ index.places);
      tallies =
          forgotten (log entries terminal) c.args.items.now c.note_all.new.self _
          (some_none entries terminal c.args.items.now x c.note_all.new.self index fit
          (λ n none. a.other_ends n none ∙ ap (λ (s : BTreeSet ℕ). contains nat_cmp s n) m.ended)
          (λ n none. a.other_places n none ∙ ap (λ (t : BTreeMap ℕ ℕ). get nat_cmp t n) m.captured)
          (ap (λ v. v.items) a.kept ∙ m.kept) (a.running ∙ m.running) (ap (λ v. v.items) a.closed ∙ m.closed))
          f.ended f.captured (ap (λ v. v.items) f.kept) f.running (ap (λ v. v.items) f.closed);
    }
