use Rattle.std.proofs.Common.{length, ◌∙◌, ap, arith}
use Rattle.cap_host_index.proofs.index.LogIndex.note_all.Goals as goal
use Rattle.cap_base.specs.Item.{is_end}
use Rattle.cap_host_index.proofs.Growth.{noted_step, none_at}

pub loop-i-preserved : goal.loop-i-preserved
loop-i-preserved c =
    let i = c.loop-i.invariant in
    let e = c.in_ok-note_item.ensures in
    let n = c.note_item.ensures in
    let x = c.loop-i.self in
    let item = c.index-items-i.result in
    record {
      noted = λ entries terminal index fit.
          noted_step entries terminal c.args.items.now c.loop-i.i _ item x _ (omega arith) c.index-items-i.is (omega (arith, ap (λ v. length v.items) i.places)) fit (i.noted entries terminal index fit)
          e.ended e.captured (ap (λ v. v.items) n.places) (ap (λ v. v.items) n.kept) n.running (ap (λ v. v.items) n.closed);
      other_ends = λ k none. n.other_ends k (ap (is_end k) c.index-items-i.is ∙ none_at (is_end k) c.args.items.now c.loop-i.i item (omega arith) none) ∙ i.other_ends k none;
      other_places = λ k none. n.other_places k (ap (is_end k) c.index-items-i.is ∙ none_at (is_end k) c.args.items.now c.loop-i.i item (omega arith) none) ∙ i.other_places k none;
      places = n.places ∙ i.places;
      kept = n.kept ∙ i.kept;
      closed = n.closed ∙ i.closed;
      running = n.running ∙ i.running;
    }
