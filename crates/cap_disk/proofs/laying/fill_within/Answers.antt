use Rattle.std.proofs.Common.{◌≡◌, ◌+◌, ◌++◌, ℕ, List, [], ◌∷◌, length, replicate, nat_lt, if◌then◌else◌, refl, ◌∙◌, ap, arith}
use Rattle.std.proofs.Math.ListN.{set}
use Rattle.std.proofs.lemmas.List.{replicate_more, length-replicate}
use Rattle.cap_disk.specs.Disk.{overwrite}
use Rattle.cap_disk.proofs.Overlays.{laid_more}
use Rattle.cap_disk.proofs.laying.fill_within.Goals as goal

pub loop-done-preserved : goal.loop-done-preserved
loop-done-preserved c =
    let i : ℕ = c.loop-done.done in
    let old : List ℕ = c.args.shown.now.items in
    let b : ℕ = c.args.byte in
    let front : List ℕ = replicate i b in
    let at : ℕ = c.loop-done.at in
    let size : length front ≡ i = length-replicate i b in
    let is : at ≡ c.args.place + length front = omega arith in
    let longest = c.put_at.ensures.longest in
    record {
      at = omega arith;
      items = c.put_at.ensures.items ∙ ap (λ (l : List ℕ). if nat_lt at (length l) then set l at b else l ++ b ∷ []) c.loop-done.invariant.items
          ∙ laid_more old front c.args.place at b c.requires.place is (nat_lt at (length (overwrite old c.args.place front))) refl
          ∙ ap (λ (l : List ℕ). overwrite old c.args.place l) (replicate_more i b);
      capacity = c.put_at.ensures.capacity ∙ c.loop-done.invariant.capacity;
      longest = omega arith;
    }
