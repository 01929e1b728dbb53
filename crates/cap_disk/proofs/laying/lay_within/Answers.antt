use Rattle.std.proofs.Common.{◌≡◌, ◌+◌, ◌++◌, ℕ, List, [], ◌∷◌, length, take, get_or, nat_lt, if◌then◌else◌, refl, sym, ◌∙◌, ap, arith, length-take}
use Rattle.std.proofs.Math.ListN.{set}
use Rattle.std.proofs.lemmas.List.{take_more}
use Rattle.cap_disk.specs.Disk.{overwrite}
use Rattle.cap_disk.proofs.Overlays.{laid_more}
use Rattle.cap_disk.proofs.laying.lay_within.Goals as goal

pub loop-byte-preserved : goal.loop-byte-preserved
loop-byte-preserved c =
    let i : ℕ = c.loop-byte.byte-index in
    let old : List ℕ = c.args.shown.now.items in
    let front : List ℕ = take i c.args.bytes.now in
    let b : ℕ = get_or c.args.bytes.now i 0 in
    let at : ℕ = c.loop-byte.at in
    let size : length front ≡ i = omega (arith, length-take i c.args.bytes.now) in
    let is : at ≡ c.args.place + length front = omega arith in
    let longest = c.put_at.ensures.longest in
    record {
      at = omega arith;
      items = c.put_at.ensures.items ∙ ap (λ (l : List ℕ). if nat_lt at (length l) then set l at b else l ++ b ∷ []) c.loop-byte.invariant.items
          ∙ laid_more old front c.args.place at b c.requires.place is (nat_lt at (length (overwrite old c.args.place front))) refl
          ∙ ap (λ (l : List ℕ). overwrite old c.args.place l) (sym (take_more c.args.bytes.now i 0 c.loop-byte-test.true));
      capacity = c.put_at.ensures.capacity ∙ c.loop-byte.invariant.capacity;
      longest = omega arith;
    }
