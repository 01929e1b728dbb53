-- A host that was read for a report stands as before.
use Rattle.std.proofs.Common.{◌≡◌, ℕ, Bool, true, List, [], ◌++◌, take, refl, sym, ◌∙◌, ap, subst, inl, append-nil}
use Rattle.std.proofs.Math.Seq.{take-nil}
use Rattle.cap_plays.specs.Plays.{Doubt, no_doubt}
use Rattle.cap_plays.specs.Corresponds.{EndCorresponds}
use Rattle.cap_plays.specs.Holding.{end_has}

-- an end that is on has tried nothing, so that any doubt does
pub end_doubted : {Entry : Type 0} (has : List ℕ → List Entry → Type 0) (images : List ℕ → Type 0) (entries settled tried : List Entry) (is_on : Bool) (doubt : Doubt)
    → EndCorresponds has images true entries settled tried is_on (no_doubt 0) → EndCorresponds has images true entries settled tried is_on doubt
end_doubted {Entry = Entry} has images entries settled tried is_on doubt stands = record {
  on_is = stands.on_is;
  entries_are = stands.entries_are;
  none_tried = stands.none_tried;
  holds = λ image left.
      let none : tried ≡ [] = stands.none_tried refl in
      let all : settled ++ take doubt.least tried ≡ settled = ap (λ (l : List Entry). settled ++ l) (ap (take doubt.least) none ∙ take-nil doubt.least) ∙ append-nil settled in
      (doubt.least, inl refl, subst (has image) (sym all) (end_has has images true entries settled tried is_on (no_doubt 0) stands (sym stands.on_is) image left));
}
