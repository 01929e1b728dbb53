-- The one child of a structure.
use Rattle.std.proofs.Common.{◌≡◌, List, [], ◌∷◌, ◌++◌, length, length-append, Option, Some, None, refl, sym, ◌∙◌, ap, arith}
use Rattle.std.specs.Prelude.{MatchOption}
use Rattle.cap_leaf.specs.declared.kinds.Kind.{Kind}
use Rattle.cap_leaf.specs.declared.tree.Child.{Child}
use Rattle.cap_leaf.specs.declared.tree.Tree.{Tree}
use Rattle.cap_leaf.specs.declared.tree.Tree.TheVariants as tree
use Rattle.cap_leaf.specs.declared.leaf.Leaf.{Leaf}
use Rattle.cap_leaf.specs.Trees.{Data, branch, none, child, data_of, children_view}
use Rattle.cap_text.specs.Bytes.{Verdict, message_in}
use Rattle.cap_text.proofs.Seeing.{data_leaf, data_branch, children_cons}

abbrev NoMessage : Data → Type 0
NoMessage d = (k : Kind) (v : Verdict) → message_in k d v ≡ v

pub leaf_is_none : (t : Tree) (x : Leaf) → t ≡ tree.Leaf x → NoMessage (data_of t)
leaf_is_none t x e = λ k v. ap (λ d. message_in k d v) (ap data_of e ∙ data_leaf x)

others : (cs : List Child) → (length cs ≡ 1 → ⊥) → NoMessage (branch (children_view cs))
others [] h = λ k v. refl
others (c ∷ []) h = absurd (h refl)
others (c ∷ d ∷ cs) h = λ k v.
    ap (λ l. message_in k (branch l) v) (children_cons c (d ∷ cs) ∙ ap (child c.at (data_of c.tree)) (children_cons d cs))

pub branch_is_none : (t : Tree) (cs : List Child) → t ≡ tree.Branch cs → (length cs ≡ 1 → ⊥) → NoMessage (data_of t)
branch_is_none t cs e h = λ k v. ap (λ d. message_in k d v) (ap data_of e ∙ data_branch cs) ∙ others cs h k v

nothing : (xs : List Child) → length xs ≡ 0 → xs ≡ []
nothing [] e = refl
nothing (x ∷ xs) e = absurd (omega (arith, e))

pub only_is : (t : Tree) (cs old new : List Child) (r : Option Child) → t ≡ tree.Branch cs → old ≡ cs → length old ≡ 1
    → MatchOption r ((old ≡ []) × (new ≡ [])) (λ last. old ≡ new ++ last ∷ [])
    → MatchOption r (NoMessage (data_of t)) (λ c. data_of t ≡ branch (child c.at (data_of c.tree) none))
only_is t cs old new None e same one h = absurd (let z : length old ≡ 0 = ap length h.0 in omega (arith, z, one))
only_is t cs old new (Some last) e same one h =
    let more : new ≡ [] = nothing new (omega (arith, sym (ap length h) ∙ one, length-append new (last ∷ []))) in
    ap data_of e ∙ (data_branch cs ∙ (ap (λ l. branch (children_view l)) (sym same ∙ (h ∙ ap (λ l. l ++ last ∷ []) more)) ∙ ap branch (children_cons last [])))
