-- The children of a part.
use Rattle.std.proofs.Common.{◌≡◌, ℕ, zero, suc, Option, Some, None, List, [], ◌∷◌, ◌++◌, refl, sym, ap, ◌∙◌, subst, length, drop, ◌≤◌, arith}
use Rattle.std.specs.Prelude.{IsSome, IfSome, option_and_then}
use Rattle.cap_base.specs.Rows.{IsPartRows}
use Rattle.cap_base.specs.declared.parameters.Row.{Row}
use Rattle.cap_base.specs.declared.parameters.ConfigPart.{ConfigPart}
use Rattle.cap_leaf.specs.declared.kinds.Kind.TheVariants.{Catm003}
use Rattle.cap_leaf.specs.declared.tree.Child.{Child}
use Rattle.cap_leaf.specs.Trees.{Data, Children, none, child, children_view, data_of}
use Rattle.cap_fields.specs.Fields.{inside, all_among, num_in}
use Rattle.cap_fields.proofs.Views.{children_cons}
use Rattle.cap_fields.proofs.Repeats.{all_back, some_same}
use Rattle.cap_mgmt_msgs.specs.declared.body.MgmtBody.{MgmtBody}
use Rattle.cap_mgmt_msgs.specs.declared.body.MgmtBody.TheVariants.{Part}
use Rattle.cap_mgmt_msgs.specs.Bodies.{mgmt_body_tree, row_tree}
use Rattle.cap_mgmt_msgs.specs.Shapes.{HasMgmtShape}
use Rattle.cap_mgmt_msgs.specs.Reading.{row_in, children_behind, rows_in, part_with, part_in}
use Rattle.cap_mgmt_msgs.proofs.Whole.{PartOf, part_of, row_back}

-- children behind the first ones, in a list and as data
pub behind_view : (n : ℕ) (cs : List Child) → children_behind n (children_view cs) ≡ children_view (drop n cs)
behind_view zero cs = refl
behind_view (suc n) [] = refl
behind_view (suc n) (c ∷ cs) = ap (children_behind (suc n)) (children_cons c cs) ∙ behind_view n cs

-- three children at least
three_by : (cs : List Child) (a b c : ℕ) (d e f : Data) (rest : Children) → children_view cs ≡ child a d (child b e (child c f rest)) → 3 ≤ length cs
three_by [] a b c d e f rest h = cc
three_by (x ∷ []) a b c d e f rest h = let g = sym (children_cons x []) ∙ h in cc
three_by (x ∷ y ∷ []) a b c d e f rest h = let g = sym (children_cons x (y ∷ [])) ∙ h in let i = sym (children_cons y []) in cc
three_by (x ∷ y ∷ z ∷ cs) a b c d e f rest h = omega arith

pub three_at_least : (d : Data) (cs : List Child) → HasMgmtShape Catm003 d → children_view cs ≡ inside d → 3 ≤ length cs
three_at_least d cs s e = let p = part_of d s in three_by cs 0 1 2 _ _ _ _ (e ∙ ap inside p.is)

rows_there : (d : Data) (p : PartOf d) → rows_in d ≡ Some p.part.rows
rows_there d p = ap rows_in p.is ∙ all_back row_tree row_in row_back 3 p.part.rows

pub rows_are_some : (d : Data) (cs : List Child) → HasMgmtShape Catm003 d → children_view cs ≡ inside d → IsSome (all_among row_in (children_view (drop 3 cs)))
rows_are_some d cs s e =
    let P : Option (List Row) → Type 0 = λ x. IsSome x in
    subst P (sym (ap (all_among row_in) (sym (behind_view 3 cs) ∙ ap (children_behind 3) e) ∙ rows_there d (part_of d s))) refl

pub rows_found : (d : Data) (cs : List Child) (xs : List Row) → children_view cs ≡ inside d → all_among row_in (children_view (drop 3 cs)) ≡ Some xs → rows_in d ≡ Some xs
rows_found d cs xs e found = ap (all_among row_in) (sym (ap (children_behind 3) e) ∙ behind_view 3 cs) ∙ found

pub rows_are_few : (d : Data) (xs : List Row) → HasMgmtShape Catm003 d → rows_in d ≡ Some xs → IsPartRows xs
rows_are_few d xs s e = let p = part_of d s in subst IsPartRows (some_same p.part.rows xs (sym (rows_there d p) ∙ e)) p.few

pub version_is_some : (d : Data) (o : Option ℕ) → HasMgmtShape Catm003 d → o ≡ num_in d 0 → IsSome o
version_is_some d o s e = let P : Option ℕ → Type 0 = λ x. IsSome x in subst P (sym (e ∙ ap (λ t. num_in t 0) (part_of d s).is)) refl

pub part_is_some : (d : Data) (o : Option ℕ) → HasMgmtShape Catm003 d → o ≡ num_in d 1 → IsSome o
part_is_some d o s e = let P : Option ℕ → Type 0 = λ x. IsSome x in subst P (sym (e ∙ ap (λ t. num_in t 1) (part_of d s).is)) refl

pub parts_is_some : (d : Data) (o : Option ℕ) → HasMgmtShape Catm003 d → o ≡ num_in d 2 → IsSome o
parts_is_some d o s e = let P : Option ℕ → Type 0 = λ x. IsSome x in subst P (sym (e ∙ ap (λ t. num_in t 2) (part_of d s).is)) refl

pub part_there : (d : Data) (version part parts : ℕ) (rows : List Row) → num_in d 0 ≡ Some version → num_in d 1 ≡ Some part → num_in d 2 ≡ Some parts → rows_in d ≡ Some rows
    → part_in d ≡ Some (Part (part_with version part parts rows))
part_there d version part parts rows v p q r =
    ap (λ o. option_and_then (λ version. option_and_then (λ part. option_and_then (λ parts. option_and_then (λ rows. Some (Part (part_with version part parts rows))) (rows_in d)) (num_in d 2)) (num_in d 1)) o) v
    ∙ ap (λ o. option_and_then (λ part. option_and_then (λ parts. option_and_then (λ rows. Some (Part (part_with version part parts rows))) (rows_in d)) (num_in d 2)) o) p
    ∙ ap (λ o. option_and_then (λ parts. option_and_then (λ rows. Some (Part (part_with version part parts rows))) (rows_in d)) o) q
    ∙ ap (λ o. option_and_then (λ rows. Some (Part (part_with version part parts rows))) o) r

pub is_given : (o : Option (List Row)) (x y : List Row) → IfSome o (λ s. s ≡ y) → o ≡ Some x → y ≡ x
is_given None x y h e = cc
is_given (Some z) x y h e = sym h ∙ some_same z x e
