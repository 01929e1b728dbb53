-- The canonical spelling of a leaf reads as that leaf.
use Rattle.std.proofs.Common.{◌≡◌, ℕ, ◌^◌, ◌≤◌, ◌<◌, Bool, true, List, length, sym, ◌∙◌, ap, rules, Some, subst}
use Rattle.std.specs.Prelude.{nat_le, nat_lt, option_map}
use Rattle.cap_base.specs.Text.{is_ident, is_account, is_code6, spelt_if}
use Rattle.cap_leaf.specs.declared.kinds.LeafKind.{LeafKind}
use Rattle.cap_leaf.specs.declared.kinds.LeafKind.TheVariants as kind
use Rattle.cap_leaf.specs.declared.leaf.Leaf.{Leaf}
use Rattle.cap_leaf.specs.declared.leaf.Leaf.TheVariants as leaf
use Rattle.cap_leaf.specs.Codes.{codes_of, is_list, code_at}
use Rattle.cap_leaf.specs.Spelling.{leaf_of, is_kind, is_leaf, IsLeafOf, IsValue, place_in}
use Rattle.cap_leaf.specs.Canonical.{leaf_text}
use Rattle.cap_leaf.proofs.Moments.{both}
use Rattle.cap_leaf.proofs.CodeLists.{code_place}
use Rattle.cap_leaf.proofs.ReadBack.{number_reads, sum_reads, amount_reads}
use Rattle.cap_leaf.proofs.DatesBack.{date_reads}

at_most : (n m : ℕ) → nat_le n m ≡ true → n ≤ m
at_most n m e = search rules

below : (n m : ℕ) → nat_lt n m ≡ true → n < m
below n m e = search rules

spelt : (test : Bool) (text : List ℕ) → test ≡ true → spelt_if test text ≡ Some text
spelt test text e = ap (λ t. spelt_if t text) e

pub reads_back : (k : LeafKind) (x : Leaf) → is_kind k ≡ true → IsLeafOf k x → is_leaf x ≡ true → IsValue x → leaf_of k (leaf_text x) ≡ Some x
reads_back (kind.Num d) (leaf.Num n) i h r v =
    let t = both (nat_le 1 d) (nat_le d 10) i in ap (option_map leaf.Num) (number_reads d n (at_most 1 d t.0) (at_most d 10 t.1) h)
reads_back kind.Amount (leaf.Amount n) i h r v = ap (option_map leaf.Amount) (amount_reads n v)
reads_back kind.Sum (leaf.Sum n) i h r v = ap (option_map leaf.Sum) (sum_reads n (below n (10 ^ 19) r))
reads_back kind.Ident (leaf.Ident text) i h r v = ap (option_map leaf.Ident) (spelt (is_ident text) text v)
reads_back kind.Account (leaf.Account text) i h r v = ap (option_map leaf.Account) (spelt (is_account text) text v)
reads_back kind.Code6 (leaf.Code6 text) i h r v = ap (option_map leaf.Code6) (spelt (is_code6 text) text v)
reads_back kind.DateTime (leaf.DateTime d) i h r v = ap (option_map leaf.DateTime) (date_reads d v)
reads_back (kind.Code m) (leaf.Code l at) i h r v =
    let t = both (is_list l) (nat_lt at (length (codes_of l))) r in
    ap (λ list. option_map (leaf.Code list) (place_in (codes_of list) 0 (code_at l at))) (sym h)
    ∙ ap (option_map (leaf.Code l)) (code_place l at (below at _ t.1))
reads_back k x i h r v = absurd h

-- the same for a text and a leaf that are given by equations
pub written_back : (k : LeafKind) (x y : Leaf) (text : List ℕ) → x ≡ y → text ≡ leaf_text y → is_kind k ≡ true → IsLeafOf k x → is_leaf x ≡ true → IsValue y → leaf_of k text ≡ Some x
written_back k x y text e t i h r v =
    ap (leaf_of k) t ∙ (reads_back k y i (subst (IsLeafOf k) e h) (ap is_leaf (sym e) ∙ r) v ∙ ap Some (sym e))
