-- What is written of an element, by its form, and of the first of several children.
use Rattle.std.proofs.Common.{◌≡◌, ℕ, suc, ◌+◌, ◌<◌, true, List, [], ◌∷◌, ◌++◌, length, refl, sym, ◌∙◌, ap, arith, Option, Some, None, drop, subst, append_assoc, append-nil, get_or}
use Rattle.std.specs.Prelude.{slice_get, option_map}
use Rattle.std.proofs.lemmas.Grind.{flat_map-append}
use Rattle.std.proofs.lemmas.List.{drop_more}
use Rattle.std.proofs.lemmas.Option.{slice_get_within, get_or_from_slice_get}
use Rattle.cap_leaf.specs.declared.leaf.Leaf.{Leaf}
use Rattle.cap_leaf.specs.declared.kinds.LeafKind.{LeafKind}
use Rattle.cap_leaf.specs.declared.tree.Tree.{Tree}
use Rattle.cap_leaf.specs.declared.tree.Child.{Child}
use Rattle.cap_leaf.specs.declared.tree.Tree.TheVariants as tree
use Rattle.cap_leaf.specs.declared.schema.Node.{Node}
use Rattle.cap_leaf.specs.Schema.{Content, Table, leaf, row, Row, table_in}
use Rattle.cap_leaf.specs.Trees.{Data, Children, value, branch, none, child, data_of, children_view}
use Rattle.cap_leaf.specs.View.{table_view, content_view, row_of}
use Rattle.cap_leaf.specs.Spelling.{is_kind, is_leaf, IsLeafOf, leaf_of}
use Rattle.cap_leaf.specs.Canonical.{leaf_text}
use Rattle.cap_trees.specs.Fits.{Fits, FitsRows, FitsRow, a_leaf, in_order, a_choice, no_row, one_more, next_row, this_row, other_row}
use Rattle.cap_text.specs.Pieces.{Piece, closing, piece_text, text_of, opening_text, closing_text}
use Rattle.cap_text.specs.Canon.{row_at, by_row, element, children}
use Rattle.cap_text.specs.Written.{FitsAt, EachFits, IsSpelt, SpeltAt, AreSpelt, EachSpelt}
use Rattle.cap_text.proofs.Seeing.{data_leaf, data_branch, row_lookup, children_cons, pieces_cons}

-- ---- what fits, row by row

-- a row of the rest of a table is one of the whole
abbrev pub Within : Table → ℕ → Table → Type 0
Within t at whole = (k : ℕ) → row_at t k ≡ row_at whole (at + k)

pub within_first : (tag : List ℕ) (least most : ℕ) (c : Content) (rest : Table) (at : ℕ) (whole : Table) → Within (row tag least most c rest) at whole
    → row_at whole at ≡ Some record { tag = tag; least = least; most = most; content = c }
within_first tag least most c rest at whole h = ap (row_at whole) (let e : at ≡ at + 0 = omega arith in e) ∙ sym (h 0)

pub within_rest : (tag : List ℕ) (least most : ℕ) (c : Content) (rest : Table) (at : ℕ) (whole : Table) → Within (row tag least most c rest) at whole → Within rest (suc at) whole
within_rest tag least most c rest at whole h = λ k. h (suc k) ∙ ap (row_at whole) (let e : at + suc k ≡ suc at + k = omega arith in e)

pub within_self : (t : Table) → Within t 0 t
within_self t = λ k. ap (row_at t) (let e : k ≡ 0 + k = omega arith in e)

pub each_rows : {t : Table} {at n : ℕ} {cs : Children} (whole : Table) → Within t at whole → FitsRows t at n cs → EachFits cs whole
each_rows whole h no_row = tt
each_rows whole h (one_more {tag} {least} {most} {c} {rest} {at} {n} {d} {cs} lt f r) =
    (let P : Option Row → Type 0 = λ o. FitsAt o d in subst P (sym (within_first tag least most c rest at whole h)) f, each_rows whole h r)
each_rows whole h (next_row {tag} {least} {most} {c} {rest} {at} le r) = each_rows whole (within_rest tag least most c rest at whole h) r

each_row : {t : Table} {at place : ℕ} {d : Data} (whole : Table) → Within t at whole → FitsRow t at place d → FitsAt (row_at whole place) d
each_row whole h (this_row {tag} {least} {most} {c} {rest} {at} {d} f) = let P : Option Row → Type 0 = λ o. FitsAt o d in subst P (sym (within_first tag least most c rest at whole h)) f
each_row whole h (other_row {tag} {least} {most} {c} {rest} {at} r) = each_row whole (within_rest tag least most c rest at whole h) r

-- the children of a structure that fits
branch_fits : {c : Content} {d : Data} → Fits c d → (cs : Children) → d ≡ branch cs → EachFits cs (table_in c)
branch_fits (a_leaf i h r) cs e = absurd (let no : ⊥ = cc in no)
branch_fits (in_order {t} {cs = ds} r) cs e = let P : Children → Type 0 = λ x. EachFits x t in subst P (let s : ds ≡ cs = cc in s) (each_rows t (within_self t) r)
branch_fits (a_choice {t} {at} {d} r) cs e = let P : Children → Type 0 = λ x. EachFits x t in subst P (let s : child at d none ≡ cs = cc in s) (each_row t (within_self t) r, tt)

-- the leaf of one that fits
pub record LeafFits (c : Content) (x : Leaf) : Type 0 where
  pub kind : LeafKind
  pub is : c ≡ leaf kind
  pub good : is_kind kind ≡ true
  pub of : IsLeafOf kind x
  pub range : is_leaf x ≡ true

leaf_fits : {c : Content} {d : Data} → Fits c d → (x : Leaf) → d ≡ value x → LeafFits c x
leaf_fits (a_leaf {k} {x = y} i h r) x e =
    let s : y ≡ x = cc in record { kind = k; is = refl; good = i; of = subst (IsLeafOf k) s h; range = ap is_leaf (sym s) ∙ r }
leaf_fits (in_order r) x e = absurd (let no : ⊥ = cc in no)
leaf_fits (a_choice r) x e = absurd (let no : ⊥ = cc in no)

-- ---- by the form of the tree

pub tree_leaf : (d : Tree) (n : Node) (x : Leaf) → d ≡ tree.Leaf x → Fits (content_view n.shape) (data_of d) → LeafFits (content_view n.shape) x
tree_leaf d n x e h = leaf_fits h x (ap data_of e ∙ data_leaf x)

pub tree_branch : (d : Tree) (n : Node) (cs ds : List Child) (ns : List Node) → d ≡ tree.Branch cs → ds ≡ cs → table_view ns ≡ table_in (content_view n.shape)
    → Fits (content_view n.shape) (data_of d) → EachFits (children_view ds) (table_view ns)
tree_branch d n cs ds ns e same table h =
    let fits : EachFits (children_view cs) (table_in (content_view n.shape)) = branch_fits h (children_view cs) (ap data_of e ∙ data_branch cs) in
    subst (λ xs. EachFits (children_view xs) (table_view ns)) (sym same) (subst (λ t. EachFits (children_view cs) t) (sym table) fits)

text_leaf : (tag : List ℕ) (x : Leaf) → opening_text tag ++ ((leaf_text x ++ closing_text tag) ++ []) ≡ opening_text tag ++ leaf_text x ++ closing_text tag
text_leaf tag x = ap (λ t. opening_text tag ++ t) (append-nil (leaf_text x ++ closing_text tag)) ∙ sym (append_assoc (opening_text tag) (leaf_text x) (closing_text tag))

text_structure : (tag : List ℕ) (ps : List Piece) → opening_text tag ++ text_of (ps ++ closing tag ∷ []) ≡ opening_text tag ++ text_of ps ++ closing_text tag
text_structure tag ps =
    ap (λ t. opening_text tag ++ t) (flat_map-append piece_text ps (closing tag ∷ []) ∙ ap (λ t. text_of ps ++ t) (append-nil (closing_text tag)))
    ∙ sym (append_assoc (opening_text tag) (text_of ps) (closing_text tag))

pub leaf_written : (d : Tree) (n : Node) (x : Leaf) → d ≡ tree.Leaf x
    → opening_text n.tag.now ++ leaf_text x ++ closing_text n.tag.now ≡ text_of (element (data_of d) (row_of n))
leaf_written d n x e =
    let a : data_of d ≡ value x = ap data_of e ∙ data_leaf x in
    sym (ap (λ v. text_of (element v (row_of n))) a ∙ text_leaf n.tag.now x)

leaf_spelt : (c : Content) (x : Leaf) → LeafFits c x → ((k : LeafKind) → is_kind k ≡ true → IsLeafOf k x → leaf_of k (leaf_text x) ≡ Some x) → IsSpelt c x
leaf_spelt c x f reads = let P : Content → Type 0 = λ d. IsSpelt d x in subst P (sym f.is) (reads f.kind f.good f.of)

pub tree_leaf_spelt : (d : Tree) (n : Node) (x : Leaf) → d ≡ tree.Leaf x → Fits (content_view n.shape) (data_of d)
    → ((k : LeafKind) → is_kind k ≡ true → IsLeafOf k x → leaf_of k (leaf_text x) ≡ Some x) → AreSpelt (data_of d) (row_of n)
tree_leaf_spelt d n x e h reads =
    let P : Data → Type 0 = λ v. AreSpelt v (row_of n) in
    subst P (sym (ap data_of e ∙ data_leaf x)) (leaf_spelt (content_view n.shape) x (tree_leaf d n x e h) reads)

-- the children of a structure, as the code is given them
pub branch_written : (d : Tree) (n : Node) (cs ds : List Child) (ns : List Node) → d ≡ tree.Branch cs → ds ≡ cs → table_view ns ≡ table_in (content_view n.shape)
    → opening_text n.tag.now ++ text_of (children (children_view ds) (table_view ns)) ++ closing_text n.tag.now ≡ text_of (element (data_of d) (row_of n))
branch_written d n cs ds ns e same table =
    let a : data_of d ≡ branch (children_view cs) = ap data_of e ∙ data_branch cs in
    ap (λ xs. opening_text n.tag.now ++ text_of (children (children_view xs) (table_view ns)) ++ closing_text n.tag.now) same
    ∙ (ap (λ t. opening_text n.tag.now ++ text_of (children (children_view cs) t) ++ closing_text n.tag.now) table
    ∙ sym (ap (λ v. text_of (element v (row_of n))) a ∙ text_structure n.tag.now (children (children_view cs) (table_in (content_view n.shape)))))

pub branch_spelt : (d : Tree) (n : Node) (cs ds : List Child) (ns : List Node) → d ≡ tree.Branch cs → ds ≡ cs → table_view ns ≡ table_in (content_view n.shape)
    → EachSpelt (children_view ds) (table_view ns) → AreSpelt (data_of d) (row_of n)
branch_spelt d n cs ds ns e same table h =
    let P : Data → Type 0 = λ v. AreSpelt v (row_of n) in
    subst P (sym (ap data_of e ∙ data_branch cs))
    (subst (λ t. EachSpelt (children_view cs) t) table (subst (λ xs. EachSpelt (children_view xs) (table_view ns)) same h))

-- ---- the loop over children

-- what is left of the children fits and makes the rest of the text, and once it is spelt, the whole is
pub record Writes (left : List Child) (ns : List Node) (whole : List Child) (old out : List ℕ) : Type 0 where
  pub fits : EachFits (children_view left) (table_view ns)
  pub text : out ++ text_of (children (children_view left) (table_view ns)) ≡ old ++ text_of (children (children_view whole) (table_view ns))
  pub spelt : EachSpelt (children_view left) (table_view ns) → EachSpelt (children_view whole) (table_view ns)

here : (xs : List Child) (i : ℕ) (x : Child) → i < length xs → x ≡ get_or xs i x → drop i xs ≡ x ∷ drop (i + 1) xs
here xs i x lt is = drop_more xs i x lt ∙ ap (λ y. y ∷ drop (i + 1) xs) (sym is)

-- the row of a child
pub record Rowed (ns : List Node) (x : Child) : Type 0 where
  pub node : Node
  pub is : slice_get ns x.at ≡ Some node
  pub fits : Fits (content_view node.shape) (data_of x.tree)

rowed : (ns : List Node) (x : Child) (o : Option Node) → slice_get ns x.at ≡ o → FitsAt (option_map row_of o) (data_of x.tree) → Rowed ns x
rowed ns x None e h = absurd h
rowed ns x (Some n) e h = record { node = n; is = e; fits = h }

first_fits : (ns : List Node) (x : Child) (xs : List Child) → EachFits (children_view (x ∷ xs)) (table_view ns) → Rowed ns x × EachFits (children_view xs) (table_view ns)
first_fits ns x xs h =
    let P : Children → Type 0 = λ d. EachFits d (table_view ns) in
    let split : FitsAt (row_at (table_view ns) x.at) (data_of x.tree) × EachFits (children_view xs) (table_view ns) = subst P (children_cons x xs) h in
    let Q : Option Row → Type 0 = λ o. FitsAt o (data_of x.tree) in
    (rowed ns x (slice_get ns x.at) refl (subst Q (row_lookup ns x.at) split.0), split.1)

pub child_row : (xs whole : List Child) (ns : List Node) (i : ℕ) (x : Child) (old out : List ℕ) → i < length xs → x ≡ get_or xs i x → Writes (drop i xs) ns whole old out
    → Rowed ns x × EachFits (children_view (drop (i + 1) xs)) (table_view ns)
child_row xs whole ns i x old out lt is had =
    first_fits ns x (drop (i + 1) xs) (subst (λ cs. EachFits (children_view cs) (table_view ns)) (here xs i x lt is) had.fits)

pub child_within : (xs whole : List Child) (ns : List Node) (i : ℕ) (x : Child) (old out : List ℕ) → i < length xs → x ≡ get_or xs i x → Writes (drop i xs) ns whole old out
    → x.at < length ns
child_within xs whole ns i x old out lt is had = let r = (child_row xs whole ns i x old out lt is had).0 in slice_get_within ns x.at r.node r.is

pub child_fits : (xs whole : List Child) (ns : List Node) (i : ℕ) (x : Child) (d : Node) (old out : List ℕ) → i < length xs → x ≡ get_or xs i x → Writes (drop i xs) ns whole old out
    → Fits (content_view (get_or ns x.at d).shape) (data_of x.tree)
child_fits xs whole ns i x d old out lt is had =
    let r = (child_row xs whole ns i x old out lt is had).0 in
    subst (λ (n : Node). Fits (content_view n.shape) (data_of x.tree)) (sym (get_or_from_slice_get ns x.at r.node d r.is)) r.fits

first_text : (c : Child) (cs : List Child) (ns : List Node) (n : Node) → slice_get ns c.at ≡ Some n
    → text_of (children (children_view (c ∷ cs)) (table_view ns)) ≡ text_of (element (data_of c.tree) (row_of n)) ++ text_of (children (children_view cs) (table_view ns))
first_text c cs ns n e =
    ap text_of (pieces_cons c cs (table_view ns)
    ∙ ap (λ r. by_row r (element (data_of c.tree)) ++ children (children_view cs) (table_view ns)) (row_lookup ns c.at ∙ ap (option_map row_of) e))
    ∙ flat_map-append piece_text (element (data_of c.tree) (row_of n)) (children (children_view cs) (table_view ns))

first_spelt : (c : Child) (cs : List Child) (ns : List Node) (n : Node) → slice_get ns c.at ≡ Some n
    → AreSpelt (data_of c.tree) (row_of n) → EachSpelt (children_view cs) (table_view ns) → EachSpelt (children_view (c ∷ cs)) (table_view ns)
first_spelt c cs ns n e mine rest =
    let P : Children → Type 0 = λ d. EachSpelt d (table_view ns) in
    let Q : Option Row → Type 0 = λ o. SpeltAt o (AreSpelt (data_of c.tree)) in
    subst P (sym (children_cons c cs)) (subst Q (sym (row_lookup ns c.at ∙ ap (option_map row_of) e)) mine, rest)

pub child_written : (xs whole : List Child) (ns : List Node) (i : ℕ) (x : Child) (d : Node) (old out new : List ℕ) → i < length xs → x ≡ get_or xs i x
    → Writes (drop i xs) ns whole old out → new ≡ out ++ text_of (element (data_of x.tree) (row_of (get_or ns x.at d))) → AreSpelt (data_of x.tree) (row_of (get_or ns x.at d))
    → Writes (drop (i + 1) xs) ns whole old new
child_written xs whole ns i x d old out new lt is had wrote spelt =
    let later = drop (i + 1) xs in
    let found = child_row xs whole ns i x old out lt is had in
    let n = found.0.node in
    let same = get_or_from_slice_get ns x.at n d found.0.is in
    let rest = text_of (children (children_view later) (table_view ns)) in
    let mine = text_of (element (data_of x.tree) (row_of n)) in
    let wrote' : new ≡ out ++ mine = wrote ∙ ap (λ (m : Node). out ++ text_of (element (data_of x.tree) (row_of m))) same in
    let whole_text : text_of (children (children_view (drop i xs)) (table_view ns)) ≡ mine ++ rest =
    ap (λ cs. text_of (children (children_view cs) (table_view ns))) (here xs i x lt is) ∙ first_text x later ns n found.0.is in
    record {
      fits = found.1;
      text = ap (λ o. o ++ rest) wrote' ∙ append_assoc out mine rest ∙ ap (λ h. out ++ h) (sym whole_text) ∙ had.text;
      spelt = λ h. had.spelt (subst (λ cs. EachSpelt (children_view cs) (table_view ns)) (sym (here xs i x lt is))
          (first_spelt x later ns n found.0.is (subst (λ (m : Node). AreSpelt (data_of x.tree) (row_of m)) same spelt) h));
    }
