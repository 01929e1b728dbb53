-- A body and its tree are one to one.
use Rattle.std.proofs.Common.{◌≡◌, ℕ, true, Option, Some, None, List, [], ◌∷◌, refl, sym, ap, ◌∙◌, subst}
use Rattle.std.specs.Prelude.{option_and_then, IsSome, map}
use Rattle.cap_base.specs.declared.item.Totals.{Totals}
use Rattle.cap_base.specs.declared.item.Item.{Item}
use Rattle.cap_base.specs.declared.item.Item.TheVariants.{Sale, Void, Cancel, Close}
use Rattle.cap_leaf.specs.declared.kinds.Kind.{Kind}
use Rattle.cap_leaf.specs.declared.kinds.Kind.TheVariants.{Caaa009, Caaa010, Caaa011, Caaa012, Caaa013, Caaa014, Caaa015}
use Rattle.cap_leaf.specs.Trees.{Data}
use Rattle.cap_fields.specs.Fields.{repeated}
use Rattle.cap_fields.proofs.Back.{response_back, refused_back}
use Rattle.cap_fields.proofs.Repeats.{all_back, some_same}
use Rattle.cap_batch_msgs.specs.declared.body.BatchBody.{BatchBody}
use Rattle.cap_batch_msgs.specs.declared.body.BatchBody.TheVariants.{Reconcile, ReconcileAnswer, Batch, BatchAnswer, Diagnostic, DiagnosticAnswer, Rejection}
use Rattle.cap_batch_msgs.specs.Items.{IsBatch}
use Rattle.cap_batch_msgs.specs.Bodies.{batch_kind, is_batch_body, batch_body_tree, item_tree}
use Rattle.cap_batch_msgs.specs.Shapes.{HasBatchShape, HasFewItems}
use Rattle.cap_batch_msgs.specs.Reading.{item_in, items_in, batch_body_in, plain_body_in}

pub item_back : (x : Item) → item_in (item_tree x) ≡ Some x
item_back (Sale n amount account code) = refl
item_back (Void n) = refl
item_back (Cancel n amount) = refl
item_back (Close p totals) = refl

-- a body is read back from its tree
pub body_back : (b : BatchBody) → batch_body_in (batch_kind b) (batch_body_tree b) ≡ Some b
body_back (Reconcile period totals) = refl
body_back (ReconcileAnswer response period totals) = ap (option_and_then (λ r. Some (ReconcileAnswer r period totals))) (response_back response)
body_back (Batch items) = ap (option_and_then (λ xs. Some (Batch xs))) (all_back item_tree item_in item_back 0 items)
body_back (BatchAnswer response last) = ap (option_and_then (λ r. Some (BatchAnswer r last))) (response_back response)
body_back (Diagnostic last) = refl
body_back (DiagnosticAnswer response last) = ap (option_and_then (λ r. Some (DiagnosticAnswer r last))) (response_back response)
body_back (Rejection refused) = ap (option_and_then (λ r. Some (Rejection r))) (refused_back refused)

pub same_body : (a b : BatchBody) → batch_kind a ≡ batch_kind b → batch_body_tree a ≡ batch_body_tree b → a ≡ b
same_body a b k t =
    some_same a b (sym (body_back a) ∙ ap (λ j. batch_body_in j (batch_body_tree a)) k ∙ ap (batch_body_in (batch_kind b)) t ∙ body_back b)

-- what a tree of the shape is read as
pub record IsReadAs (k : Kind) (d : Data) (b : BatchBody) : Type 0 where
  pub kind : batch_kind b ≡ k
  pub tree : d ≡ batch_body_tree b
  pub range : is_batch_body b ≡ true

pub shape_read : (k : Kind) (d : Data) (s : HasBatchShape k d) → batch_body_in k d ≡ Some s.body
shape_read k d s = ap (λ j. batch_body_in j d) (sym s.kind) ∙ ap (batch_body_in (batch_kind s.body)) s.is ∙ body_back s.body

pub read_as : (k : Kind) (d : Data) (b : BatchBody) → HasBatchShape k d → batch_body_in k d ≡ Some b → IsReadAs k d b
read_as k d b s e =
    let P : BatchBody → Type 0 = λ x. IsReadAs k d x in
    subst P (some_same s.body b (sym (shape_read k d s) ∙ e)) (record { kind = s.kind; tree = s.is; range = s.range })

-- a body that is no batch is read without its items
pub plain_is : (k : Kind) (d : Data) → (k ≡ Caaa011 → ⊥) → batch_body_in k d ≡ plain_body_in k d
plain_is Caaa011 d other = absurd (other refl)
plain_is _ d other = refl

pub plain_is_some : (k : Kind) (d : Data) (o : Option BatchBody) → (k ≡ Caaa011 → ⊥) → HasBatchShape k d → o ≡ plain_body_in k d → IsSome o
plain_is_some k d o other s e = let P : Option BatchBody → Type 0 = λ x. IsSome x in subst P (sym (e ∙ sym (plain_is k d other) ∙ shape_read k d s)) refl

pub plain_read_as : (k : Kind) (d : Data) (b : BatchBody) → (k ≡ Caaa011 → ⊥) → HasBatchShape k d → Some b ≡ plain_body_in k d → IsReadAs k d b
plain_read_as k d b other s e = read_as k d b s (plain_is k d other ∙ sym e)

-- ---- a batch

items_of_body : (d : Data) (b : BatchBody) → batch_kind b ≡ Caaa011 → d ≡ batch_body_tree b → HasFewItems b → (xs : List Item) × (items_in d ≡ Some xs) × IsBatch xs × (b ≡ Batch xs)
items_of_body d (Batch items) k e few = (items, ap items_in e ∙ all_back item_tree item_in item_back 0 items, few, refl)
items_of_body d (Reconcile period totals) k e few = cc
items_of_body d (ReconcileAnswer response period totals) k e few = cc
items_of_body d (BatchAnswer response last) k e few = cc
items_of_body d (Diagnostic last) k e few = cc
items_of_body d (DiagnosticAnswer response last) k e few = cc
items_of_body d (Rejection refused) k e few = cc

pub batch_items : (d : Data) → HasBatchShape Caaa011 d → (xs : List Item) × (items_in d ≡ Some xs) × IsBatch xs
batch_items d s = let r = items_of_body d s.body s.kind s.is s.few in (r.0, r.1, r.2)

pub batch_is_some : (d : Data) → HasBatchShape Caaa011 d → IsSome (items_in d)
batch_is_some d s = let P : Option (List Item) → Type 0 = λ x. IsSome x in subst P (sym (batch_items d s).1) refl

pub batch_is_few : (d : Data) (xs : List Item) → HasBatchShape Caaa011 d → items_in d ≡ Some xs → IsBatch xs
batch_is_few d xs s e = let r = batch_items d s in subst IsBatch (some_same r.0 xs (sym r.1 ∙ e)) r.2

pub batch_read_as : (k : Kind) (d : Data) (xs : List Item) → k ≡ Caaa011 → HasBatchShape k d → items_in d ≡ Some xs → IsReadAs k d (Batch xs)
batch_read_as k d xs e s found =
    read_as k d (Batch xs) s (ap (λ j. batch_body_in j d) e ∙ ap (option_and_then (λ ys. Some (Batch ys))) found)
