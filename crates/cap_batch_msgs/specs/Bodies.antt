-- The trees of the bodies of messages on periods and batches, of the diagnostic messages and of the rejection, and the ranges of their numbers.
use Rattle.std.specs.Prelude.{ℕ, ◌^◌, Bool, true, ◌&&◌, nat_lt, List, [], ◌∷◌, map}
use Rattle.std.specs.List.{list_all}
use Rattle.cap_base.specs.declared.item.Totals.{Totals}
use Rattle.cap_base.specs.declared.item.Item.{Item}
use Rattle.cap_base.specs.declared.item.Item.TheVariants.{Sale, Void, Cancel, Close}
use Rattle.cap_leaf.specs.declared.kinds.Kind.{Kind}
use Rattle.cap_leaf.specs.declared.kinds.Kind.TheVariants.{Caaa009, Caaa010, Caaa011, Caaa012, Caaa013, Caaa014, Caaa015}
use Rattle.cap_leaf.specs.declared.leaf.Leaf.TheVariants as leaf
use Rattle.cap_leaf.specs.Trees.{Data, value, branch, none, child}
use Rattle.cap_fields.specs.Fields.{record_of, repeated}
use Rattle.cap_fields.specs.Codes.{response_code}
use Rattle.cap_fields.specs.Refused.{in_digits, is_refused, refused_tree}
use Rattle.cap_fields.specs.Sales.{sale_tree, void_tree, cancel_tree, chosen}
use Rattle.cap_batch_msgs.specs.declared.body.BatchBody.{BatchBody}
use Rattle.cap_batch_msgs.specs.declared.body.BatchBody.TheVariants.{Reconcile, ReconcileAnswer, Batch, BatchAnswer, Diagnostic, DiagnosticAnswer, Rejection}

-- the message of a body
abbrev pub batch_kind : BatchBody → Kind
batch_kind (Reconcile period totals) = Caaa009
batch_kind (ReconcileAnswer response period totals) = Caaa010
batch_kind (Batch items) = Caaa011
batch_kind (BatchAnswer response last) = Caaa012
batch_kind (Diagnostic last) = Caaa013
batch_kind (DiagnosticAnswer response last) = Caaa014
batch_kind (Rejection refused) = Caaa015

-- counts have at most ten digits, and sums are below 10^19 hundredths
abbrev pub is_totals : Totals → Bool
is_totals t = in_digits 10 t.sales && (in_digits 19 t.sales_sum && (in_digits 10 t.cancels && in_digits 19 t.cancels_sum))

abbrev pub is_item : Item → Bool
is_item (Sale n amount account code) = in_digits 10 n
is_item (Void n) = in_digits 10 n
is_item (Cancel n amount) = in_digits 10 n
is_item (Close p totals) = in_digits 10 p && is_totals totals

-- its numbers are in range
abbrev pub is_batch_body : BatchBody → Bool
is_batch_body (Reconcile period totals) = in_digits 10 period && is_totals totals
is_batch_body (ReconcileAnswer response period totals) = in_digits 10 period && is_totals totals
is_batch_body (Batch items) = list_all is_item items
is_batch_body (BatchAnswer response last) = in_digits 10 last
is_batch_body (Diagnostic last) = in_digits 10 last
is_batch_body (DiagnosticAnswer response last) = in_digits 10 last
is_batch_body (Rejection refused) = is_refused refused

abbrev pub totals_tree : Totals → Data
totals_tree t = record_of (leaf.Num t.sales ∷ leaf.Sum t.sales_sum ∷ leaf.Num t.cancels ∷ leaf.Sum t.cancels_sum ∷ [])

abbrev pub period_tree : ℕ → Totals → Data
period_tree p t = branch (child 0 (value (leaf.Num p)) (child 1 (totals_tree t) none))

abbrev pub item_tree : Item → Data
item_tree (Sale n amount account code) = chosen 0 (sale_tree n amount account code)
item_tree (Void n) = chosen 1 (void_tree n)
item_tree (Cancel n amount) = chosen 2 (cancel_tree n amount)
item_tree (Close p totals) = chosen 3 (period_tree p totals)

-- the body element
abbrev pub batch_body_tree : BatchBody → Data
batch_body_tree (Reconcile period totals) = period_tree period totals
batch_body_tree (ReconcileAnswer response period totals) =
    branch (child 0 (value (response_code response)) (child 1 (value (leaf.Num period)) (child 2 (totals_tree totals) none)))
batch_body_tree (Batch items) = branch (repeated 0 (map item_tree items))
batch_body_tree (BatchAnswer response last) = record_of (response_code response ∷ leaf.Num last ∷ [])
batch_body_tree (Diagnostic last) = record_of (leaf.Num last ∷ [])
batch_body_tree (DiagnosticAnswer response last) = record_of (response_code response ∷ leaf.Num last ∷ [])
batch_body_tree (Rejection refused) = refused_tree refused
