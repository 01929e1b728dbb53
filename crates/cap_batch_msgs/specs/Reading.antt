-- The body that a body element tells, field by field.
use Rattle.std.specs.Prelude.{ℕ, List, Option, Some, None, option_and_then}
use Rattle.cap_base.specs.declared.codes.Response.{Response}
use Rattle.cap_base.specs.declared.item.Totals.{Totals}
use Rattle.cap_base.specs.declared.item.Item.{Item}
use Rattle.cap_base.specs.declared.item.Item.TheVariants.{Sale, Void, Cancel, Close}
use Rattle.cap_leaf.specs.declared.kinds.Kind.{Kind}
use Rattle.cap_leaf.specs.declared.kinds.Kind.TheVariants.{Caaa009, Caaa010, Caaa011, Caaa012, Caaa013, Caaa014, Caaa015}
use Rattle.cap_leaf.specs.Trees.{Data}
use Rattle.cap_fields.specs.Fields.{inside, all_among, child_in, num_in, amount_in, sum_in, account_in, code6_in}
use Rattle.cap_fields.specs.Codes.{response_in}
use Rattle.cap_fields.specs.Refused.{refused_in}
use Rattle.cap_batch_msgs.specs.declared.body.BatchBody.{BatchBody}
use Rattle.cap_batch_msgs.specs.declared.body.BatchBody.TheVariants.{Reconcile, ReconcileAnswer, Batch, BatchAnswer, Diagnostic, DiagnosticAnswer, Rejection}

abbrev pub totals_with : ℕ → ℕ → ℕ → ℕ → Totals
totals_with sales sales_sum cancels cancels_sum = record { sales = sales; sales_sum = sales_sum; cancels = cancels; cancels_sum = cancels_sum }

abbrev pub totals_in : Data → Option Totals
totals_in d =
    option_and_then (λ sales. option_and_then (λ sales_sum. option_and_then (λ cancels. option_and_then (λ cancels_sum. Some (totals_with sales sales_sum cancels cancels_sum))
    (sum_in d 3)) (num_in d 2)) (sum_in d 1)) (num_in d 0)

-- the totals at a place
abbrev pub totals_at : Data → ℕ → Option Totals
totals_at d at = option_and_then totals_in (child_in d at)

abbrev pub sale_in : Data → Option Item
sale_in d =
    option_and_then (λ n. option_and_then (λ amount. option_and_then (λ account. option_and_then (λ code. Some (Sale n amount account code))
    (code6_in d 3)) (account_in d 2)) (amount_in d 1)) (num_in d 0)

abbrev pub void_in : Data → Option Item
void_in d = option_and_then (λ n. Some (Void n)) (num_in d 0)

abbrev pub cancel_in : Data → Option Item
cancel_in d = option_and_then (λ n. option_and_then (λ amount. Some (Cancel n amount)) (amount_in d 1)) (num_in d 0)

abbrev pub close_in : Data → Option Item
close_in d = option_and_then (λ p. option_and_then (λ totals. Some (Close p totals)) (totals_at d 1)) (num_in d 0)

-- by what stands in the rows of a sale, one that was given up, a cancelled one, a closed period
abbrev pub item_by : Option Data → Option Data → Option Data → Option Data → Option Item
item_by (Some sale) void cancel close = sale_in sale
item_by None (Some void) cancel close = void_in void
item_by None None (Some cancel) close = cancel_in cancel
item_by None None None (Some close) = close_in close
item_by None None None None = None

abbrev pub item_in : Data → Option Item
item_in d = item_by (child_in d 0) (child_in d 1) (child_in d 2) (child_in d 3)

-- the items of a batch
abbrev pub items_in : Data → Option (List Item)
items_in d = all_among item_in (inside d)

abbrev pub reconcile_in : Data → Option BatchBody
reconcile_in d = option_and_then (λ period. option_and_then (λ totals. Some (Reconcile period totals)) (totals_at d 1)) (num_in d 0)

abbrev pub reconcile_answer_in : Data → Option BatchBody
reconcile_answer_in d =
    option_and_then (λ response. option_and_then (λ period. option_and_then (λ totals. Some (ReconcileAnswer response period totals))
    (totals_at d 2)) (num_in d 1)) (response_in d 0)

abbrev pub last_in : (Response → ℕ → BatchBody) → Data → Option BatchBody
last_in answer d = option_and_then (λ response. option_and_then (λ last. Some (answer response last)) (num_in d 1)) (response_in d 0)

abbrev pub diagnostic_in : Data → Option BatchBody
diagnostic_in d = option_and_then (λ last. Some (Diagnostic last)) (num_in d 0)

abbrev pub rejection_in : Data → Option BatchBody
rejection_in d = option_and_then (λ refused. Some (Rejection refused)) (refused_in d)

abbrev pub batch_in : Data → Option BatchBody
batch_in d = option_and_then (λ items. Some (Batch items)) (items_in d)

-- a body that is no batch
abbrev pub plain_body_in : Kind → Data → Option BatchBody
plain_body_in Caaa009 d = reconcile_in d
plain_body_in Caaa010 d = reconcile_answer_in d
plain_body_in Caaa012 d = last_in BatchAnswer d
plain_body_in Caaa013 d = diagnostic_in d
plain_body_in Caaa014 d = last_in DiagnosticAnswer d
plain_body_in Caaa015 d = rejection_in d
plain_body_in _ d = None

abbrev pub batch_body_in : Kind → Data → Option BatchBody
batch_body_in Caaa011 d = batch_in d
batch_body_in k d = plain_body_in k d
