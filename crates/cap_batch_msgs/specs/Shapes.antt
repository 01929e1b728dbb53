-- The shape of a body element.
use Rattle.std.specs.Prelude.{◌≡◌, ⊤, true, List}
use Rattle.cap_base.specs.declared.item.Item.{Item}
use Rattle.cap_leaf.specs.declared.kinds.Kind.{Kind}
use Rattle.cap_leaf.specs.Trees.{Data}
use Rattle.cap_batch_msgs.specs.declared.body.BatchBody.{BatchBody}
use Rattle.cap_batch_msgs.specs.declared.body.BatchBody.TheVariants.{Reconcile, ReconcileAnswer, Batch, BatchAnswer, Diagnostic, DiagnosticAnswer, Rejection}
use Rattle.cap_batch_msgs.specs.Items.{IsBatch}
use Rattle.cap_batch_msgs.specs.Bodies.{batch_kind, is_batch_body, batch_body_tree}

-- a batch has 1 to 100 items
abbrev pub HasFewItems : BatchBody → Type 0
HasFewItems (Reconcile period totals) = ⊤
HasFewItems (ReconcileAnswer response period totals) = ⊤
HasFewItems (Batch items) = IsBatch items
HasFewItems (BatchAnswer response last) = ⊤
HasFewItems (Diagnostic last) = ⊤
HasFewItems (DiagnosticAnswer response last) = ⊤
HasFewItems (Rejection refused) = ⊤

-- the tree of a body of the message, whose numbers are in range
pub record HasBatchShape (k : Kind) (d : Data) : Type 0 where
  pub body : BatchBody
  pub kind : batch_kind body ≡ k
  pub range : is_batch_body body ≡ true
  pub few : HasFewItems body
  pub is : d ≡ batch_body_tree body
