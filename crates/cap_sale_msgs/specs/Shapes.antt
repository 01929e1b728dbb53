-- The shape of a body element.
use Rattle.std.specs.Prelude.{◌≡◌, true}
use Rattle.cap_leaf.specs.declared.kinds.Kind.{Kind}
use Rattle.cap_leaf.specs.Trees.{Data}
use Rattle.cap_sale_msgs.specs.declared.body.SaleBody.{SaleBody}
use Rattle.cap_sale_msgs.specs.Bodies.{sale_kind, is_sale_body, sale_body_tree}

-- the tree of a body of the message, whose numbers are in range
pub record HasSaleShape (k : Kind) (d : Data) : Type 0 where
  pub body : SaleBody
  pub kind : sale_kind body ≡ k
  pub range : is_sale_body body ≡ true
  pub is : d ≡ sale_body_tree body
