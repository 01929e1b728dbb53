-- The trees of message elements, of their headers and of their bodies.
use Rattle.std.specs.Prelude.{◌≡◌, ℕ, true, Option, Some, None}
use Rattle.cap_leaf.specs.declared.header.Header.{Header}
use Rattle.cap_leaf.specs.declared.kinds.Kind.{Kind}
use Rattle.cap_leaf.specs.Schema.{Table, Row, end, table_in}
use Rattle.cap_leaf.specs.Trees.{Data}
use Rattle.cap_trees.specs.Tables.{table_of}
use Rattle.cap_trees.specs.Fits.{Fits}
use Rattle.cap_text.specs.Canon.{row_at}
use Rattle.cap_msgs.specs.declared.message.Body.{Body}
use Rattle.cap_msgs.specs.declared.message.Message.{Message}
use Rattle.cap_msgs.specs.Trees.{body_kind, body_tree, header_tree, message_kind, message_tree}
use Rattle.cap_msgs.specs.Ranges.{is_header, is_body, is_message, HasFew}

-- the tree of a body of the message, whose numbers are in range
pub record HasShape (k : Kind) (d : Data) : Type 0 where
  pub body : Body
  pub kind : body_kind body ≡ k
  pub range : is_body body ≡ true
  pub few : HasFew body
  pub is : d ≡ body_tree body

-- the tree of a header of the message
pub record HasHeader (k : Kind) (d : Data) : Type 0 where
  pub header : Header
  pub range : is_header header ≡ true
  pub is : d ≡ header_tree k header

-- the tree of a message
pub record HasMessage (k : Kind) (d : Data) : Type 0 where
  pub message : Message
  pub kind : message_kind message ≡ k
  pub range : is_message message ≡ true
  pub few : HasFew message.body
  pub is : d ≡ message_tree message

-- the rows inside a row of a table
abbrev pub table_at : Option Row → Table
table_at None = end
table_at (Some r) = table_in r.content

-- the tree fits a row
abbrev pub FitsRowOf : Option Row → Data → Type 0
FitsRowOf None d = ⊥
FitsRowOf (Some r) d = Fits r.content d

-- the row of a place in the message element: 0 its header, 1 its body
abbrev pub part_row : Kind → ℕ → Option Row
part_row k at = row_at (table_at (row_at (table_of k) 0)) at

abbrev pub FitsHeader : Kind → Data → Type 0
FitsHeader k d = FitsRowOf (part_row k 0) d

abbrev pub FitsBody : Kind → Data → Type 0
FitsBody k d = FitsRowOf (part_row k 1) d
