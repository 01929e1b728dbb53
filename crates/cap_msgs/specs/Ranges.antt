-- The messages that can be written: their numbers fit the digits of the texts.
use Rattle.std.specs.Prelude.{◌≡◌, ⊤, Bool, true, ◌&&◌}
use Rattle.cap_leaf.specs.declared.header.Header.{Header}
use Rattle.cap_leaf.specs.Spelling.{IsValue}
use Rattle.cap_leaf.specs.Trees.{Data, Children, value, branch, none, child}
use Rattle.cap_fields.specs.Refused.{in_digits, in_digits_if}
use Rattle.cap_sale_msgs.specs.Bodies.{is_sale_body}
use Rattle.cap_batch_msgs.specs.Bodies.{is_batch_body}
use Rattle.cap_batch_msgs.specs.Shapes.{HasFewItems}
use Rattle.cap_mgmt_msgs.specs.Bodies.{is_mgmt_body}
use Rattle.cap_mgmt_msgs.specs.Shapes.{HasFewParts}
use Rattle.cap_msgs.specs.declared.message.Body.{Body}
use Rattle.cap_msgs.specs.declared.message.Body.TheVariants.{Sale, Batch, Management}
use Rattle.cap_msgs.specs.declared.message.Message.{Message}
use Rattle.cap_msgs.specs.Trees.{message_tree}

-- the exchange has at most ten digits, and the counter of repeats at most three
abbrev pub is_header : Header → Bool
is_header h = in_digits 10 h.exchange && in_digits_if 3 h.repeat

abbrev pub is_body : Body → Bool
is_body (Sale body) = is_sale_body body
is_body (Batch body) = is_batch_body body
is_body (Management body) = is_mgmt_body body

-- the numbers of a message fit the digits of its text
abbrev pub is_message : Message → Bool
is_message m = is_header m.header && is_body m.body

-- its lists are neither empty nor too long; each value of the type keeps this
abbrev pub HasFew : Body → Type 0
HasFew (Sale body) = ⊤
HasFew (Batch body) = HasFewItems body
HasFew (Management body) = HasFewParts body

-- each leaf keeps the rules of its type; each value of the type keeps this
abbrev mutual
  pub HasValues : Data → Type 0
  HasValues (value x) = IsValue x
  HasValues (branch cs) = AllHaveValues cs

  pub AllHaveValues : Children → Type 0
  AllHaveValues none = ⊤
  AllHaveValues (child at d rest) = HasValues d × AllHaveValues rest

-- what is true of exactly the messages that some bytes spell: its numbers are in range, and it is a value of its type
pub record IsSpellable (m : Message) : Type 0 where
  pub range : is_message m ≡ true
  pub few : HasFew m.body
  pub values : HasValues (message_tree m)
