-- The tree of a message: its message element, a header and a body, and its canonical text.
use Rattle.std.specs.Prelude.{ℕ, ◌+◌, Bool, true, false, if◌then◌else◌, List, [], ◌∷◌}
use Rattle.cap_leaf.specs.declared.header.Header.{Header}
use Rattle.cap_leaf.specs.declared.kinds.CodeList.TheVariants as list
use Rattle.cap_leaf.specs.declared.kinds.Kind.{Kind}
use Rattle.cap_leaf.specs.declared.kinds.Kind.TheVariants.{Catm001, Catm002, Catm003, Catm004}
use Rattle.cap_leaf.specs.declared.leaf.Leaf.TheVariants as leaf
use Rattle.cap_leaf.specs.Trees.{Data, Children, value, branch, none, child}
use Rattle.cap_text.specs.Canon.{canonical_text}
use Rattle.cap_fields.specs.Fields.{record_of, followed_by, maybe_num}
use Rattle.cap_sale_msgs.specs.Bodies.{sale_kind, sale_body_tree}
use Rattle.cap_batch_msgs.specs.Bodies.{batch_kind, batch_body_tree}
use Rattle.cap_mgmt_msgs.specs.Bodies.{mgmt_kind, mgmt_body_tree}
use Rattle.cap_msgs.specs.declared.message.Body.{Body}
use Rattle.cap_msgs.specs.declared.message.Body.TheVariants.{Sale, Batch, Management}
use Rattle.cap_msgs.specs.declared.message.Message.{Message}

-- which of the nineteen messages a body is
abbrev pub body_kind : Body → Kind
body_kind (Sale body) = sale_kind body
body_kind (Batch body) = batch_kind body
body_kind (Management body) = mgmt_kind body

-- the body element
abbrev pub body_tree : Body → Data
body_tree (Sale body) = sale_body_tree body
body_tree (Batch body) = batch_body_tree body
body_tree (Management body) = mgmt_body_tree body

abbrev pub party_tree : List ℕ → Data
party_tree name = record_of (leaf.Ident name ∷ [])

-- the header from the protocol's version on, which stands at this place
abbrev pub header_from : ℕ → Header → Children
header_from at h =
    child at (value (leaf.Code (list.Protocol 1) 0))
    (child (at + 1) (value (leaf.Num h.exchange))
    (maybe_num (at + 2) h.repeat
    (child (at + 3) (value (leaf.DateTime h.created))
    (child (at + 4) (party_tree h.from)
    (child (at + 5) (party_tree h.to) none)))))

-- a catm message doesn't tell its function
abbrev pub is_bare : Kind → Bool
is_bare Catm001 = true
is_bare Catm002 = true
is_bare Catm003 = true
is_bare Catm004 = true
is_bare _ = false

-- the place of the protocol's version
abbrev pub first_of : Kind → ℕ
first_of k = if is_bare k then 0 else 1

-- a caaa message tells its function first
abbrev pub function_child : Kind → Children
function_child k = if is_bare k then none else child 0 (value (leaf.Code (list.Function k) 0)) none

abbrev pub header_children : Kind → Header → Children
header_children k h = followed_by (function_child k) (header_from (first_of k) h)

abbrev pub header_tree : Kind → Header → Data
header_tree k h = branch (header_children k h)

-- the message element
abbrev pub message_kind : Message → Kind
message_kind m = body_kind m.body

abbrev pub message_tree : Message → Data
message_tree m = branch (child 0 (header_tree (message_kind m) m.header) (child 1 (body_tree m.body) none))

-- the canonical text of a message
abbrev pub text_of : Message → List ℕ
text_of m = canonical_text (message_kind m) (message_tree m)
