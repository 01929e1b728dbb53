-- What the reader's open structures stand for.
use Rattle.std.specs.Prelude.{Bool, if◌then◌else◌, List, ◌∷◌, drop, map, reverse}
use Rattle.cap_leaf.specs.declared.schema.Node.{Node}
use Rattle.cap_leaf.specs.declared.tree.Child.{Child}
use Rattle.cap_leaf.specs.Trees.{data_of, Data, branch, none}
use Rattle.cap_leaf.specs.View.{table_view}
use Rattle.cap_text.specs.Machine.{Left, rows, choice, filled, Read, Frame, onto}
use Rattle.cap_text.specs.declared.frames.Left.{Left as CodeLeft}
use Rattle.cap_text.specs.declared.frames.Left.TheVariants.{Rows, Choice, Filled}
use Rattle.cap_text.specs.declared.frames.Frame.{Frame as CodeFrame}

abbrev pub read_of : Child → Read
read_of c = record { at = c.at; tree = data_of c.tree }

abbrev pub left_of : List Node → CodeLeft → Left
left_of ns (Rows at count) = rows (table_view (drop at ns)) at count
left_of ns Choice = choice (table_view ns)
left_of ns Filled = filled

abbrev pub frame_of : CodeFrame → Frame
frame_of f = record { tag = f.tag.now; left = left_of f.nodes.now f.left; last = f.last; done = map read_of (reverse f.done) }

abbrev pub frames_of : List CodeFrame → List Frame
frames_of fs = map frame_of (reverse fs)

-- a structure with one child more
abbrev pub with_child : Frame → Data → Frame
with_child f d = record f { done = record { at = f.last; tree = d } ∷ f.done }

-- the tree of a structure that is closed
abbrev pub branch_of : Frame → Data
branch_of f = branch (onto f.done none)

-- what may stand in a structure that is opened: one row, or all of them
abbrev pub start_of : Bool → CodeLeft
start_of one = if one then Choice else Rows 0 0
