-- What a row that was found stands for.
use Rattle.std.specs.Prelude.{List}
use Rattle.cap_leaf.specs.declared.schema.Node.{Node}
use Rattle.cap_leaf.specs.View.{content_view}
use Rattle.cap_text.specs.Machine.{Found}
use Rattle.cap_text.specs.SeenFrames.{left_of}
use Rattle.cap_text.specs.declared.rows.Found.{Found as CodeFound}

abbrev pub found_of : List Node → CodeFound → Found
found_of ns f = record { left = left_of ns f.left; at = f.at; content = content_view f.node.now.shape }
