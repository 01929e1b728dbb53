-- What an answer says of a verdict.
use Rattle.std.specs.Prelude.{◌≡◌, ⊤, Result, Ok, Err}
use Rattle.cap_leaf.specs.declared.kinds.Kind.{Kind}
use Rattle.cap_leaf.specs.declared.tree.Tree.{Tree}
use Rattle.cap_leaf.specs.Trees.{data_of}
use Rattle.cap_text.specs.declared.error.ReadError.{ReadError}
use Rattle.cap_text.specs.declared.error.ReadError.TheVariants.{Fault, Memory}
use Rattle.cap_text.specs.Bytes.{Verdict, spells, fault}

abbrev pub IsVerdict : Verdict → Result (Kind × Tree) ReadError → Type 0
IsVerdict v (Ok d) = v ≡ spells d.0 (data_of d.1)
IsVerdict v (Err (Fault f)) = v ≡ fault f
IsVerdict v (Err Memory) = ⊤
