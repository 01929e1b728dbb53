use Rattle.std.proofs.Common.{◌≡◌, ◌++◌, ◌∷◌, [], drop}
use Rattle.cap_text.specs.Bytes.{document_in}
use Rattle.cap_text.proofs.ending.document_among.Given as goal

abbrev pub invariant-loop-kind : goal.invariant-loop-kind
invariant-loop-kind l = document_in l.messages (l.front ++ 62 ∷ []) ≡ document_in (drop l.kind-index l.messages) (l.front ++ 62 ∷ [])
