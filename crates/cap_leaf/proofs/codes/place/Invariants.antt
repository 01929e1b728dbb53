use Rattle.std.proofs.Common.{◌≡◌, drop}
use Rattle.cap_leaf.specs.Codes.{texts}
use Rattle.cap_leaf.specs.Spelling.{place_in}
use Rattle.cap_leaf.proofs.codes.place.Given as goal

abbrev pub invariant-loop-at : goal.invariant-loop-at
invariant-loop-at l = place_in (texts l.codes) 0 l.text ≡ place_in (texts (drop l.at l.codes)) l.at l.text
