use Rattle.std.proofs.Common.{◌≡◌, ◌++◌, drop}
use Rattle.cap_host_answers.specs.Answer.{fitting}
use Rattle.cap_host_answers.proofs.advice.fitting_items.Given as goal

abbrev pub invariant-loop-item : goal.invariant-loop-item
invariant-loop-item l = record {
  stands : l.stands.items ≡ l.log ++ l.taken.items;
  rest : l.taken.items ++ fitting l.stands.items (drop l.item-index l.items) ≡ fitting l.log l.items;
}
