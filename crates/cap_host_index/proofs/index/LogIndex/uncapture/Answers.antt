use Rattle.std.proofs.Common.{◌≡◌, ℕ, Option, Some, sym, ◌∙◌, ap}
use Rattle.std.specs.Ordering.{nat_cmp}
use Rattle.std.specs.BTreeMap.{get}
use Rattle.cap_host_index.specs.Noted.{without}
use Rattle.cap_host_index.proofs.index.LogIndex.uncapture.Goals as goal

pub returns-in-Some-clause-kept : goal.returns-in-Some-clause-kept
returns-in-Some-clause-kept c = let is : get nat_cmp c.args.self.now.captured c.args.n ≡ Some c.in-Some.place = sym (sym c.in-Some.is ∙ c.remove.ensures.value) in c.drop_place.ensures.items ∙ sym (ap (λ (o : Option ℕ). without o c.args.self.now.kept.items) is)
