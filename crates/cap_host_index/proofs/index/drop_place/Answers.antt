use Rattle.std.proofs.Common.{rules, not}
use Rattle.std.specs.Prelude.{◌==◌}
use Rattle.std.proofs.lemmas.Fn.{filter_same}
use Rattle.cap_host_index.proofs.index.drop_place.Goals as goal

pub returns-clause-items : goal.returns-clause-items
returns-clause-items c = filter_same _ (λ q. not (q == c.args.place)) _ (λ x b f' k. search rules) c.args.places.now.items _ c.retain.ensures.filtered
