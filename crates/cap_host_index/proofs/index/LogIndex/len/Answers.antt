use Rattle.std.proofs.Common.{length, ap, arith}
use Rattle.cap_host_index.specs.PlacesLaws.{length-places}
use Rattle.cap_host_index.proofs.index.LogIndex.len.Goals as goal

pub returns-clause-value : goal.returns-clause-value
returns-clause-value c = λ entries terminal index. omega (arith, ap length index.places, length-places 0 entries terminal)
