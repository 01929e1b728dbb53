use Rattle.std.proofs.Common.{rules}
use Rattle.cap_host_index.proofs.index.LogIndex.entry_of.Goals as goal
use Rattle.cap_host_index.proofs.Found.{found_item}

pub returns : goal.returns
returns c = λ entries terminal index. found_item entries terminal c.args.self.now index c.args.m _ (search rules)
