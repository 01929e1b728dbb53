use Rattle.std.proofs.Common.{rules}
use Rattle.cap_host_index.proofs.index.LogIndex.captured_entry.Goals as goal
use Rattle.cap_host_index.proofs.Found.{no_capture_found, capture_found}

pub returns-in-None : goal.returns-in-None
returns-in-None c = λ entries terminal index. no_capture_found entries terminal c.args.self.now index c.args.k (search rules)

pub returns-in-Some : goal.returns-in-Some
returns-in-Some c = λ entries terminal index. capture_found entries terminal c.args.self.now index c.args.k _ (search rules) _ (c.entry_of.ensures entries terminal index)
