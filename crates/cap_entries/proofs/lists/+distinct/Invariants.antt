use Rattle.std.proofs.Common.{length}
use Rattle.cap_entries.proofs.lists.+distinct.Given as goal

abbrev pub decreases-distinct : goal.decreases-distinct
decreases-distinct l = length l.names.now
