use Rattle.std.proofs.Common.{length, ◌+◌}
use Rattle.cap_file_disk.proofs.file.write_whole.Given as goal

abbrev pub decreases-pieces : goal.decreases-pieces
decreases-pieces g l = length l.rest + l.tries
