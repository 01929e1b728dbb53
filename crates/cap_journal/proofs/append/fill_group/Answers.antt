use Rattle.std.proofs.Common.{arith}
use Rattle.cap_journal.proofs.Appending.{length_joined}
use Rattle.cap_journal.proofs.append.fill_group.Goals as goal

pub write_records-requires-clause-room : goal.write_records-requires-clause-room
write_records-requires-clause-room g c = omega (arith, length_joined g.E.Record.bytes_of c.args.added.now)

pub push_reserved-requires-5 : goal.push_reserved-requires-5
push_reserved-requires-5 g c = omega (arith, length_joined g.E.Record.bytes_of c.args.added.now)

pub returns-clause-len : goal.returns-clause-len
returns-clause-len g c = omega (arith, length_joined g.E.Record.bytes_of c.args.added.now)
