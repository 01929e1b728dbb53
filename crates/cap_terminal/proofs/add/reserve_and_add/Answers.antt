use Rattle.cap_terminal.proofs.Room_laws.{room_reserved}
use Rattle.cap_terminal.proofs.add.reserve_and_add.Goals as goal

pub add_entry-requires-clause-room : goal.add_entry-requires-clause-room
add_entry-requires-clause-room g c =
    room_reserved c.args.index.now (g.J.Journal.spare c.args.journal.now) (g.J.Journal.spare c.reserve.new.self) c.args.entry c.args.more c.requires.more c.requires.room c.in-Ok.ensures.ok c.in-Ok.ensures.spare
