-- The items that the host has not acknowledged yet.
use Rattle.std.specs.Prelude.{List, drop}
use Rattle.cap_base.specs.declared.item.Item.{Item}
use Rattle.cap_entries.specs.declared.terminal.TermEntry.{TermEntry}
use Rattle.cap_entries.specs.Items.{items}
use Rattle.cap_entries.specs.Acked.{acked}

abbrev pub queue : List TermEntry → List Item
queue entries = drop (acked entries) (items entries)
