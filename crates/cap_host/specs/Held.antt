-- The item that an entry of a host holds.
use Rattle.std.specs.Prelude.{Option, Some, None}
use Rattle.cap_base.specs.declared.item.Item.{Item}
use Rattle.cap_entries.specs.declared.host.HostEntry.{HostEntry}
use Rattle.cap_entries.specs.declared.host.HostEntry.TheVariants.{Setup, Took, Published}

abbrev pub item_held : HostEntry → Option Item
item_held (Took terminal item) = Some item
item_held (Setup settings) = None
item_held (Published version rows) = None
