-- The line that a captured sale makes.
use Rattle.std.specs.Prelude.{Option, Some, None}
use Rattle.cap_base.specs.declared.item.Item.{Item}
use Rattle.cap_base.specs.declared.item.Item.TheVariants.{Sale, Void, Cancel, Close}
use Rattle.cap_host.specs.declared.capture.Captured.{Captured}

abbrev pub line_of : Option Item → Option Captured
line_of None = None
line_of (Some (Sale n amount account code)) = Some (record { n = n; amount = amount; account = account; code = code })
line_of (Some (Void n)) = None
line_of (Some (Cancel n amount)) = None
line_of (Some (Close p totals)) = None
