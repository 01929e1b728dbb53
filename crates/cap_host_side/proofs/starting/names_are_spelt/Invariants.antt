use Rattle.std.proofs.Common.{◌≡◌, true, take}
use Rattle.std.specs.List.{list_all}
use Rattle.cap_base.specs.Text.{is_ident}
use Rattle.cap_host_side.proofs.starting.names_are_spelt.Given as goal

abbrev pub invariant-loop-name : goal.invariant-loop-name
invariant-loop-name l = list_all is_ident (take l.name-index l.names) ≡ true
