use Rattle.std.proofs.Common.{◌≡◌, true, refl, not}
use Rattle.std.proofs.lemmas.Bool.{both_ways, and_parts}
use Rattle.cap_entries.specs.declared.terminal.TermEntry.TheVariants.{Cancelled}
use Rattle.cap_entries.specs.Entry.{is_completed, is_cancelled}
use Rattle.cap_entries.specs.Allowed.{allowed}
use Rattle.cap_entries.specs.AllowedLaws.{allowed_is}
use Rattle.cap_plain.proofs.items.next_item.Goals as goal

-- a sale that is cancelled was completed, and so begun
pub unreachable-requires-in-None-begun : goal.unreachable-requires-in-None-begun
unreachable-requires-in-None-begun c =
    let ok : allowed c.args.before.now (Cancelled c.in-Cancelled.n) ≡ true = rw c.in-Cancelled.is at c.requires.allowed in
    let parts = and_parts (is_completed c.args.before.now c.in-Cancelled.n) (not (is_cancelled c.args.before.now c.in-Cancelled.n)) (allowed_is c.args.before.now (Cancelled c.in-Cancelled.n) refl ok) in
    both_ways _ c.in-None-begun.ensures (c.requires.begun c.in-Cancelled.n parts.0)
