use Rattle.std.proofs.Common.{◌≡◌, take, drop, false}
use Rattle.std.specs.List.{list_any}
use Rattle.cap_entries.specs.Entry.{is_begin, amount_of, account_of}
use Rattle.cap_plain.proofs.items.begun.Given as goal

abbrev pub invariant-loop-entry : goal.invariant-loop-entry
invariant-loop-entry l = record {
  amount : amount_of (drop l.entry-index l.entries) l.sale ≡ amount_of l.entries l.sale;
  account : account_of (drop l.entry-index l.entries) l.sale ≡ account_of l.entries l.sale;
  none : list_any (is_begin l.sale) (take l.entry-index l.entries) ≡ false;
}
