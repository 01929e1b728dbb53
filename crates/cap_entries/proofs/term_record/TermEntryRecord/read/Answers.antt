use Rattle.std.proofs.Common.{◌≡◌, ℕ, Option, IfOk, subst}
use Rattle.cap_entries.specs.declared.terminal.TermEntry.{TermEntry}
use Rattle.cap_entries.proofs.Places.{term_read, term_unread}
use Rattle.cap_entries.proofs.term_record.TermEntryRecord.read.Goals as goal

pub returns-in-Some : goal.returns-in-Some
returns-in-Some c = subst (λ (z : Option (TermEntry × ℕ)). IfOk c.behind.result (λ found. found ≡ z)) (term_read c.args.bytes.now c.in-Some.first c.in-Some.at c.in-Some.ensures.value) c.behind.ensures

pub returns-in-None : goal.returns-in-None
returns-in-None c = term_unread c.args.bytes.now c.in-None.ensures.value
