-- How a call of a terminal ends that adds nothing.
use Rattle.std.proofs.Common.{◌≡◌, true, List, []}
use Rattle.std.specs.Prelude.{Ok, Err}
use Rattle.cap_journal.specs.declared.journal.Journal.{Ghosts}
use Rattle.cap_entries.specs.declared.terminal.TermEntry.{TermEntry}
use Rattle.cap_entries.specs.TermRecord.{term_reading}
use Rattle.cap_answering.specs.declared.fault.HostFault.TheVariants.{Failed, Memory}
use Rattle.cap_ledger.specs.Appended as appended
use Rattle.cap_terminal.specs.Adding.{Adds}

module _ {J : Type 0} (g : Ghosts J TermEntry) where
  -- a refusal for want of memory, and one since an earlier call failed
  pub lacks : appended.OnlyNow term_reading g (λ journal. journal) g.has_failed → (old : J) (added : List TermEntry) → Adds g old old added {T = Unit {0}} (Err Memory)
  lacks only_now old added = appended.lacks_adds term_reading g (λ journal. journal) g.has_failed only_now old added

  pub fails : appended.OnlyNow term_reading g (λ journal. journal) g.has_failed → (old : J) (added : List TermEntry) → g.has_failed old ≡ true → (added ≡ [] → ⊥) → Adds g old old added {T = Unit {0}} (Err Failed)
  fails only_now old added shut some = appended.failed_adds term_reading g (λ journal. journal) g.has_failed only_now old added shut some

  -- nothing to add
  pub gives : appended.OnlyNow term_reading g (λ journal. journal) g.has_failed → (old : J) → Adds g old old [] {T = Unit {0}} (Ok tt)
  gives only_now old = appended.idle_adds term_reading g (λ journal. journal) g.has_failed only_now old tt
