-- How many sales of a journal were completed, cancelled and voided.
use Rattle.std.specs.Prelude.{ℕ, Bool, true, false, List, count_by}
use Rattle.cap_entries.specs.declared.terminal.TermEntry.{TermEntry}
use Rattle.cap_entries.specs.declared.terminal.TermEntry.TheVariants.{Completed, Voided, Cancelled}
use Rattle.cap_entries.specs.Entry.{is_any_begin, is_any_closed}
use Rattle.cap_terminal_answers.specs.declared.counts.Counts.{Counts}

abbrev pub is_any_completed : TermEntry → Bool
is_any_completed (Completed n code) = true
is_any_completed _ = false

abbrev pub is_any_cancelled : TermEntry → Bool
is_any_cancelled (Cancelled n) = true
is_any_cancelled _ = false

abbrev pub is_any_voided : TermEntry → Bool
is_any_voided (Voided n) = true
is_any_voided _ = false

-- sales that were begun, completed (also where they were cancelled then), cancelled and voided, and periods that were closed
abbrev pub counts_of : List TermEntry → Counts
counts_of entries =
    record {
      sales = count_by is_any_begin entries;
      completed = count_by is_any_completed entries;
      cancelled = count_by is_any_cancelled entries;
      voided = count_by is_any_voided entries;
      periods = count_by is_any_closed entries;
    }
