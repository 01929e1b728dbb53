-- What is to be known of a terminal's entries so far to tell whether one more is allowed.
use Rattle.std.specs.Prelude.{ℕ, ◌+◌, ◌≤◌, ◌≡◌, Bool, true, false, ◌&&◌, ◌||◌, nat_le, nat_lt, ◌==◌, if◌then◌else◌, List, [], ◌∷◌, ◌++◌, length, fold, sum_by, Option, Some, None}
use Rattle.cap_base.specs.declared.parameters.ConfigPart.{ConfigPart}
use Rattle.cap_entries.specs.declared.stage.Stage.{Stage}
use Rattle.cap_entries.specs.declared.stage.Staged.{Staged}
use Rattle.cap_entries.specs.declared.stage.Stage.TheVariants.{Pending, Declined as Stage_declined, Completed as Stage_completed, Voided as Stage_voided, Cancelled as Stage_cancelled}
use Rattle.cap_entries.specs.declared.terminal.TermEntry.{TermEntry}
use Rattle.cap_entries.specs.declared.terminal.TermEntry.TheVariants.{Setup, Begin, Declined, Completed, Voided, Cancelled, Closed, Acked, Part}
use Rattle.cap_entries.specs.Entry.{is_setup}
use Rattle.cap_entries.specs.Stage.{stage_of, set_stage, may_end, may_cancel, items_made}

pub record Summary : Type 0 where
  -- whether the set-up is there, and how many sales it lets begin
  pub started : Bool
  pub max : ℕ
  -- how far each sale is
  pub sales : List Stage
  pub closes : ℕ
  pub acked : ℕ
  pub items : ℕ
  pub in_force : ℕ
  pub staged : Option Staged

-- of no entries
abbrev pub no_summary : Summary
no_summary = record { started = false; max = 0; sales = []; closes = 0; acked = 0; items = 0; in_force = 0; staged = None }

abbrev pub staged_by : ConfigPart → Staged
staged_by part = record { version = part.version; part = part.part; parts = part.parts }

-- with one entry more
abbrev pub summary_after : Summary → TermEntry → Summary
summary_after s (Setup settings) = record s { started = true; max = settings.max }
summary_after s (Begin n amount account) = record s { sales = s.sales ++ Pending ∷ [] }
summary_after s (Declined n) = record s { sales = set_stage s.sales n Stage_declined }
summary_after s (Completed n code) = record s { sales = set_stage s.sales n Stage_completed; items = s.items + 1 }
summary_after s (Voided n) = record s { sales = set_stage s.sales n Stage_voided; items = s.items + 1 }
summary_after s (Cancelled n) = record s { sales = set_stage s.sales n Stage_cancelled; items = s.items + 1 }
summary_after s (Closed p) = record s { closes = p; items = s.items + 1 }
summary_after s (Acked m) = record s { acked = m }
summary_after s (Part part) = record s { in_force = if part.part == part.parts then part.version else s.in_force; staged = Some (staged_by part) }

abbrev pub summary : List TermEntry → Summary
summary entries = fold summary_after no_summary entries

abbrev pub continues_staged : Option Staged → ConfigPart → Bool
continues_staged None part = false
continues_staged (Some staged) part = (part.version == staged.version) && (part.parts == staged.parts) && (part.part == staged.part + 1)

abbrev pub version_staged : Option Staged → ℕ
version_staged None = 0
version_staged (Some staged) = staged.version

abbrev pub part_follows : ℕ → Option Staged → ConfigPart → Bool
part_follows in_force staged part =
    nat_le 1 part.part && nat_le part.part part.parts && nat_le part.parts 16
    && (((part.part == 1) && nat_lt in_force part.version && nat_lt (version_staged staged) part.version)
    || continues_staged staged part)

-- what may follow the set-up
abbrev pub follows : Summary → TermEntry → Bool
follows s (Setup settings) = false
follows s (Begin n amount account) = (n == length s.sales + 1) && nat_le n s.max
follows s (Declined n) = may_end (stage_of s.sales n)
follows s (Completed n code) = may_end (stage_of s.sales n)
follows s (Voided n) = may_end (stage_of s.sales n)
follows s (Cancelled n) = may_cancel (stage_of s.sales n)
follows s (Closed p) = (p == s.closes + 1) && nat_le p 250000
follows s (Acked m) = nat_lt s.acked m && nat_le m s.items
follows s (Part part) = part_follows s.in_force s.staged part

abbrev pub may_follow : Summary → TermEntry → Bool
may_follow s entry = if s.started then follows s entry else is_setup entry

-- its numbers are small
pub record IsSummary (s : Summary) : Type 0 where
  pub max : s.max ≤ 250000
  pub sales : length s.sales ≤ 250000
  pub closes : s.closes ≤ 250000
  pub items : s.items ≡ sum_by items_made s.sales + s.closes
