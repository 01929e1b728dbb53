-- How far each sale is, by its number from 1.
use Rattle.std.specs.Prelude.{ℕ, zero, suc, Bool, true, false, List, Option, Some, None, slice_get, slice_set}
use Rattle.cap_entries.specs.declared.stage.Stage.{Stage}
use Rattle.cap_entries.specs.declared.stage.Stage.TheVariants.{Pending, Declined, Completed, Voided, Cancelled}

-- sale n stands at place n - 1
abbrev pub stage_of : List Stage → ℕ → Option Stage
stage_of sales zero = None
stage_of sales (suc n) = slice_get sales n

abbrev pub set_stage : List Stage → ℕ → Stage → List Stage
set_stage sales zero stage = sales
set_stage sales (suc n) stage = slice_set sales n stage

abbrev pub is_begun : Option Stage → Bool
is_begun None = false
is_begun (Some stage) = true

-- declined, completed or voided
abbrev pub is_ended : Option Stage → Bool
is_ended None = false
is_ended (Some Pending) = false
is_ended (Some Declined) = true
is_ended (Some Completed) = true
is_ended (Some Voided) = true
is_ended (Some Cancelled) = true

abbrev pub was_completed : Option Stage → Bool
was_completed None = false
was_completed (Some Pending) = false
was_completed (Some Declined) = false
was_completed (Some Completed) = true
was_completed (Some Voided) = false
was_completed (Some Cancelled) = true

abbrev pub was_cancelled : Option Stage → Bool
was_cancelled None = false
was_cancelled (Some Pending) = false
was_cancelled (Some Declined) = false
was_cancelled (Some Completed) = false
was_cancelled (Some Voided) = false
was_cancelled (Some Cancelled) = true

-- how many items a sale has made
abbrev pub items_made : Stage → ℕ
items_made Pending = 0
items_made Declined = 0
items_made Completed = 1
items_made Voided = 1
items_made Cancelled = 2

-- it may end, or be cancelled
abbrev pub may_end : Option Stage → Bool
may_end None = false
may_end (Some Pending) = true
may_end (Some Declined) = false
may_end (Some Completed) = false
may_end (Some Voided) = false
may_end (Some Cancelled) = false

abbrev pub may_cancel : Option Stage → Bool
may_cancel None = false
may_cancel (Some Pending) = false
may_cancel (Some Declined) = false
may_cancel (Some Completed) = true
may_cancel (Some Voided) = false
may_cancel (Some Cancelled) = false
