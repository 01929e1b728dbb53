-- What is known of a schedule and of its terminals while it is made.
use Rattle.std.specs.Prelude.{◌≡◌, ℕ, ◌+◌, List, [], ◌∷◌, ◌++◌, length}
use Rattle.std.specs.List.{sum_by}
use Rattle.cap_schedule.specs.declared.schedule.Action.{Action}
use Rattle.cap_schedule.specs.declared.schedule.Line.{Line}
use Rattle.cap_replay.specs.declared.generator.Tally.{Tally}
use Rattle.cap_replay.specs.Generator.{sales_at, deliveries, numbered}

-- the lines of these actions were added behind the others and the five that set the ends up
pub record Adds (old new : List Line) (actions : List Action) : Type 0 where
  pub is : new ≡ old ++ numbered (length old + 6) actions

abbrev pub tally_of : List ℕ → Tally
tally_of sales = record { sales = length sales; answers = sum_by deliveries sales }

-- a terminal after the first n sales of all
abbrev pub tally_at : (place n : ℕ) → Tally
tally_at place n = tally_of (sales_at place n)

abbrev pub tallies_at : ℕ → List Tally
tallies_at n = tally_at 0 n ∷ tally_at 1 n ∷ tally_at 2 n ∷ tally_at 3 n ∷ []

-- a terminal after the i-th sale of all, which is its own
abbrev pub tally_after : ℕ → Tally → Tally
tally_after i tally = record { sales = tally.sales + 1; answers = tally.answers + deliveries i }
