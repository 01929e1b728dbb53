-- The text that a till prints for a line.
use Rattle.std.specs.Prelude.{ℕ, List, [], ◌∷◌, ◌++◌, Option, Some, None, codes}
use Rattle.std.specs.Fmt.{decimal}
use Rattle.cap_schedule.specs.Outcomes.{outcome_text}
use Rattle.cap_plays.specs.Report.{numbers_text}
use Rattle.cap_till.specs.declared.printed.Printed.{Printed}
use Rattle.cap_till.specs.declared.printed.Printed.TheVariants as P

-- the next moment of a plan, where there is one
abbrev pub next_text : Option ℕ → List ℕ
next_text None = codes "never"
next_text (Some moment) = decimal moment

abbrev pub printed_text : Printed → List ℕ
printed_text (P.Told outcome) = outcome_text outcome
printed_text P.NoAnswer = codes "no answer"
printed_text (P.BadLength length) = codes "bad length " ++ decimal length
printed_text P.BadLine = codes "bad line"
printed_text (P.Queue items) = codes "queue " ++ decimal items
printed_text (P.InForce version) = codes "set " ++ decimal version
printed_text (P.Planned actions next) = codes "plan " ++ decimal actions ++ codes " next " ++ next_text next
printed_text (P.Numbers numbers) = numbers_text numbers

abbrev pub printed_line : Printed → List ℕ
printed_line printed = printed_text printed ++ 10 ∷ []
