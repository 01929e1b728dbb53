-- What the run of a made schedule tells: a first line, and the report of the run.
use Rattle.std.specs.Prelude.{◌≡◌, ℕ, ◌+◌, List, [], ◌∷◌, ◌++◌, length, codes}
use Rattle.std.specs.List.{concat}
use Rattle.std.specs.Fmt.{decimal}
use Rattle.cap_msgs.specs.Received.{Received}
use Rattle.cap_schedule.specs.declared.schedule.Schedule.{Schedule}
use Rattle.cap_plays.specs.Turns.{Scene}
use Rattle.cap_plays.specs.Plays.{Played}
use Rattle.cap_plays.specs.Laws.{IsRun}
use Rattle.cap_plays.specs.Report.{ends_text}
use Rattle.cap_replay.specs.Replays.{ForReaders}
use Rattle.cap_replay.specs.Generator.{made_actions, made_schedule}

-- the report on the ends, without the outcomes
abbrev pub report_of_ends : Schedule → Scene → List ℕ
report_of_ends s w = ends_text w 0 s.terminals w.terminals

-- a run of the schedule was made, and this is the report on its ends
pub record IsReported (reads : List ℕ → Received) (s : Schedule) (text : List ℕ) : Type 0 where
  pub played : Played
  pub run : IsRun reads s played
  pub reports : text ≡ report_of_ends s played.last

unfoldable pub first_line : (sales lines : ℕ) → List ℕ
first_line sales lines = concat (codes "made " ∷ decimal sales ∷ codes " lines " ∷ decimal lines ∷ (10 ∷ []) ∷ [])

-- the lines of a made schedule are those of its actions, and five that set the ends up
abbrev pub lines_of : ℕ → ℕ
lines_of n = length (made_actions n) + 5

-- the text of so many sales: the first line, and the report of a run
pub record Made (reads : List ℕ → Received) (n : ℕ) (text : List ℕ) : Type 0 where
  pub report : List ℕ
  pub text_is : text ≡ first_line n (lines_of n) ++ report
  pub reported : IsReported reads (made_schedule n) report

abbrev pub Makes : ℕ → List ℕ → Type 0
Makes n text = ForReaders (λ reads. Made reads n text)
