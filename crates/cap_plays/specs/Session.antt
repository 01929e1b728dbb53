-- What a network does for each line, and what a session over it has made.
use Rattle.std.specs.Prelude.{◌≡◌, ℕ, List, [], ◌++◌, drop}
use Rattle.cap_leaf.specs.Date.{DateParts}
use Rattle.cap_msgs.specs.Received.{Received}
use Rattle.cap_msgs.specs.Moment.{IsMoment}
use Rattle.cap_schedule.specs.declared.outcome.Outcome.{Outcome}
use Rattle.cap_schedule.specs.declared.schedule.End.{End}
use Rattle.cap_schedule.specs.declared.schedule.Line.{Line}
use Rattle.cap_schedule.specs.declared.schedule.Schedule.{Schedule}
use Rattle.cap_schedule.specs.Outcomes.{outcome_lines}
use Rattle.cap_plays.specs.Turns.{Scene, world_of}
use Rattle.cap_plays.specs.Plays.{Doubts, doubt_at, with_doubt, MayKeep, acting, moment_of, Fate, fate, closing_fate, Played, Does, Plays, Reopens, ends_of, terminals_from}
use Rattle.cap_plays.specs.Report.{ends_text, report}
use Rattle.cap_schedule.specs.Reader.{IsReader}
use Rattle.cap_schedule.specs.Nobodys.{IsNoise, NoiseIsNobodys}
use Rattle.cap_plays.specs.Laws.{AllOn, InRange, IsReached, IsRun}

-- these are the scene and the doubts after a fate, and its outcome was said
abbrev pub IsFate : (corresponds : Scene → Doubts → Type 0) → Doubts → End → Outcome → Fate → Type 0
IsFate corresponds doubts end outcome fate = corresponds fate.scene (with_doubt doubts end fate.doubt) × (outcome ≡ fate.outcome)

-- the line was done at its moment: the network now stands to the scene of the line's fate
abbrev pub Acted : (reads : List ℕ → Received) → (corresponds : Scene → Doubts → Type 0) → Scene → Doubts → Line → Outcome → Type 0
Acted reads corresponds w doubts line outcome =
    (created : DateParts) × (kept : ℕ) × IsMoment (moment_of line.number) created × MayKeep (doubt_at doubts (acting line.action)) kept
    × IsFate corresponds doubts (acting line.action) outcome (fate reads w (doubt_at doubts (acting line.action)) kept created line)

-- an end was opened again where it was off
abbrev pub Reopened : (corresponds : Scene → Doubts → Type 0) → Scene → Doubts → End → Type 0
Reopened corresponds w doubts end =
    (kept : ℕ) × MayKeep (doubt_at doubts end) kept × corresponds (closing_fate w (doubt_at doubts end) kept end).scene doubts

-- a play of the schedule was made: this is its text, and the network stands to its last scene
pub record IsPlayed (reads : List ℕ → Received) (corresponds : Scene → Doubts → Type 0) (s : Schedule) (text : List ℕ) : Type 0 where
  pub played : Played
  pub doubts : Doubts
  pub run : IsRun reads s played
  pub stands : corresponds played.last doubts
  pub reports : text ≡ report s played

-- some lines were done: each play that goes on from here is a play of the schedule, and its lines so far are the text
abbrev pub Continues : (reads : List ℕ → Received) → Schedule → List Line → Scene → Doubts → List ℕ → List ℕ → Type 0
Continues reads s lines w doubts before text =
    (rest : Played) → Plays reads lines w doubts rest
    → (played : Played) × Does reads s played × (played.last ≡ rest.last) × (before ++ outcome_lines s.lines played.outcomes ≡ text ++ outcome_lines lines rest.outcomes)

-- what a network says of a line: whatever scene of the schedule it stood to, it has done the line there
abbrev pub ActsSo : (old new : Scene → Doubts → Type 0) → Line → Outcome → Type 0
ActsSo old new line outcome =
    (reads : List ℕ → Received) (s : Schedule) (w : Scene) (doubts : Doubts)
    → IsReader reads → InRange s → IsReached s w → IsNoise reads s line.action → old w doubts
    → Acted reads new w doubts line outcome

-- and of an opening
abbrev pub ReopensSo : (old new : Scene → Doubts → Type 0) → End → Type 0
ReopensSo old new end = (s : Schedule) (w : Scene) (doubts : Doubts) → InRange s → IsReached s w → old w doubts → Reopened new w doubts end

-- and of the report: whatever scene of the schedule it stood to, in which every end is on, this is the report on its terminals, and it stands to that scene
abbrev pub ReportsSo : (old new : Scene → Doubts → Type 0) → Schedule → (before after : List ℕ) → Type 0
ReportsSo old new s before after =
    (w : Scene) (doubts : Doubts) → IsReached s w → AllOn w → old w doubts → new w doubts × (after ≡ before ++ ends_text w 0 s.terminals w.terminals)

-- all lines before these were done, and led to a scene of the schedule from which some play goes on as from here
pub record ActedTo (reads : List ℕ → Received) (corresponds : Scene → Doubts → Type 0) (s : Schedule) (lines : List Line) (before text : List ℕ) : Type 0 where
  pub scene : Scene
  pub doubts : Doubts
  pub reached : IsReached s scene
  pub stands : corresponds scene doubts
  pub goes_on : Continues reads s lines scene doubts before text

-- the same, whatever bytes read as
abbrev pub ActedAll : (corresponds : Scene → Doubts → Type 0) → Schedule → List Line → List ℕ → List ℕ → Type 0
ActedAll corresponds s lines before text = (reads : List ℕ → Received) → IsReader reads → NoiseIsNobodys reads s → ActedTo reads corresponds s lines before text

-- every end was opened again where it was off
abbrev pub ReopenedAll : (old new : Scene → Doubts → Type 0) → Type 0
ReopenedAll old new =
    (s : Schedule) (w : Scene) (doubts : Doubts) → InRange s → IsReached s w → old w doubts
    → (played : Played) × Reopens (ends_of w) w doubts played × (played.outcomes ≡ []) × new played.last doubts

-- from v, the host and the terminals before this place were opened again: whatever goes on from here is the end of the play
abbrev pub Closes : Scene → Doubts → ℕ → Scene → Type 0
Closes v doubts place w =
    (rest : Played) → Reopens (terminals_from place (drop place v.terminals)) w doubts rest
    → (played : Played) × Reopens (ends_of v) v doubts played × (played.last ≡ rest.last) × (played.outcomes ≡ rest.outcomes)

-- the host and the terminals before this place were opened again
abbrev pub ReopenedTo : (old new : Scene → Doubts → Type 0) → ℕ → Type 0
ReopenedTo old new place =
    (s : Schedule) (v : Scene) (doubts : Doubts) → InRange s → IsReached s v → old v doubts
    → (w : Scene) × IsReached s w × new w doubts × Closes v doubts place w
