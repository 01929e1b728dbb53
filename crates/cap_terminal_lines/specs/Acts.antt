-- What a line of a schedule makes of a terminal over any journal, in the words of the model.
use Rattle.std.specs.Prelude.{◌≡◌, ⊤, ℕ, ◌+◌, ◌^◌, ◌<◌, true, false, List, [], ◌∷◌, ◌++◌, length, Option, Some, None, Result, Ok, Err, IsTrue, IsSome}
use Rattle.cap_disk.specs.Disk.{Counts}
use Rattle.cap_journal.specs.declared.journal.Journal.{Ghosts}
use Rattle.cap_journal.specs.File.{Has}
use Rattle.cap_journal.specs.Told.{StopsWithin, counted}
use Rattle.cap_leaf.specs.Date.{DateParts}
use Rattle.cap_msgs.specs.declared.message.Message.{Message}
use Rattle.cap_msgs.specs.Received.{Received}
use Rattle.cap_msgs.specs.Moment.{IsMoment}
use Rattle.cap_entries.specs.declared.terminal.TermEntry.{TermEntry}
use Rattle.cap_entries.specs.TermRecord.{term_reading}
use Rattle.cap_terminal_answers.specs.Takes.{IsNotOurs}
use Rattle.cap_schedule.specs.declared.outcome.Outcome.{Outcome}
use Rattle.cap_schedule.specs.declared.schedule.Order.{Order}
use Rattle.cap_schedule.specs.declared.schedule.Order.TheVariants.{Hear}
use Rattle.cap_world.specs.World.{TerminalState, TerminalAction}
use Rattle.cap_plays.specs.declared.fault.LineFault.{LineFault}
use Rattle.cap_plays.specs.declared.fault.LineFault.TheVariants.{Disk, Memory}
use Rattle.cap_plays.specs.Turns.{Work, Turn, makes, turn_of}
use Rattle.cap_plays.specs.Plays.{no_doubt}
use Rattle.cap_plays.specs.Armed.{IsArmed, GoesOn}
use Rattle.cap_plays.specs.Corresponds.{EachHas, EachHasEither, TerminalCorresponds, EndFate, end_whole, end_in}
use Rattle.cap_schedule.specs.Reader.{IsReader}
use Rattle.cap_terminal_lines.specs.declared.said.Said.{Said}
use Rattle.cap_plays.specs.Texts.{IsSent, AreTexts}

-- what becomes of the terminal in a line: where the armed call is one of the line's, that call ends it
abbrev pub end_armed : Option ℕ → TerminalState → Turn → (ended : Outcome) → EndFate
end_armed None s turn ended = end_whole s turn.works turn.outcome
end_armed (Some c) s turn ended = end_in s turn.works turn.outcome ended c

-- what the steps of a line send
abbrev pub sent_in : List Work → List Message
sent_in [] = []
sent_in (work ∷ works) = work.sent ++ sent_in works

-- noise is no message of the terminal's host to it
abbrev pub IsNoiseTo : (reads : List ℕ → Received) → List TermEntry → Order → Type 0
IsNoiseTo reads entries (Hear bytes) = IsNotOurs entries (reads bytes)
IsNoiseTo reads entries _ = ⊤

-- over what contracts see of a terminal, which is its journal
module _ {J : Type 0} (g : Ghosts J TermEntry) where
  -- it is on, over a disk that tells and has not failed, and it stands to a state of the model with nothing in doubt. `armed` is what is armed on its
  -- disk, and so many calls can still be counted
  pub record IsReady (n : ℕ) (now : J) (heard : List Message) (s : TerminalState) (places : List ℕ) (armed : Option ℕ) (before : Counts) : Type 0 where
    pub told : IsTrue (g.tells now)
    pub works : g.has_failed now ≡ false
    pub counts_are : g.counts now ≡ Some before
    pub few : before.calls + n < 2 ^ 64
    pub is_armed : IsArmed armed before
    pub stands : TerminalCorresponds (Has term_reading) (g.may_leave now) true (g.entries now) s.sent heard s places (no_doubt 0)

  -- the line was done to its end: the terminal is on, and stands to the state after the line. It has said the line's outcome, and the text of what
  -- the line sends
  pub record IsDone (n : ℕ) (now : J) (heard : List Message) (s : TerminalState) (places : List ℕ) (armed : Option ℕ) (ended : Outcome) (before : Counts) (turn : Turn) (said : Said) : Type 0 where
    pub told : IsTrue (g.tells now)
    pub works : g.has_failed now ≡ false
    pub after : Counts
    pub counts_are : g.counts now ≡ Some after
    pub goes_on : GoesOn n before after
    pub stands : TerminalCorresponds (Has term_reading) (g.may_leave now) true (g.entries now) (end_armed armed s turn ended).state.sent heard (end_armed armed s turn ended).state places (end_armed armed s turn ended).doubt
    pub outcome_is : said.outcome ≡ (end_armed armed s turn ended).outcome
    pub sent_is : IsSent said.sent (sent_in turn.works)

  -- the armed call ended the line: the terminal is off, and stands to the state that is left
  pub record IsBroken (now : J) (heard : List Message) (s : TerminalState) (places : List ℕ) (armed : Option ℕ) (ended : Outcome) (turn : Turn) : Type 0 where
    pub some : IsSome armed
    pub stands : TerminalCorresponds (Has term_reading) (g.may_leave now) false (g.entries now) (end_armed armed s turn ended).state.sent heard (end_armed armed s turn ended).state places (end_armed armed s turn ended).doubt
    pub outcome_is : ended ≡ (end_armed armed s turn ended).outcome

  -- by the answer; after want of memory nothing is said
  abbrev pub LineDone : (n : ℕ) → J → List Message → TerminalState → List ℕ → Option ℕ → (ended : Outcome) → Counts → Turn → Result Said LineFault → Type 0
  LineDone n now heard s places armed ended before turn (Ok said) = IsDone n now heard s places armed ended before turn said
  LineDone n now heard s places armed ended before turn (Err Disk) = IsBroken now heard s places armed ended turn
  LineDone n now heard s places armed ended before turn (Err Memory) = ⊤

  -- whichever state the terminal stands to, and whichever call is armed
  abbrev pub TurnDone : (n : ℕ) → (old new : J) → (TerminalState → Turn) → Result Said LineFault → Type 0
  TurnDone n old new turn result =
      (heard : List Message) (s : TerminalState) (places : List ℕ) (armed : Option ℕ) (ended : Outcome) (before : Counts)
      → IsReady n old heard s places armed before → LineDone n new heard s places armed ended before (turn s) result

  -- a step that adds these entries and sends nothing, whatever the model calls it
  abbrev pub AddDone : (old new : J) → (added : List TermEntry) → Outcome → Result Said LineFault → Type 0
  AddDone old new added outcome result = (action : TerminalAction) → TurnDone 4 old new (λ s. makes (record { action = action; added = added; sent = [] }) outcome) result

  -- a line that sends, at a moment, after so many messages
  abbrev pub SendDone : (now : J) → (moment sent : ℕ) → (TerminalState → DateParts → Turn) → Result Said LineFault → Type 0
  SendDone now moment sent turn result =
      (heard : List Message) (s : TerminalState) (places : List ℕ) (armed : Option ℕ) (ended : Outcome) (before : Counts)
      → IsReady 0 now heard s places armed before → sent ≡ length s.sent
      → (created : DateParts) × IsMoment moment created × LineDone 0 now heard s places armed ended before (turn s created) result

  -- any line: whatever bytes read as, there is a date and time of the moment with which the line's turn was done. The answers that count are texts of
  -- messages, and noise is nobody's
  abbrev pub ActsAs : (old new : J) → (sent : ℕ) → (answers : List (List ℕ)) → (moment : ℕ) → Order → Result Said LineFault → Type 0
  ActsAs old new sent answers moment order result =
      (reads : List ℕ → Received) (heard : List Message) (s : TerminalState) (places : List ℕ) (armed : Option ℕ) (ended : Outcome) (before : Counts)
      → IsReader reads → IsReady 8 old heard s places armed before → sent ≡ length s.sent → AreTexts answers heard → IsNoiseTo reads (g.entries old) order
      → (created : DateParts) × IsMoment moment created × LineDone 8 new heard s places armed ended before (turn_of reads s places moment created order) result

  -- a call of the terminal added these entries as one group
  pub record Grew (old new : J) (added : List TermEntry) (before : Counts) : Type 0 where
    pub told : IsTrue (g.tells new)
    pub works : g.has_failed new ≡ false
    pub counts_are : g.counts new ≡ Some (counted 4 before)
    pub past : StopsWithin 4 before → ⊥
    pub grown : g.entries new ≡ g.entries old ++ added
    pub each : EachHas (Has term_reading) (g.may_leave new) (g.entries new)

  -- one of its device calls failed
  pub record Broke (old new : J) (added : List TermEntry) (before : Counts) : Type 0 where
    pub within : StopsWithin 4 before
    pub either : EachHasEither (Has term_reading) (g.may_leave new) (g.entries old) (g.entries old ++ added)

  -- it added nothing
  pub record Rested (old new : J) (before : Counts) : Type 0 where
    pub told : IsTrue (g.tells new)
    pub works : g.has_failed new ≡ false
    pub counts_are : g.counts new ≡ Some before
    pub same : g.entries new ≡ g.entries old
    pub each : EachHas (Has term_reading) (g.may_leave new) (g.entries new)
