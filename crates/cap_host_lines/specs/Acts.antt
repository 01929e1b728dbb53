-- What a line of a schedule makes of a host over any journal, in the words of the model.
use Rattle.std.specs.Prelude.{◌≡◌, ⊤, ℕ, ◌+◌, ◌^◌, ◌≤◌, ◌<◌, true, false, if◌then◌else◌, List, [], ◌∷◌, ◌++◌, length, slice_get, Option, Some, None, Result, Ok, Err, IsTrue, IsSome}
use Rattle.cap_base.specs.declared.parameters.Row.{Row}
use Rattle.cap_disk.specs.Disk.{Counts}
use Rattle.cap_journal.specs.declared.journal.Journal.{Ghosts}
use Rattle.cap_journal.specs.File.{Has}
use Rattle.cap_journal.specs.Told.{StopsWithin, counted}
use Rattle.cap_leaf.specs.Date.{DateParts}
use Rattle.cap_msgs.specs.declared.message.Message.{Message}
use Rattle.cap_msgs.specs.Received.{Received}
use Rattle.cap_msgs.specs.Moment.{IsMoment}
use Rattle.cap_entries.specs.declared.host.HostEntry.{HostEntry}
use Rattle.cap_entries.specs.declared.host.HostEntry.TheVariants.{Published}
use Rattle.cap_entries.specs.HostRecord.{host_reading}
use Rattle.cap_entries.specs.Log.{published}
use Rattle.cap_ledger.specs.Adding.{calls_for}
use Rattle.cap_answering.specs.declared.fault.HostFault.{HostFault}
use Rattle.cap_answering.specs.declared.fault.HostFault.TheVariants as fault
use Rattle.cap_host.specs.declared.host.Host.{Host}
use Rattle.cap_host_answers.specs.Received.{answer_received}
use Rattle.cap_host.specs.declared.publishing.PublishFault.{PublishFault}
use Rattle.cap_host.specs.declared.publishing.PublishFault.TheVariants as P
use Rattle.cap_host.specs.Host.{journal_of, entries_of, has_failed, tells}
use Rattle.cap_schedule.specs.declared.outcome.Outcome.{Outcome}
use Rattle.cap_schedule.specs.declared.schedule.HostOrder.{HostOrder}
use Rattle.cap_schedule.specs.declared.schedule.HostOrder.TheVariants as W
use Rattle.cap_world.specs.World.{TerminalState, HostState}
use Rattle.cap_plays.specs.declared.fault.LineFault.{LineFault}
use Rattle.cap_plays.specs.declared.fault.LineFault.TheVariants.{Disk, Memory}
use Rattle.cap_plays.specs.Turns.{Scene, nth, counted_at, HostTurn, host_turn_of}
use Rattle.cap_plays.specs.Plays.{no_doubt}
use Rattle.cap_plays.specs.Armed.{IsArmed, GoesOn}
use Rattle.cap_plays.specs.Corresponds.{EachHas, EachHasEither, EndCorresponds, HostFate, host_whole, host_in}
use Rattle.cap_schedule.specs.Reader.{IsReader}
use Rattle.cap_host_lines.specs.declared.said.HostSaid.{HostSaid}
use Rattle.cap_host_lines.specs.declared.answer.Answer.{Answer}
use Rattle.cap_plays.specs.Texts.{IsTextOf, IsSent}
use Rattle.cap_host_lines.specs.Texts.{IsAnswered}

-- what becomes of the host in a line: where the armed call is one of the line's, that call ends it
abbrev pub host_armed : Option ℕ → HostState → HostTurn → (ended : Outcome) → HostFate
host_armed None s turn ended = host_whole s turn.work turn.outcome
host_armed (Some c) s turn ended = host_in s turn.work turn.outcome ended c

-- the messages that a line gives to the answers that count
abbrev pub counted_replies : HostFate → List Message
counted_replies fate = if fate.counts then fate.replies else []

-- the message with this number, from 1, that the terminal at a place sent
abbrev pub sent_by : Option TerminalState → (which : ℕ) → Option Message
sent_by None which = None
sent_by (Some s) which = nth s.sent which

abbrev pub sent_of : Scene → (terminal which : ℕ) → Option Message
sent_of w terminal which = sent_by (slice_get w.terminals terminal) which

module _ {J : Type 0} {g : Ghosts J HostEntry} where
  abbrev pub counts_of : Host J g → Option Counts
  counts_of host = g.counts (journal_of host)

  -- a crash now may leave this image
  abbrev pub images_of : Host J g → List ℕ → Type 0
  images_of host image = g.may_leave (journal_of host) image

  -- it is on: no call of its disk failed, and contracts see the disk, whose calls are counted
  pub record IsWorking (host : Host J g) (before : Counts) : Type 0 where
    pub told : IsTrue (tells host)
    pub works : has_failed host ≡ false
    pub counts_are : counts_of host ≡ Some before
    pub few : before.calls + 4 < 2 ^ 64

  -- it is on, and stands to a state of the model with nothing in doubt. `armed` is what is armed on its disk
  pub record IsReady (host : Host J g) (s : HostState) (armed : Option ℕ) (before : Counts) : Type 0 where
    pub working : IsWorking host before
    pub is_armed : IsArmed armed before
    pub stands : EndCorresponds (Has host_reading) (images_of host) true (entries_of host) s.settled s.tried s.on (no_doubt 0)

  -- the line was done to its end: the host is on, and stands to the state of the line's fate. It has said the line's outcome, and the text of the reply that
  -- counts
  pub record IsDone (host : Host J g) (fate : HostFate) (before : Counts) (said : HostSaid) : Type 0 where
    pub told : IsTrue (tells host)
    pub works : has_failed host ≡ false
    pub after : Counts
    pub counts_are : counts_of host ≡ Some after
    pub goes_on : GoesOn 4 before after
    pub stands : EndCorresponds (Has host_reading) (images_of host) true (entries_of host) fate.state.settled fate.state.tried fate.state.on fate.doubt
    pub outcome_is : said.outcome ≡ fate.outcome
    pub reply_is : IsSent said.reply (counted_replies fate)

  -- the armed call ended the line: the host is off, and stands to the state that is left, and nothing is replied
  pub record IsBroken (host : Host J g) (fate : HostFate) (armed : Option ℕ) (ended : Outcome) : Type 0 where
    pub some : IsSome armed
    pub stands : EndCorresponds (Has host_reading) (images_of host) false (entries_of host) fate.state.settled fate.state.tried fate.state.on fate.doubt
    pub outcome_is : ended ≡ fate.outcome
    pub none_replied : fate.replies ≡ []
    pub none_counts : fate.counts ≡ false

  -- by the answer; after want of memory nothing is said
  abbrev pub LineDone : Host J g → HostFate → (armed : Option ℕ) → (ended : Outcome) → Counts → Result HostSaid LineFault → Type 0
  LineDone host fate armed ended before (Ok said) = IsDone host fate before said
  LineDone host fate armed ended before (Err Disk) = IsBroken host fate armed ended
  LineDone host fate armed ended before (Err Memory) = ⊤

  -- there is a date and time of the moment with which the line's turn was done
  abbrev pub Acted : (reads : List ℕ → Received) → Host J g → Scene → (moment : ℕ) → HostOrder → (armed : Option ℕ) → (ended : Outcome) → Counts → Result HostSaid LineFault → Type 0
  Acted reads new w moment order armed ended before result =
      (created : DateParts) × IsMoment moment created × LineDone new (host_armed armed w.host (host_turn_of reads w moment created order) ended) armed ended before result

  -- any line, whichever state the host stands to, whichever call is armed, and whatever bytes read as
  abbrev pub ActsAs : (old new : Host J g) → (moment : ℕ) → HostOrder → Result HostSaid LineFault → Type 0
  ActsAs old new moment order result =
      (reads : List ℕ → Received) (w : Scene) (armed : Option ℕ) (ended : Outcome) (before : Counts)
      → IsReader reads → IsReady old w.host armed before → Acted reads new w moment order armed ended before result

  -- the terminal at a place sent no message with this number
  abbrev pub FindsNone : Host J g → (moment which : ℕ) → Result HostSaid LineFault → Type 0
  FindsNone host moment which result =
      (reads : List ℕ → Received) (w : Scene) (terminal : ℕ) (armed : Option ℕ) (ended : Outcome) (before : Counts)
      → IsReady host w.host armed before → sent_of w terminal which ≡ None → Acted reads host w moment (W.Up terminal which) armed ended before result

  -- this is the text of the message with some number that the terminal at some place sent, and the place is behind the answers of this terminal that count
  abbrev pub Delivers : (old new : Host J g) → (moment : ℕ) → (text : List ℕ) → (place : ℕ) → Result HostSaid LineFault → Type 0
  Delivers old new moment text place result =
      (reads : List ℕ → Received) (w : Scene) (terminal which : ℕ) (message : Message) (armed : Option ℕ) (ended : Outcome) (before : Counts)
      → IsReady old w.host armed before → sent_of w terminal which ≡ Some message → IsTextOf message text → place ≡ length (counted_at w.counted terminal) + 1
      → Acted reads new w moment (W.Up terminal which) armed ended before result

  -- a call of the host added these entries as one group, or nothing where there are none
  pub record Grew (old new : Host J g) (added : List HostEntry) (before : Counts) : Type 0 where
    pub told : IsTrue (tells new)
    pub works : has_failed new ≡ false
    pub counts_are : counts_of new ≡ Some (counted (calls_for added) before)
    pub past : StopsWithin (calls_for added) before → ⊥
    pub grown : entries_of new ≡ entries_of old ++ added
    pub each : EachHas (Has host_reading) (images_of new) (entries_of new)

  -- one of its device calls failed
  pub record Broke (old new : Host J g) (added : List HostEntry) (before : Counts) : Type 0 where
    pub within : StopsWithin (calls_for added) before
    pub either : EachHasEither (Has host_reading) (images_of new) (entries_of old) (entries_of old ++ added)

  -- by the fault that it answered
  abbrev pub ChangedBy : (old new : Host J g) → List HostEntry → Counts → Option HostFault → Type 0
  ChangedBy old new added before None = Grew old new added before
  ChangedBy old new added before (Some fault.Disk) = Broke old new added before
  ChangedBy old new added before (Some fault.Failed) = ⊥
  ChangedBy old new added before (Some fault.Memory) = ⊤

  -- a call of a host that is on
  abbrev pub Changes : (old new : Host J g) → List HostEntry → Option HostFault → Type 0
  Changes old new added fault = (before : Counts) → IsWorking old before → ChangedBy old new added before fault

  -- publishing a set, by the answer
  abbrev pub PublishedBy : (old new : Host J g) → List Row → Counts → Result ℕ PublishFault → Type 0
  PublishedBy old new rows before (Ok version) =
      (version ≡ length (published (entries_of old)) + 1) × (length (published (entries_of old)) < 10000) × Grew old new (Published (length (published (entries_of old)) + 1) rows ∷ []) before
  PublishedBy old new rows before (Err P.Disk) = (length (published (entries_of old)) < 10000) × Broke old new (Published (length (published (entries_of old)) + 1) rows ∷ []) before
  PublishedBy old new rows before (Err P.SetLimit) = (10000 ≤ length (published (entries_of old))) × Grew old new [] before
  PublishedBy old new rows before (Err P.Failed) = ⊥
  PublishedBy old new rows before (Err P.Memory) = ⊤

  abbrev pub Publishes_so : (old new : Host J g) → List Row → Result ℕ PublishFault → Type 0
  Publishes_so old new rows result = (before : Counts) → IsWorking old before → PublishedBy old new rows before result

  -- answering what was received, by the answer
  abbrev pub HeardBy : (old new : Host J g) → (moment : ℕ) → Received → Counts → Result (Option Answer) LineFault → Type 0
  HeardBy old new moment received before (Ok given) =
      IsAnswered (entries_of old) moment received (answer_received (entries_of old) received).reply given × Grew old new (answer_received (entries_of old) received).added before
  HeardBy old new moment received before (Err Disk) = Broke old new (answer_received (entries_of old) received).added before
  HeardBy old new moment received before (Err Memory) = ⊤

  abbrev pub Hears : (old new : Host J g) → (moment : ℕ) → Received → Result (Option Answer) LineFault → Type 0
  Hears old new moment received result = (before : Counts) → IsWorking old before → HeardBy old new moment received before result
