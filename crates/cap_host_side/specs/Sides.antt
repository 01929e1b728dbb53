-- How a host with its power stands to one of the model, and what a line makes of it.
use Rattle.std.specs.Prelude.{◌≡◌, ⊤, ℕ, ◌+◌, Bool, List, [], length, Option, Some, None, slice_get}
use Rattle.cap_leaf.specs.Date.{DateParts}
use Rattle.cap_msgs.specs.declared.message.Message.{Message}
use Rattle.cap_msgs.specs.Moment.{IsMoment}
use Rattle.cap_msgs.specs.Received.{Received}
use Rattle.cap_disk.specs.declared.memory.MemoryDisk.{MemoryDisk}
use Rattle.cap_journal.specs.File.{Has}
use Rattle.cap_entries.specs.declared.host.HostEntry.{HostEntry}
use Rattle.cap_entries.specs.HostRecord.{host_reading}
use Rattle.cap_schedule.specs.declared.outcome.Outcome.{Outcome}
use Rattle.cap_schedule.specs.declared.outcome.Outcome.TheVariants.{IsOff}
use Rattle.cap_schedule.specs.declared.schedule.HostOrder.{HostOrder}
use Rattle.cap_schedule.specs.declared.schedule.HostOrder.TheVariants as W
use Rattle.cap_schedule.specs.declared.schedule.Prefix.{Prefix}
use Rattle.cap_world.specs.World.{TerminalState, HostState}
use Rattle.cap_plays.specs.Turns.{Scene, counted_at, host_turn_of}
use Rattle.cap_plays.specs.Plays.{Doubt, MayKeep, moment_of}
use Rattle.cap_plays.specs.Texts.{AreTexts, IsSent}
use Rattle.cap_plays.specs.Corresponds.{HostFate, host_fate, host_opening}
use Rattle.cap_power.specs.Standing.{Stands, IsReady}
use Rattle.cap_power.specs.declared.power.Power.{Power}
use Rattle.cap_host_lines.specs.Acts.{counted_replies}
use Rattle.cap_host_side.specs.declared.side.Done.{Done}

abbrev pub sent_by_any : Option TerminalState → List Message
sent_by_any None = []
sent_by_any (Some s) = s.sent

-- what is given with a line: for a message of a terminal, the texts of all that this terminal sent, and the place behind its answers that count
abbrev pub IsGiven : Scene → HostOrder → (sent : List (List ℕ)) → (place : ℕ) → Type 0
IsGiven w (W.Up terminal which) sent place = AreTexts sent (sent_by_any (slice_get w.terminals terminal)) × (place ≡ length (counted_at w.counted terminal) + 1)
IsGiven w (W.Publish rows) sent place = ⊤
IsGiven w (W.Listen bytes) sent place = ⊤

-- over what contracts see of a host
module _ {H : Type 0} (entries : H → List HostEntry) (disk : H → MemoryDisk) (has_failed : H → Bool) where
  -- the power stands to a host of the model. Where it is on, its disk works, nothing is armed on it, and it has answered at most so many calls
  pub record HostStands (most : ℕ) (power : Power H) (s : HostState) (doubt : Doubt) : Type 0 where
    pub stands : Stands (Has host_reading) entries disk power s.settled s.tried s.on doubt
    pub ready : IsReady has_failed disk most power

  -- a line was passed over, since the host is off
  pub record Passes (most : ℕ) (power : Power H) (s : HostState) (doubt : Doubt) (done : Done) : Type 0 where
    pub stands : HostStands most power s doubt
    pub outcome_is : done.outcome ≡ IsOff
    pub none_replied : done.reply ≡ None

  -- it stands to a fate, whose outcome was said, and whose reply is given where it counts
  pub record Meets (most : ℕ) (power : Power H) (fate : HostFate) (done : Done) : Type 0 where
    pub stands : HostStands most power fate.state fate.doubt
    pub outcome_is : done.outcome ≡ fate.outcome
    pub reply_is : IsSent done.reply (counted_replies fate)

  -- a line was done at a moment, and at that of its number
  abbrev pub DoesAt : (reads : List ℕ → Received) → (most : ℕ) → Power H → Scene → (moment : ℕ) → Option Prefix → HostOrder → Done → Type 0
  DoesAt reads most power w moment prefix order done =
      (created : DateParts) × IsMoment moment created × Meets most power (host_fate prefix w.host (host_turn_of reads w moment created order)) done

  abbrev pub Does : (reads : List ℕ → Received) → (most : ℕ) → Power H → Scene → (number : ℕ) → Option Prefix → HostOrder → Done → Type 0
  Does reads most power w number prefix order done = DoesAt reads most power w (moment_of number) prefix order done

  -- an opening was done: it kept as many of the entries tried as the doubt allows
  abbrev pub Reopens : (most : ℕ) → Power H → HostState → Doubt → Option Prefix → Outcome → Type 0
  Reopens most power s doubt prefix outcome =
      (kept : ℕ) × MayKeep doubt kept × HostStands most power (host_opening prefix doubt kept s).state (host_opening prefix doubt kept s).doubt
      × (outcome ≡ (host_opening prefix doubt kept s).outcome)
