-- Short schedules, and their texts.
use Rattle.std.specs.Prelude.{◌≡◌, ℕ, List, [], ◌∷◌, Option, Some, None, codes}
use Rattle.cap_leaf.specs.Date.{DateParts}
use Rattle.cap_leaf.specs.declared.zone.Zone.TheVariants.{Utc}
use Rattle.cap_msgs.specs.Received.{Received}
use Rattle.cap_disk.specs.declared.arming.Fill.TheVariants.{Byte}
use Rattle.cap_schedule.specs.declared.schedule.End.TheVariants.{Host, Terminal}
use Rattle.cap_schedule.specs.declared.schedule.Prefix.{Prefix}
use Rattle.cap_schedule.specs.declared.schedule.Prefix.TheVariants.{Cut, CutAfter}
use Rattle.cap_schedule.specs.declared.schedule.Action.{Action}
use Rattle.cap_schedule.specs.declared.schedule.Action.TheVariants.{AtTerminal, AtHost, Reopen}
use Rattle.cap_schedule.specs.declared.schedule.Order.TheVariants as T
use Rattle.cap_schedule.specs.declared.schedule.HostOrder.TheVariants as W
use Rattle.cap_schedule.specs.declared.schedule.Line.{Line}
use Rattle.cap_schedule.specs.declared.schedule.Schedule.{Schedule}
use Rattle.cap_plays.specs.Plays.{Played, Does, AreDates}
use Rattle.cap_plays.specs.Report.{report}

abbrev pub line : ℕ → Option Prefix → Action → Line
line number prefix action = record { number = number; prefix = prefix; action = action }

abbrev pub the_start : DateParts
the_start = record { year = 2023; month = 11; day = 14; hour = 22; minute = 13; second = 20; millis = None; zone = Utc }

-- a host, and a terminal that completes sales up to 20.00 by itself
abbrev pub with_lines : List Line → Schedule
with_lines lines = record {
  host = record { host = codes "ACQ1"; limit = 50000; blocked = codes "411111" ∷ []; poll = 60; start = the_start; terminals = codes "T1" ∷ [] };
  terminals = record { terminal = codes "T1"; host = codes "ACQ1"; max = 1000; floor = 2000 } ∷ [];
  lines = lines;
}

abbrev pub the_account : List ℕ
the_account = codes "4000001234567899"

-- a sale within the floor, its advice, and the answer
abbrev pub sale_and_advice : Schedule
sale_and_advice = with_lines (
    line 3 None (AtTerminal 0 (T.Sale 1250 the_account)) ∷ line 4 None (AtTerminal 0 T.Push)
    ∷ line 5 None (AtHost (W.Up 0 1)) ∷ line 6 None (AtTerminal 0 (T.Down 1)) ∷ [])

-- the power goes within the write of the sale's end, which is lost
abbrev pub cut_sale : Schedule
cut_sale = with_lines (
    line 3 None (AtTerminal 0 (T.Begin 1250 the_account)) ∷ line 4 (Some (Cut 1 (Byte 165))) (AtTerminal 0 (T.Offline 1))
    ∷ line 5 None (Reopen (Terminal 0)) ∷ line 6 None (AtTerminal 0 (T.Void 1)) ∷ [])

-- the host's power goes before it answers, and the advice is delivered again
abbrev pub lost_answer : Schedule
lost_answer = with_lines (
    line 3 None (AtTerminal 0 (T.Sale 1250 the_account)) ∷ line 4 None (AtTerminal 0 T.Push) ∷ line 5 (Some CutAfter) (AtHost (W.Up 0 1))
    ∷ line 6 None (Reopen Host) ∷ line 7 None (AtHost (W.Up 0 1)) ∷ line 8 None (AtTerminal 0 (T.Down 1)) ∷ [])

-- a sale, its cancellation in the next period, and all of it in one batch
abbrev pub two_periods : Schedule
two_periods = with_lines (
    line 3 None (AtTerminal 0 (T.Sale 1250 the_account)) ∷ line 4 None (AtTerminal 0 T.Close) ∷ line 5 None (AtTerminal 0 (T.Cancel 1)) ∷ line 6 None (AtTerminal 0 T.Close)
    ∷ line 7 None (AtTerminal 0 (T.Batch 100)) ∷ line 8 None (AtHost (W.Up 0 1)) ∷ line 9 None (AtTerminal 0 (T.Down 1)) ∷ [])

-- every play of the schedule has this text
abbrev pub HasText : Schedule → List ℕ → Type 0
HasText s text = (reads : List ℕ → Received) (played : Played) → Does reads s played → report s played ≡ text

-- a play of the schedule has this text, once each line's moment has its date and time
abbrev pub MayHaveText : Schedule → List ℕ → Type 0
MayHaveText s text = (reads : List ℕ → Received) (dates : List DateParts) → AreDates s.lines dates → (played : Played) × Does reads s played × (report s played ≡ text)

pub record WorkedSchedules : Type 0 where
  pub first : HasText sale_and_advice
      (codes "3 sale 1\n4 sent 1\n5 answered 1 caaa.004\n6 acked 1\nterminal T1 sales 1 completed 1 cancelled 0 voided 0 periods 0 items 1 acked 1 set 0\nhost T1 log 1 captured 1 12.50\nverdict T1 agree\n")
  pub lost : HasText lost_answer
      (codes "3 sale 1\n4 sent 1\n5 cut\n6 restarted\n7 answered 1 caaa.004\n8 acked 1\nterminal T1 sales 1 completed 1 cancelled 0 voided 0 periods 0 items 1 acked 1 set 0\nhost T1 log 1 captured 1 12.50\nverdict T1 agree\n")
  pub closed : HasText two_periods
      (codes "3 sale 1\n4 closed 1\n5 cancelled 1\n6 closed 2\n7 sent 1\n8 answered 1 caaa.012\n9 acked 4\nterminal T1 sales 1 completed 1 cancelled 1 voided 0 periods 2 items 4 acked 4 set 0\nhost T1 log 4 captured 0 0.00\nperiod T1 1 sales 1 12.50 cancels 0 0.00\nperiod T1 2 sales 0 0.00 cancels 1 12.50\nverdict T1 agree\n")
  pub cut : MayHaveText cut_sale
      (codes "3 begun 1\n4 cut\n5 restarted\n6 void 1\nterminal T1 sales 1 completed 0 cancelled 0 voided 1 periods 0 items 1 acked 0 set 0\nhost T1 log 0 captured 0 0.00\nverdict T1 behind 1\n")
