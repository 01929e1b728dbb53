-- The schedules that are made by rule: sales at four terminals in turn, some of them cancelled, each sent to the host at once, and at last a closing at
-- each terminal.
use Rattle.std.specs.Prelude.{ℕ, zero, suc, ◌+◌, ◌*◌, ◌/◌, ◌%◌, ◌==◌, Bool, false, if◌then◌else◌, List, [], ◌∷◌, ◌++◌, length, map, None, codes}
use Rattle.std.specs.List.{sum_by}
use Rattle.cap_entries.specs.Settings.{TerminalSettings, HostSettings}
use Rattle.cap_schedule.specs.declared.schedule.Order.TheVariants as T
use Rattle.cap_schedule.specs.declared.schedule.HostOrder.TheVariants as H
use Rattle.cap_schedule.specs.declared.schedule.Action.{Action}
use Rattle.cap_schedule.specs.declared.schedule.Action.TheVariants.{AtTerminal, AtHost}
use Rattle.cap_schedule.specs.declared.schedule.Line.{Line}
use Rattle.cap_schedule.specs.declared.schedule.Schedule.{Schedule}
use Rattle.cap_schedule.specs.SetUps.{plan_start}

-- the set-ups: a host that blocks no account, and four terminals that may begin as many sales as are made in all
abbrev pub host_name : List ℕ
host_name = codes "ACQ1"

abbrev pub terminal_names : List (List ℕ)
terminal_names = codes "T1" ∷ codes "T2" ∷ codes "T3" ∷ codes "T4" ∷ []

abbrev pub terminal_of : ℕ → List ℕ → TerminalSettings
terminal_of n name = record { terminal = name; host = host_name; max = n; floor = 2000 }

abbrev pub terminals_of : ℕ → List TerminalSettings
terminals_of n = map (terminal_of n) terminal_names

abbrev pub made_host : HostSettings
made_host = record { host = host_name; limit = 50000; blocked = []; poll = 60; start = plan_start; terminals = terminal_names }

-- the i-th sale of all, from 1: its amount in hundredths, and its account, which is six digits and i in ten digits
abbrev pub amount_of_sale : ℕ → ℕ
amount_of_sale i = 1 + i * 7919 % 1999

abbrev pub powers : List ℕ
powers = 1000000000 ∷ 100000000 ∷ 10000000 ∷ 1000000 ∷ 100000 ∷ 10000 ∷ 1000 ∷ 100 ∷ 10 ∷ 1 ∷ []

abbrev pub digit_at : ℕ → ℕ → ℕ
digit_at i power = 48 + i / power % 10

abbrev pub account_of_sale : ℕ → List ℕ
account_of_sale i = codes "400000" ++ map (digit_at i) powers

-- each fifth sale is cancelled, and the message of each third is delivered twice
abbrev pub is_cancelled : ℕ → Bool
is_cancelled i = i % 5 == 0

abbrev pub is_repeated : ℕ → Bool
is_repeated i = i % 3 == 0

abbrev pub deliveries : ℕ → ℕ
deliveries i = if is_repeated i then 2 else 1

-- the terminals take turns: the numbers of the first n sales that are at the terminal of this place
abbrev pub sales_at : (place n : ℕ) → List ℕ
sales_at place zero = []
sales_at place (suc n) = if n % 4 == place then sales_at place n ++ (n + 1) ∷ [] else sales_at place n

-- a terminal sends one message for each of its sales, so there are as many; and the host answers each delivery
abbrev pub sales_before : (place n : ℕ) → ℕ
sales_before place n = length (sales_at place n)

abbrev pub answers_before : (place n : ℕ) → ℕ
answers_before place n = sum_by deliveries (sales_at place n)

-- the message with this number is delivered, once or twice
abbrev pub ups : (place message : ℕ) → (again : Bool) → List Action
ups place message again = AtHost (H.Up place message) ∷ (if again then AtHost (H.Up place message) ∷ [] else [])

-- a batch is sent, which is the message with this number, it is delivered, and so is the first answer to it, which has this number
abbrev pub exchange : (place message answer : ℕ) → (again : Bool) → List Action
exchange place message answer again = AtTerminal place (T.Batch 100) ∷ ups place message again ++ AtTerminal place (T.Down answer) ∷ []

abbrev pub cancellation : (i place number : ℕ) → List Action
cancellation i place number = if is_cancelled i then AtTerminal place (T.Cancel number) ∷ [] else []

-- the i-th sale, where it has this number at its terminal, as has its message
abbrev pub sale_at : (i place number answer : ℕ) → List Action
sale_at i place number answer =
    AtTerminal place (T.Sale (amount_of_sale i) (account_of_sale i)) ∷ cancellation i place number ++ exchange place number answer (is_repeated i)

-- the sale after n others
abbrev pub next_sale : ℕ → List Action
next_sale n = sale_at (n + 1) (n % 4) (sales_before (n % 4) n + 1) (answers_before (n % 4) n + 1)

-- the first n sales
abbrev pub sales_actions : ℕ → List Action
sales_actions zero = []
sales_actions (suc n) = sales_actions n ++ next_sale n

-- the period of a terminal is closed, and its closing is sent
abbrev pub closing_at : (place message answer : ℕ) → List Action
closing_at place message answer = AtTerminal place T.Close ∷ exchange place message answer false

abbrev pub closing : (n place : ℕ) → List Action
closing n place = closing_at place (sales_before place n + 1) (answers_before place n + 1)

abbrev pub made_actions : ℕ → List Action
made_actions n = sales_actions n ++ (closing n 0 ++ (closing n 1 ++ (closing n 2 ++ closing n 3)))

-- the line of an action, and the lines of these actions from this number on
abbrev pub line_of : ℕ → Action → Line
line_of number action = record { number = number; prefix = None; action = action }

abbrev pub numbered : ℕ → List Action → List Line
numbered number [] = []
numbered number (action ∷ actions) = line_of number action ∷ numbered (suc number) actions

-- the schedule of n sales; five lines set the ends up
abbrev pub made_schedule : ℕ → Schedule
made_schedule n = record { host = made_host; terminals = terminals_of n; lines = numbered 6 (made_actions n) }
