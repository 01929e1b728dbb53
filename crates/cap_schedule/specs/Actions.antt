-- The actions of a schedule, from their words.
use Rattle.std.specs.Prelude.{ℕ, ◌&&◌, nat_le, if◌then◌else◌, List, [], ◌∷◌, length, Option, Some, None, codes}
use Rattle.std.specs.Str.{bytes_eq}
use Rattle.cap_base.specs.Text.{account_of}
use Rattle.cap_base.specs.Number.{number_of}
use Rattle.cap_base.specs.Amount.{amount_of}
use Rattle.cap_base.specs.declared.codes.DataSet.TheVariants.{Aqpr, Mgtp}
use Rattle.cap_base.specs.declared.parameters.Row.{Row}
use Rattle.cap_entries.specs.Settings.{TerminalSettings}
use Rattle.cap_schedule.specs.declared.schedule.End.{End}
use Rattle.cap_schedule.specs.declared.schedule.End.TheVariants as E
use Rattle.cap_schedule.specs.declared.schedule.Order.{Order}
use Rattle.cap_schedule.specs.declared.schedule.Order.TheVariants as T
use Rattle.cap_schedule.specs.declared.schedule.HostOrder.TheVariants as H
use Rattle.cap_schedule.specs.declared.schedule.Action.{Action}
use Rattle.cap_schedule.specs.declared.schedule.Action.TheVariants.{AtTerminal, AtHost, Reopen}
use Rattle.cap_schedule.specs.Hex.{hex_bytes}
use Rattle.cap_schedule.specs.PublishedRows.{set_in}
use Rattle.cap_schedule.specs.SetUps.{place_of, end_of}

-- what a terminal is asked, where both are there
abbrev pub at_place : Option ℕ → Option Order → Option Action
at_place None order = None
at_place (Some place) None = None
at_place (Some place) (Some order) = Some (AtTerminal place order)

-- `close T`, `push T`, `diagnose T`
abbrev pub bare_order : List ℕ → Option Order
bare_order verb =
    if bytes_eq verb (codes "close") then Some T.Close
    else (if bytes_eq verb (codes "push") then Some T.Push
    else (if bytes_eq verb (codes "diagnose") then Some T.Diagnose
    else None))

-- at most 100 items, and at least one
abbrev pub batch_of : ℕ → Option Order
batch_of n = if nat_le 1 n && nat_le n 100 then Some (T.Batch n) else None

-- `offline T N`, `void T N`, `cancel T N`, `batch T N`, `ask T N`, `askcancel T N`, `down T J`, `walkout T J`
abbrev pub numbered_order : List ℕ → ℕ → Option Order
numbered_order verb n =
    if bytes_eq verb (codes "offline") then Some (T.Offline n)
    else (if bytes_eq verb (codes "void") then Some (T.Void n)
    else (if bytes_eq verb (codes "cancel") then Some (T.Cancel n)
    else (if bytes_eq verb (codes "batch") then batch_of n
    else (if bytes_eq verb (codes "ask") then Some (T.Ask n)
    else (if bytes_eq verb (codes "askcancel") then Some (T.AskCancel n)
    else (if bytes_eq verb (codes "down") then Some (T.Down n)
    else (if bytes_eq verb (codes "walkout") then Some (T.Walkout n)
    else None)))))))

abbrev pub numbered_if : List ℕ → Option ℕ → Option Order
numbered_if verb None = None
numbered_if verb (Some n) = numbered_order verb n

-- `begin T AMOUNT ACCOUNT`, `sale T AMOUNT ACCOUNT`
abbrev pub paid_order : List ℕ → Option ℕ → Option (List ℕ) → Option Order
paid_order verb None account = None
paid_order verb (Some amount) None = None
paid_order verb (Some amount) (Some account) =
    if bytes_eq verb (codes "begin") then Some (T.Begin amount account)
    else (if bytes_eq verb (codes "sale") then Some (T.Sale amount account) else None)

-- `status T AQPR`, `status T MGTP`
abbrev pub status_order : List ℕ → Option Order
status_order word =
    if bytes_eq word (codes "AQPR") then Some (T.Status Aqpr)
    else (if bytes_eq word (codes "MGTP") then Some (T.Status Mgtp) else None)

-- `up T K`
abbrev pub up_of : Option ℕ → Option ℕ → Option Action
up_of None which = None
up_of (Some place) None = None
up_of (Some place) (Some which) = Some (AtHost (H.Up place which))

-- `noise E HEX`: 1 to 65,536 bytes
abbrev pub noise_at : Option End → List ℕ → Option Action
noise_at None bytes = None
noise_at (Some E.Host) bytes = Some (AtHost (H.Listen bytes))
noise_at (Some (E.Terminal place)) bytes = Some (AtTerminal place (T.Hear bytes))

abbrev pub noise_of : Option End → Option (List ℕ) → Option Action
noise_of end None = None
noise_of end (Some bytes) = if nat_le 1 (length bytes) && nat_le (length bytes) 65536 then noise_at end bytes else None

-- `publish ROWS`
abbrev pub publish_of : Option (List Row) → Option Action
publish_of None = None
publish_of (Some rows) = Some (AtHost (H.Publish rows))

-- `restart E`
abbrev pub restart_of : Option End → Option Action
restart_of None = None
restart_of (Some end) = Some (Reopen end)

-- an action of two words
abbrev pub short_action : List ℕ → List TerminalSettings → (verb word : List ℕ) → Option Action
short_action host terminals verb word =
    if bytes_eq verb (codes "publish") then publish_of (set_in word)
    else (if bytes_eq verb (codes "restart") then restart_of (end_of host terminals word)
    else at_place (place_of terminals word) (bare_order verb))

-- an action of three words
abbrev pub valued_action : List ℕ → List TerminalSettings → (verb word value : List ℕ) → Option Action
valued_action host terminals verb word value =
    if bytes_eq verb (codes "noise") then noise_of (end_of host terminals word) (hex_bytes value)
    else (if bytes_eq verb (codes "up") then up_of (place_of terminals word) (number_of 10 value)
    else (if bytes_eq verb (codes "status") then at_place (place_of terminals word) (status_order value)
    else at_place (place_of terminals word) (numbered_if verb (number_of 10 value))))

-- an action, in a schedule of this host and these terminals
abbrev pub action_of : List ℕ → List TerminalSettings → List (List ℕ) → Option Action
action_of host terminals (verb ∷ word ∷ []) = short_action host terminals verb word
action_of host terminals (verb ∷ word ∷ value ∷ []) = valued_action host terminals verb word value
action_of host terminals (verb ∷ word ∷ amount ∷ account ∷ []) = at_place (place_of terminals word) (paid_order verb (amount_of amount) (account_of account))
action_of host terminals _ = None
