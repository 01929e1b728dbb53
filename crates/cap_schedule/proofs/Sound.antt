-- What every schedule of the language keeps: its set-ups match, its lines are in range, and its noise is no message between its parties.
use Rattle.std.proofs.Common.{◌≡◌, ℕ, ◌+◌, ◌≤◌, Bool, true, false, ◌&&◌, List, [], ◌∷◌, ◌++◌, map, length, Option, Some, None, refl, inl, inr}
use Rattle.std.proofs.lemmas.Bool.{leb-true}
use Rattle.std.specs.Prelude.{⊤, IfSome, if◌then◌else◌, nat_le, codes}
use Rattle.std.specs.List.{AllByRecursion}
use Rattle.std.specs.Str.{bytes_eq}
use Rattle.std.specs.Str.Lines.{lines}
use Rattle.cap_msgs.specs.Received.{Received}
use Rattle.cap_entries.specs.Settings.{TerminalSettings, is_terminal_settings, is_host_settings, terminal_settings_of}
use Rattle.cap_base.specs.Text.{ident_of, account_of}
use Rattle.cap_base.specs.Number.{number_of}
use Rattle.cap_base.specs.Amount.{money_of, amount_of}
use Rattle.cap_base.specs.declared.parameters.Row.{Row}
use Rattle.cap_schedule.specs.declared.schedule.End.{End}
use Rattle.cap_schedule.specs.declared.schedule.End.TheVariants as E
use Rattle.cap_schedule.specs.declared.schedule.Order.{Order}
use Rattle.cap_schedule.specs.declared.schedule.Order.TheVariants as T
use Rattle.cap_schedule.specs.declared.schedule.Prefix.{Prefix}
use Rattle.cap_schedule.specs.declared.schedule.Action.{Action}
use Rattle.cap_schedule.specs.declared.schedule.Line.{Line}
use Rattle.cap_schedule.specs.declared.schedule.HostLine.{HostLine}
use Rattle.cap_schedule.specs.declared.schedule.Schedule.{Schedule}
use Rattle.cap_schedule.specs.declared.schedule.Draft.{Draft}
use Rattle.cap_schedule.specs.declared.schedule.Draft.TheVariants.{Empty, Hosted, Acting}
use Rattle.cap_schedule.specs.Hex.{hex_bytes}
use Rattle.cap_schedule.specs.PublishedRows.{set_in}
use Rattle.cap_schedule.specs.SetUps.{host_line, terminal_line, terminal_values, are_terminal_words, is_free, is_terminal_line, host_of, opened, opened_with, place_of, end_of}
use Rattle.cap_schedule.specs.Actions.{at_place, bare_order, batch_of, numbered_order, numbered_if, paid_order, status_order, up_of, noise_at, noise_of, publish_of, restart_of, short_action, valued_action, action_of}
use Rattle.cap_schedule.specs.Prefixes.{prefix_in, after_prefix}
use Rattle.cap_schedule.specs.Noise.{is_allowed}
use Rattle.cap_schedule.specs.Language.{words_of, line_with, line_of, with_line, acting, hosted, with_terminal, read_words, is_skipped, read_line, Reading, Reads, Faulty, whole, read_end, go_on, read_lines, reading}
use Rattle.cap_schedule.specs.Matching.{Matching}
use Rattle.cap_schedule.proofs.Nobodys.{IsAllowedLine}
use Rattle.cap_schedule.specs.Ranges.{OrderInRange, ActionInRange, LineInRange, InRange}

-- of the host of this name, and within its ranges
abbrev IsTerminalOf : List ℕ → TerminalSettings → Type 0
IsTerminalOf host t = (t.host ≡ host) × (is_terminal_settings t ≡ true)

abbrev pub IsSound : (List ℕ → Received) → Schedule → Type 0
IsSound reads s = Matching s × InRange s × AllByRecursion (IsAllowedLine reads s.host.host s.terminals) s.lines

abbrev IsSoundDraft : (List ℕ → Received) → Draft → Type 0
IsSoundDraft reads Empty = ⊤
IsSoundDraft reads (Hosted h terminals) = AllByRecursion (IsTerminalOf h.id) terminals
IsSoundDraft reads (Acting s) = IsSound reads s

abbrev pub IsSoundReading : (List ℕ → Received) → Reading → Type 0
IsSoundReading reads (Reads s) = IsSound reads s
IsSoundReading reads (Faulty line) = ⊤

all_push : {X : Type 0} (P : X → Type 0) (xs : List X) (x : X) → AllByRecursion P xs → P x → AllByRecursion P (xs ++ x ∷ [])
all_push P [] x all p = (p, tt)
all_push P (y ∷ xs) x (q, all) p = (q, all_push P xs x all p)

-- a choice between two values that may be missing
either : {X : Type 0} (P : X → Type 0) (test : Bool) (a b : Option X) → IfSome a P → IfSome b P → IfSome (if test then a else b) P
either P true a b p q = p
either P false a b p q = q

where_true : {X : Type 0} (P : X → Type 0) (test : Bool) (x : X) → (test ≡ true → P x) → IfSome (if test then Some x else None) P
where_true P true x p = p refl
where_true P false x p = tt

-- terminals

settings_sound : (id host : List ℕ) (max floor : ℕ) → IfSome (terminal_settings_of id host max floor) (IsTerminalOf host)
settings_sound id host max floor =
    let s : TerminalSettings = record { terminal = id; host = host; max = max; floor = floor } in
    where_true (IsTerminalOf host) (is_terminal_settings s) s (λ e. (refl, e))

values_sound : (host : List ℕ) (id : Option (List ℕ)) (max floor : Option ℕ) → IfSome (terminal_values host id max floor) (IsTerminalOf host)
values_sound host None max floor = tt
values_sound host (Some id) None floor = tt
values_sound host (Some id) (Some max) None = tt
values_sound host (Some id) (Some max) (Some floor) = settings_sound id host max floor

terminal_sound : (host : List ℕ) (terminals : List TerminalSettings) (words : List (List ℕ)) → IfSome (terminal_line host terminals words) (IsTerminalOf host)
terminal_sound host terminals [] = tt
terminal_sound host terminals (a ∷ []) = tt
terminal_sound host terminals (a ∷ id ∷ []) = tt
terminal_sound host terminals (a ∷ id ∷ b ∷ []) = tt
terminal_sound host terminals (a ∷ id ∷ b ∷ max ∷ []) = tt
terminal_sound host terminals (a ∷ id ∷ b ∷ max ∷ c ∷ []) = tt
terminal_sound host terminals (a ∷ id ∷ b ∷ max ∷ c ∷ floor ∷ []) =
    either (IsTerminalOf host) (are_terminal_words a b c && is_free id terminals) (terminal_values host (ident_of id) (number_of 10 max) (money_of floor)) None
    (values_sound host (ident_of id) (number_of 10 max) (money_of floor)) tt
terminal_sound host terminals (a ∷ id ∷ b ∷ max ∷ c ∷ floor ∷ d ∷ more) = tt

more_sound : (reads : List ℕ → Received) (h : HostLine) (terminals : List TerminalSettings) (t : Option TerminalSettings) → AllByRecursion (IsTerminalOf h.id) terminals → IfSome t (IsTerminalOf h.id) → IfSome (with_terminal h terminals t) (IsSoundDraft reads)
more_sound reads h terminals None all p = tt
more_sound reads h terminals (Some t) all p = all_push (IsTerminalOf h.id) terminals t all p

all_hosts : (host : List ℕ) (terminals : List TerminalSettings) → AllByRecursion (IsTerminalOf host) terminals → AllByRecursion (λ t. t.host ≡ host) terminals
all_hosts host [] all = tt
all_hosts host (t ∷ terminals) (p, all) = (p.0, all_hosts host terminals all)

all_rules : (host : List ℕ) (terminals : List TerminalSettings) → AllByRecursion (IsTerminalOf host) terminals → AllByRecursion (λ t. is_terminal_settings t ≡ true) terminals
all_rules host [] all = tt
all_rules host (t ∷ terminals) (p, all) = (p.1, all_rules host terminals all)

opened_if : (reads : List ℕ → Received) (h : HostLine) (terminals : List TerminalSettings) → AllByRecursion (IsTerminalOf h.id) terminals → (test : Bool)
    → (test ≡ true → is_host_settings (host_of h (map (λ t. t.terminal) terminals)) ≡ true)
    → IfSome (opened_with terminals (if test then Some (host_of h (map (λ t. t.terminal) terminals)) else None)) (IsSound reads)
opened_if reads h terminals all true rule = (record { names = refl; hosts = all_hosts h.id terminals all; rules = all_rules h.id terminals all; host_rule = rule refl }, tt, tt)
opened_if reads h terminals all false rule = tt

opened_sound : (reads : List ℕ → Received) (h : HostLine) (terminals : List TerminalSettings) → AllByRecursion (IsTerminalOf h.id) terminals → IfSome (opened h terminals) (IsSound reads)
opened_sound reads h terminals all = opened_if reads h terminals all (is_host_settings (host_of h (map (λ t. t.terminal) terminals))) (λ e. e)

-- actions

batch_in_range : (n : ℕ) (low high : Bool) → (low ≡ true → 1 ≤ n) → (high ≡ true → n ≤ 100) → IfSome (if low && high then Some (T.Batch n) else None) OrderInRange
batch_in_range n true true p q = (p refl, q refl)
batch_in_range n true false p q = tt
batch_in_range n false high p q = tt

numbered_in_range : (verb : List ℕ) (n : ℕ) → IfSome (numbered_order verb n) OrderInRange
numbered_in_range verb n =
    either OrderInRange (bytes_eq verb (codes "offline")) _ _ tt
    (either OrderInRange (bytes_eq verb (codes "void")) _ _ tt
    (either OrderInRange (bytes_eq verb (codes "cancel")) _ _ tt
    (either OrderInRange (bytes_eq verb (codes "batch")) (batch_of n) _ (batch_in_range n (nat_le 1 n) (nat_le n 100) (λ e. leb-true 1 n e) (λ e. leb-true n 100 e))
    (either OrderInRange (bytes_eq verb (codes "ask")) _ _ tt
    (either OrderInRange (bytes_eq verb (codes "askcancel")) _ _ tt
    (either OrderInRange (bytes_eq verb (codes "down")) _ _ tt
    (either OrderInRange (bytes_eq verb (codes "walkout")) _ _ tt tt)))))))

numbered_if_in_range : (verb : List ℕ) (n : Option ℕ) → IfSome (numbered_if verb n) OrderInRange
numbered_if_in_range verb None = tt
numbered_if_in_range verb (Some n) = numbered_in_range verb n

bare_in_range : (verb : List ℕ) → IfSome (bare_order verb) OrderInRange
bare_in_range verb =
    either OrderInRange (bytes_eq verb (codes "close")) _ _ tt
    (either OrderInRange (bytes_eq verb (codes "push")) _ _ tt
    (either OrderInRange (bytes_eq verb (codes "diagnose")) _ _ tt tt))

paid_in_range : (verb : List ℕ) (amount : Option ℕ) (account : Option (List ℕ)) → IfSome (paid_order verb amount account) OrderInRange
paid_in_range verb None account = tt
paid_in_range verb (Some amount) None = tt
paid_in_range verb (Some amount) (Some account) =
    either OrderInRange (bytes_eq verb (codes "begin")) _ _ tt (either OrderInRange (bytes_eq verb (codes "sale")) _ _ tt tt)

status_in_range : (word : List ℕ) → IfSome (status_order word) OrderInRange
status_in_range word =
    either OrderInRange (bytes_eq word (codes "AQPR")) _ _ (inl refl) (either OrderInRange (bytes_eq word (codes "MGTP")) _ _ (inr refl) tt)

placed_in_range : (place : Option ℕ) (order : Option Order) → IfSome order OrderInRange → IfSome (at_place place order) ActionInRange
placed_in_range None order p = tt
placed_in_range (Some place) None p = tt
placed_in_range (Some place) (Some order) p = p

up_in_range : (place which : Option ℕ) → IfSome (up_of place which) ActionInRange
up_in_range None which = tt
up_in_range (Some place) None = tt
up_in_range (Some place) (Some which) = tt

noise_at_in_range : (end : Option End) (bytes : List ℕ) → IfSome (noise_at end bytes) ActionInRange
noise_at_in_range None bytes = tt
noise_at_in_range (Some E.Host) bytes = tt
noise_at_in_range (Some (E.Terminal place)) bytes = tt

noise_in_range : (end : Option End) (bytes : Option (List ℕ)) → IfSome (noise_of end bytes) ActionInRange
noise_in_range end None = tt
noise_in_range end (Some bytes) = either ActionInRange (nat_le 1 (length bytes) && nat_le (length bytes) 65536) (noise_at end bytes) None (noise_at_in_range end bytes) tt

publish_in_range : (rows : Option (List Row)) → IfSome (publish_of rows) ActionInRange
publish_in_range None = tt
publish_in_range (Some rows) = tt

restart_in_range : (end : Option End) → IfSome (restart_of end) ActionInRange
restart_in_range None = tt
restart_in_range (Some end) = tt

short_in_range : (host : List ℕ) (terminals : List TerminalSettings) (verb word : List ℕ) → IfSome (short_action host terminals verb word) ActionInRange
short_in_range host terminals verb word =
    either ActionInRange (bytes_eq verb (codes "publish")) _ _ (publish_in_range (set_in word))
    (either ActionInRange (bytes_eq verb (codes "restart")) _ _ (restart_in_range (end_of host terminals word))
    (placed_in_range (place_of terminals word) (bare_order verb) (bare_in_range verb)))

valued_in_range : (host : List ℕ) (terminals : List TerminalSettings) (verb word value : List ℕ) → IfSome (valued_action host terminals verb word value) ActionInRange
valued_in_range host terminals verb word value =
    either ActionInRange (bytes_eq verb (codes "noise")) _ _ (noise_in_range (end_of host terminals word) (hex_bytes value))
    (either ActionInRange (bytes_eq verb (codes "up")) _ _ (up_in_range (place_of terminals word) (number_of 10 value))
    (either ActionInRange (bytes_eq verb (codes "status")) _ _ (placed_in_range (place_of terminals word) (status_order value) (status_in_range value))
    (placed_in_range (place_of terminals word) (numbered_if verb (number_of 10 value)) (numbered_if_in_range verb (number_of 10 value)))))

action_in_range : (host : List ℕ) (terminals : List TerminalSettings) (words : List (List ℕ)) → IfSome (action_of host terminals words) ActionInRange
action_in_range host terminals [] = tt
action_in_range host terminals (verb ∷ []) = tt
action_in_range host terminals (verb ∷ word ∷ []) = short_in_range host terminals verb word
action_in_range host terminals (verb ∷ word ∷ value ∷ []) = valued_in_range host terminals verb word value
action_in_range host terminals (verb ∷ word ∷ amount ∷ account ∷ []) =
    placed_in_range (place_of terminals word) (paid_order verb (amount_of amount) (account_of account)) (paid_in_range verb (amount_of amount) (account_of account))
action_in_range host terminals (a ∷ b ∷ c ∷ d ∷ e ∷ more) = tt

-- lines

line_in_range : (number : ℕ) (prefix : Option (Option Prefix)) (action : Option Action) → IfSome action ActionInRange → IfSome (line_with number prefix action) LineInRange
line_in_range number None action p = tt
line_in_range number (Some prefix) None p = tt
line_in_range number (Some prefix) (Some action) p = p

with_line_sound : (reads : List ℕ → Received) (s : Schedule) (line : Option Line) → IsSound reads s → IfSome line LineInRange → IfSome (with_line reads s line) (IsSoundDraft reads)
with_line_sound reads s None sound p = tt
with_line_sound reads s (Some line) sound p =
    where_true (IsSoundDraft reads) (is_allowed reads s.host.host s.terminals line.action)
    (Acting (record { host = s.host; terminals = s.terminals; lines = s.lines ++ line ∷ [] })) (λ e. (sound.0, all_push LineInRange s.lines line sound.1 p, all_push (IsAllowedLine reads s.host.host s.terminals) s.lines line sound.2 e))

acting_sound : (reads : List ℕ → Received) (s : Option Schedule) (number : ℕ) (words : List (List ℕ)) → IfSome s (IsSound reads) → IfSome (acting reads s number words) (IsSoundDraft reads)
acting_sound reads None number words sound = tt
acting_sound reads (Some s) number words sound =
    with_line_sound reads s (line_of s.host.host s.terminals number words) sound
    (line_in_range number (prefix_in words) (action_of s.host.host s.terminals (after_prefix words)) (action_in_range s.host.host s.terminals (after_prefix words)))

hosted_sound : (reads : List ℕ → Received) (h : Option HostLine) → IfSome (hosted h) (IsSoundDraft reads)
hosted_sound reads None = tt
hosted_sound reads (Some h) = tt

words_sound : (reads : List ℕ → Received) (draft : Draft) (number : ℕ) (words : List (List ℕ)) → IsSoundDraft reads draft → IfSome (read_words reads draft number words) (IsSoundDraft reads)
words_sound reads Empty number words sound = hosted_sound reads (host_line words)
words_sound reads (Hosted h terminals) number words sound =
    either (IsSoundDraft reads) (is_terminal_line words) (with_terminal h terminals (terminal_line h.id terminals words)) (acting reads (opened h terminals) number words)
    (more_sound reads h terminals (terminal_line h.id terminals words) sound (terminal_sound h.id terminals words))
    (acting_sound reads (opened h terminals) number words (opened_sound reads h terminals sound))
words_sound reads (Acting s) number words sound = acting_sound reads (Some s) number words sound

line_sound : (reads : List ℕ → Received) (draft : Draft) (number : ℕ) (line : List ℕ) → IsSoundDraft reads draft → IfSome (read_line reads draft number line) (IsSoundDraft reads)
line_sound reads draft number line sound =
    either (IsSoundDraft reads) (is_skipped line) (Some draft) (read_words reads draft number (words_of line)) sound (words_sound reads draft number (words_of line) sound)

whole_sound : (reads : List ℕ → Received) (s : Option Schedule) (number : ℕ) → IfSome s (IsSound reads) → IsSoundReading reads (whole s number)
whole_sound reads None number p = tt
whole_sound reads (Some s) number p = p

end_sound : (reads : List ℕ → Received) (draft : Draft) (number : ℕ) → IsSoundDraft reads draft → IsSoundReading reads (read_end draft number)
end_sound reads Empty number sound = tt
end_sound reads (Hosted h terminals) number sound = whole_sound reads (opened h terminals) number (opened_sound reads h terminals sound)
end_sound reads (Acting s) number sound = sound

go_on_sound : (reads : List ℕ → Received) (draft : Option Draft) (number : ℕ) (rest : Draft → Reading) → IfSome draft (IsSoundDraft reads) → ((d : Draft) → IsSoundDraft reads d → IsSoundReading reads (rest d)) → IsSoundReading reads (go_on draft number rest)
go_on_sound reads None number rest sound more = tt
go_on_sound reads (Some d) number rest sound more = more d sound

lines_sound : (reads : List ℕ → Received) (ls : List (List ℕ)) (number : ℕ) (draft : Draft) → IsSoundDraft reads draft → IsSoundReading reads (read_lines reads ls number draft)
lines_sound reads [] number draft sound = end_sound reads draft number sound
lines_sound reads (line ∷ ls) number draft sound =
    go_on_sound reads (read_line reads draft number line) number (read_lines reads ls (number + 1)) (line_sound reads draft number line sound)
    (λ d sound'. lines_sound reads ls (number + 1) d sound')

pub reading_sound : (reads : List ℕ → Received) (bytes : List ℕ) → IsSoundReading reads (reading reads bytes)
reading_sound reads bytes = lines_sound reads (lines bytes) 1 Empty tt
