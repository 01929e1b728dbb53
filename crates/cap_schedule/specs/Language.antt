-- The schedule language: from bytes to lines, from lines to words, from words to typed lines.
use Rattle.std.specs.Prelude.{ℕ, ◌+◌, Bool, ◌||◌, List, [], ◌∷◌, ◌++◌, length, Option, Some, None, ◌==◌, if◌then◌else◌, slice_index}
use Rattle.std.specs.List.{slice_split}
use Rattle.std.specs.Str.Lines.{lines}
use Rattle.cap_msgs.specs.Received.{Received}
use Rattle.cap_entries.specs.Settings.{TerminalSettings}
use Rattle.cap_schedule.specs.declared.schedule.Prefix.{Prefix}
use Rattle.cap_schedule.specs.declared.schedule.Action.{Action}
use Rattle.cap_schedule.specs.declared.schedule.Line.{Line}
use Rattle.cap_schedule.specs.declared.schedule.HostLine.{HostLine}
use Rattle.cap_schedule.specs.declared.schedule.Schedule.{Schedule}
use Rattle.cap_schedule.specs.declared.schedule.Draft.{Draft}
use Rattle.cap_schedule.specs.declared.schedule.Draft.TheVariants.{Empty, Hosted, Acting}
use Rattle.cap_schedule.specs.SetUps.{host_line, terminal_line, is_terminal_line, opened}
use Rattle.cap_schedule.specs.Actions.{action_of}
use Rattle.cap_schedule.specs.Prefixes.{prefix_in, after_prefix}
use Rattle.cap_schedule.specs.Noise.{is_allowed}

-- words are separated by one space
abbrev pub words_of : List ℕ → List (List ℕ)
words_of line = slice_split (λ b. b == 32) line

abbrev pub line_with : ℕ → Option (Option Prefix) → Option Action → Option Line
line_with number None action = None
line_with number (Some prefix) None = None
line_with number (Some prefix) (Some action) = Some (record { number = number; prefix = prefix; action = action })

-- an action line: at most one prefix, and an action
abbrev pub line_of : List ℕ → List TerminalSettings → ℕ → List (List ℕ) → Option Line
line_of host terminals number words = line_with number (prefix_in words) (action_of host terminals (after_prefix words))

-- a line more, unless it passes a message between the parties off as noise
abbrev pub with_line : (List ℕ → Received) → Schedule → Option Line → Option Draft
with_line reads s None = None
with_line reads s (Some line) =
    if is_allowed reads s.host.host s.terminals line.action
    then Some (Acting (record { host = s.host; terminals = s.terminals; lines = s.lines ++ line ∷ [] })) else None

-- the first action line, or one more
abbrev pub acting : (List ℕ → Received) → Option Schedule → ℕ → List (List ℕ) → Option Draft
acting reads None number words = None
acting reads (Some s) number words = with_line reads s (line_of s.host.host s.terminals number words)

abbrev pub hosted : Option HostLine → Option Draft
hosted None = None
hosted (Some host) = Some (Hosted host [])

abbrev pub with_terminal : HostLine → List TerminalSettings → Option TerminalSettings → Option Draft
with_terminal host terminals None = None
with_terminal host terminals (Some t) = Some (Hosted host (terminals ++ t ∷ []))

-- the line that comes next
abbrev pub read_words : (List ℕ → Received) → Draft → ℕ → List (List ℕ) → Option Draft
read_words reads Empty number words = hosted (host_line words)
read_words reads (Hosted host terminals) number words =
    if is_terminal_line words then with_terminal host terminals (terminal_line host.id terminals words)
    else acting reads (opened host terminals) number words
read_words reads (Acting s) number words = acting reads (Some s) number words

-- an empty line, and one that begins with `#`, is skipped
abbrev pub is_skipped : List ℕ → Bool
is_skipped line = (length line == 0) || (slice_index line 0 == 35)

abbrev pub read_line : (List ℕ → Received) → Draft → ℕ → List ℕ → Option Draft
read_line reads draft number line = if is_skipped line then Some draft else read_words reads draft number (words_of line)

-- what a text says: a schedule, or the first line that isn't in the language
pub data Reading : Type 0 where
  Reads : (schedule : Schedule) → Reading
  Faulty : (line : ℕ) → Reading

-- where a needed line is missing, the faulty line is one more than the number of lines
abbrev pub whole : Option Schedule → ℕ → Reading
whole None number = Faulty number
whole (Some s) number = Reads s

abbrev pub read_end : Draft → ℕ → Reading
read_end Empty number = Faulty number
read_end (Hosted host terminals) number = whole (opened host terminals) number
read_end (Acting s) number = Reads s

abbrev pub go_on : Option Draft → ℕ → (Draft → Reading) → Reading
go_on None number rest = Faulty number
go_on (Some draft) number rest = rest draft

-- the lines from this number on
abbrev pub read_lines : (List ℕ → Received) → List (List ℕ) → ℕ → Draft → Reading
read_lines reads [] number draft = read_end draft number
read_lines reads (line ∷ more) number draft = go_on (read_line reads draft number line) number (read_lines reads more (number + 1))

-- what the bytes say, where `reads` says what the bytes of noise read as
abbrev pub reading : (List ℕ → Received) → List ℕ → Reading
reading reads bytes = read_lines reads (lines bytes) 1 Empty
