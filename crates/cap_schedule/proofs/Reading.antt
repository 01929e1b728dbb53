-- The lines of a text, one after the other.
use Rattle.std.proofs.Common.{◌≡◌, ℕ, ◌+◌, Bool, false, List, [], ◌∷◌, length, Option, Some, None, Result, Ok, Err, refl, ap, sym, ◌∙◌, subst, arith}
use Rattle.std.specs.Prelude.{IfOk}
use Rattle.std.specs.Str.Lines.{lines}
use Rattle.cap_msgs.specs.Received.{Received}
use Rattle.cap_entries.specs.Settings.{TerminalSettings}
use Rattle.cap_schedule.specs.declared.schedule.Line.{Line}
use Rattle.cap_schedule.specs.declared.schedule.HostLine.{HostLine}
use Rattle.cap_schedule.specs.declared.schedule.Schedule.{Schedule}
use Rattle.cap_schedule.specs.declared.schedule.ScheduleFault.{ScheduleFault}
use Rattle.cap_schedule.specs.declared.schedule.Draft.{Draft}
use Rattle.cap_schedule.specs.declared.schedule.Draft.TheVariants.{Hosted, Acting}
use Rattle.cap_schedule.specs.SetUps.{is_terminal_line, opened}
use Rattle.cap_schedule.specs.Language.{line_of, acting, read_words, read_line, Reads, Faulty, read_end, go_on, read_lines, reading}
use Rattle.cap_schedule.specs.Matching.{Matching}
use Rattle.cap_schedule.specs.Ranges.{InRange}
use Rattle.cap_schedule.specs.Nobodys.{NoiseIsNobodys}
use Rattle.cap_schedule.proofs.Nobodys.{all_nobodys}
use Rattle.cap_schedule.proofs.Sound.{IsSound, IsSoundReading, reading_sound}

pub same_line : (host other : List ℕ) (terminals others : List TerminalSettings) (number : ℕ) (words : List (List ℕ)) (found : Option Line) (line : Line)
    → found ≡ line_of other others number words → other ≡ host → others ≡ terminals → found ≡ Some line → line_of host terminals number words ≡ Some line
same_line host other terminals others number words found line e h t is =
    ap (λ id. line_of id terminals number words) (sym h) ∙ (ap (λ ts. line_of other ts number words) (sym t) ∙ (sym e ∙ is))

pub hosted_acts : (reads : List ℕ → Received) (draft : Draft) (h : HostLine) (terminals : List TerminalSettings) (number : ℕ) (words : List (List ℕ)) (s : Schedule) (test : Bool)
    → draft ≡ Hosted h terminals → test ≡ is_terminal_line words → test ≡ false → opened h terminals ≡ Some s → read_words reads draft number words ≡ acting reads (Some s) number words
hosted_acts reads draft h terminals number words s test is t f o =
    let f' : is_terminal_line words ≡ false = sym t ∙ f in
    rw (is, f', o) refl

pub acting_acts : (reads : List ℕ → Received) (draft : Draft) (number : ℕ) (words : List (List ℕ)) (s : Schedule) → draft ≡ Acting s → read_words reads draft number words ≡ acting reads (Some s) number words
acting_acts reads draft number words s is = rw is refl

pub stops : (reads : List ℕ → Received) (text rest line after : List ℕ) (number k : ℕ) (draft : Draft) → lines rest ≡ line ∷ lines after
    → read_lines reads (lines rest) number draft ≡ reading reads text → (k ≡ number) × (read_line reads draft number line ≡ None) → reading reads text ≡ Faulty k
stops reads text rest line after number k draft ls inv (at, none) =
    sym inv ∙ (ap (λ these. read_lines reads these number draft) ls
    ∙ (ap (λ found. go_on found number (read_lines reads (lines after) (number + 1))) none ∙ ap (λ n. Faulty n) (sym at)))

no_lines : (rest : List ℕ) → length rest ≡ 0 → lines rest ≡ []
no_lines [] n = refl
no_lines (x ∷ rest) n = absurd (omega arith)

pub sound_if : (reads : List ℕ → Received) (text rest : List ℕ) (number : ℕ) (draft : Draft) (result : Result Schedule ScheduleFault) → length rest ≡ 0
    → read_lines reads (lines rest) number draft ≡ reading reads text → IfOk result (λ s. read_end draft number ≡ Reads s) → IfOk result (IsSound reads)
sound_if reads text rest number draft (Err e) n inv end = tt
sound_if reads text rest number draft (Ok s) n inv end =
    subst (IsSoundReading reads) (sym inv ∙ (ap (λ these. read_lines reads these number draft) (no_lines rest n) ∙ end)) (reading_sound reads text)

pub if_matching : (reads : List ℕ → Received) (result : Result Schedule ScheduleFault) → IfOk result (IsSound reads) → IfOk result Matching
if_matching reads (Err e) sound = tt
if_matching reads (Ok s) sound = sound.0

pub if_in_range : (reads : List ℕ → Received) (result : Result Schedule ScheduleFault) → IfOk result (IsSound reads) → IfOk result InRange
if_in_range reads (Err e) sound = tt
if_in_range reads (Ok s) sound = sound.1

pub if_nobodys : (reads : List ℕ → Received) (result : Result Schedule ScheduleFault) → IfOk result (IsSound reads) → IfOk result (NoiseIsNobodys reads)
if_nobodys reads (Err e) sound = tt
if_nobodys reads (Ok s) sound = all_nobodys reads s sound.0 s.lines sound.2
