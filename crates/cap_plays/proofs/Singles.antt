-- Without cuts and faults at device calls an opening keeps all that was tried, so that a schedule names one run.
use Rattle.std.proofs.Common.{◌≡◌, ℕ, zero, suc, List, [], ◌∷◌, map, Option, Some, None, refl, sym, ◌∙◌, ap, subst, inl, inr}
use Rattle.std.specs.Prelude.{slice_get, slice_set}
use Rattle.std.specs.List.{AllByRecursion}
use Rattle.std.proofs.lemmas.Bool.{cond_both}
use Rattle.cap_leaf.specs.Date.{DateParts}
use Rattle.cap_msgs.specs.Received.{Received}
use Rattle.cap_entries.specs.Settings.{TerminalSettings}
use Rattle.cap_schedule.specs.declared.outcome.Outcome.{Outcome}
use Rattle.cap_schedule.specs.declared.schedule.End.{End}
use Rattle.cap_schedule.specs.declared.schedule.End.TheVariants.{Host, Terminal}
use Rattle.cap_schedule.specs.declared.schedule.Prefix.{Prefix}
use Rattle.cap_schedule.specs.declared.schedule.Prefix.TheVariants.{Cut, Fail, CutAfter}
use Rattle.cap_schedule.specs.declared.schedule.Line.{Line}
use Rattle.cap_world.specs.World.{TerminalState}
use Rattle.cap_plays.specs.Turns.{Scene}
use Rattle.cap_plays.specs.Plays.{Doubt, no_doubt, MayKeep, Made, Plan, Fate, fate, fate_of, fate_whole, fate_after, fate_cut_after, off_at, terminal_off, is_possible, plan, acting, Doubts, doubt_at, doubt_or_none, with_doubt, Played, play_behind, silently_behind, closing_fate, ends_of, Reopens, Plays, AreDates, reopen_least, play_least, first_scene, first_doubts}
use Rattle.cap_plays.specs.Laws.{IsWhole, OnePlayWithoutFaults}

abbrev IsSure : Doubt → Type 0
IsSure doubt = doubt.least ≡ doubt.most

record AllSure (doubts : Doubts) : Type 0 where
  host : IsSure doubts.host
  terminals : AllByRecursion IsSure doubts.terminals

sure_keeps : (doubt : Doubt) (kept : ℕ) → IsSure doubt → MayKeep doubt kept → kept ≡ doubt.least
sure_keeps doubt kept sure (inl e) = e
sure_keeps doubt kept sure (inr e) = e ∙ sym sure

sure_at : (list : List Doubt) (place : ℕ) → AllByRecursion IsSure list → IsSure (doubt_or_none (slice_get list place))
sure_at [] place sure = refl
sure_at (d ∷ list) zero (sure, more) = sure
sure_at (d ∷ list) (suc place) (sure, more) = sure_at list place more

sure_end : (doubts : Doubts) (end : End) → AllSure doubts → IsSure (doubt_at doubts end)
sure_end doubts Host sure = sure.host
sure_end doubts (Terminal place) sure = sure_at doubts.terminals place sure.terminals

sure_set : (list : List Doubt) (place : ℕ) (doubt : Doubt) → AllByRecursion IsSure list → IsSure doubt → AllByRecursion IsSure (slice_set list place doubt)
sure_set [] place doubt sure is = tt
sure_set (d ∷ list) zero doubt (sure, more) is = (is, more)
sure_set (d ∷ list) (suc place) doubt (sure, more) is = (sure, sure_set list place doubt more is)

sure_with : (doubts : Doubts) (end : End) (doubt : Doubt) → AllSure doubts → IsSure doubt → AllSure (with_doubt doubts end doubt)
sure_with doubts Host doubt sure is = record { host = is; terminals = sure.terminals }
sure_with doubts (Terminal place) doubt sure is = record { host = sure.host; terminals = sure_set doubts.terminals place doubt sure.terminals is }

-- what becomes of a line that no cut and no fault ends
abbrev SureFate : Fate → Type 0
SureFate fate = IsSure fate.doubt

whole_sure : (w : Scene) (made : List Made) (outcome : Outcome) → SureFate (fate_whole w made outcome)
whole_sure w [] outcome = refl
whole_sure w (m ∷ made) outcome = whole_sure m.whole made outcome

after_sure : (m : Made) (made : List Made) → SureFate (fate_after m made)
after_sure m [] = refl
after_sure m (next ∷ made) = after_sure next made

off_sure : (w : Scene) (end : End) → SureFate (off_at w end)
off_sure w Host = refl
off_sure w (Terminal place) = terminal_sure (slice_get w.terminals place)
  where
    terminal_sure : (s : Option TerminalState) → SureFate (terminal_off w place s)
    terminal_sure None = refl
    terminal_sure (Some s) = refl

cut_after_sure : (w : Scene) (end : End) (made : List Made) → SureFate (fate_cut_after w end made)
cut_after_sure w end [] = off_sure w end
cut_after_sure w end (m ∷ made) = after_sure m made

of_sure : (prefix : Option Prefix) (w : Scene) (end : End) (plan : Plan) → IsWhole prefix → SureFate (fate_of prefix w end plan)
of_sure None w end plan is = whole_sure w plan.steps plan.outcome
of_sure (Some (Cut call fill)) w end plan is = absurd is
of_sure (Some (Fail call fill)) w end plan is = absurd is
of_sure (Some CutAfter) w end plan is = cut_after_sure w end plan.steps

fate_sure : (reads : List ℕ → Received) (w : Scene) (old : Doubt) (kept : ℕ) (created : DateParts) (line : Line) → IsSure old → IsWhole line.prefix → SureFate (fate reads w old kept created line)
fate_sure reads w old kept created line sure is = cond_both (is_possible w line.action) _ _ SureFate (λ _. of_sure line.prefix w (acting line.action) _ is) (λ _. sure)

reopens_least : (ends : List End) (w : Scene) (doubts : Doubts) → Reopens ends w doubts (reopen_least ends w doubts)
reopens_least [] w doubts = refl
reopens_least (end ∷ ends) w doubts = (_, _, inl refl, reopens_least ends _ doubts, refl)

pub plays_least : (reads : List ℕ → Received) (lines : List Line) (dates : List DateParts) (w : Scene) (doubts : Doubts) → AreDates lines dates → Plays reads lines w doubts (play_least reads lines dates w doubts)
plays_least reads [] dates w doubts are = reopens_least (ends_of w) w doubts
plays_least reads (line ∷ lines) dates w doubts (created, more, at, are, is) =
    subst (λ d. Plays reads (line ∷ lines) w doubts (play_least reads (line ∷ lines) d w doubts)) (sym is)
    (created, _, _, at, inl refl, plays_least reads lines more _ _ are, refl)

reopens_one : (ends : List End) (w : Scene) (doubts : Doubts) (other : Played) → AllSure doubts → Reopens ends w doubts other → other ≡ reopen_least ends w doubts
reopens_one [] w doubts other sure is = is
reopens_one (end ∷ ends) w doubts other sure (kept, more, keeps, rest, is) =
    let old = doubt_at doubts end in
    let e : kept ≡ old.least = sure_keeps old kept (sure_end doubts end sure) keeps in
    let tail : more ≡ reopen_least ends (closing_fate w old kept end).scene doubts = reopens_one ends (closing_fate w old kept end).scene doubts more sure rest in
    is ∙ ap (silently_behind (closing_fate w old kept end)) tail
    ∙ ap (λ k. silently_behind (closing_fate w old k end) (reopen_least ends (closing_fate w old k end).scene doubts)) e

-- a play is the least one with its dates
abbrev IsLeast : (reads : List ℕ → Received) → List Line → Scene → Doubts → Played → Type 0
IsLeast reads lines w doubts other = (dates : List DateParts) × AreDates lines dates × (other ≡ play_least reads lines dates w doubts)

plays_one : (reads : List ℕ → Received) (lines : List Line) (w : Scene) (doubts : Doubts) (other : Played) → AllSure doubts → AllByRecursion (λ (line : Line). IsWhole line.prefix) lines → Plays reads lines w doubts other
    → IsLeast reads lines w doubts other
plays_one reads [] w doubts other sure whole does = ([], refl, reopens_one (ends_of w) w doubts other sure does)
plays_one reads (line ∷ lines) w doubts other sure (whole, wholes) (created, kept, more, at, keeps, rest, is) =
    let end = acting line.action in
    let old = doubt_at doubts end in
    let e : kept ≡ old.least = sure_keeps old kept (sure_end doubts end sure) keeps in
    let f = fate reads w old kept created line in
    let next = with_doubt doubts end f.doubt in
    let (dates, are, tail) = plays_one reads lines f.scene next more (sure_with doubts end f.doubt sure (fate_sure reads w old kept created line (sure_end doubts end sure) whole)) wholes rest in (
      created ∷ dates,
      (created, dates, at, are, refl),
      is ∙ ap (play_behind f) tail
          ∙ ap (λ k. play_behind (fate reads w old k created line) (play_least reads lines dates (fate reads w old k created line).scene (with_doubt doubts end (fate reads w old k created line).doubt))) e,
    )

first_sure : (terminals : List TerminalSettings) → AllByRecursion IsSure (map (λ (t : TerminalSettings). no_doubt 0) terminals)
first_sure [] = tt
first_sure (t ∷ terminals) = (refl, first_sure terminals)

pub one_play : OnePlayWithoutFaults
one_play reads s whole = (
  λ dates are. plays_least reads s.lines dates (first_scene s) (first_doubts s) are,
  λ other does. plays_one reads s.lines (first_scene s) (first_doubts s) other (record { host = refl; terminals = first_sure s.terminals }) whole does,
)
