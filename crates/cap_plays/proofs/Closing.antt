-- After a play every end is on.
use Rattle.std.proofs.Common.{◌≡◌, ◌⊎◌, ℕ, zero, suc, true, false, List, [], ◌∷◌, Option, Some, None, refl, sym, ap, subst, inl, inr, ◌+◌, arith}
use Rattle.std.proofs.Math.Nat.{add-zero, zero-add}
use Rattle.std.specs.Prelude.{slice_get, slice_set, ⊤}
use Rattle.std.proofs.lemmas.Bool.{cond_both}
use Rattle.std.proofs.lemmas.Option.{none-some}
use Rattle.cap_msgs.specs.Received.{Received}
use Rattle.cap_schedule.specs.declared.outcome.Outcome.TheVariants.{Restarted}
use Rattle.cap_schedule.specs.declared.schedule.End.{End}
use Rattle.cap_schedule.specs.declared.schedule.End.TheVariants.{Host, Terminal}
use Rattle.cap_schedule.specs.declared.schedule.Line.{Line}
use Rattle.cap_world.specs.World.{TerminalState}
use Rattle.cap_plays.specs.Turns.{Scene}
use Rattle.cap_plays.specs.Plays.{Doubt, Doubts, doubt_at, Fate, opening_plan, plan_of_opening, terminal_plan, opens, fate_whole, closing_fate, is_on, terminal_is_on, reopened, Played, Reopens, Plays, ends_of, terminals_from}
use Rattle.cap_plays.specs.Laws.{AllOn, EveryPlayEndsOn}

-- a written place is on
on_set : (terminals : List TerminalState) (i place : ℕ) (new : TerminalState) → new.on ≡ true → terminal_is_on (slice_get terminals place) ≡ true → terminal_is_on (slice_get (slice_set terminals i new) place) ≡ true
on_set [] i place new on was = was
on_set (s ∷ terminals) zero zero new on was = on
on_set (s ∷ terminals) zero (suc place) new on was = was
on_set (s ∷ terminals) (suc i) zero new on was = was
on_set (s ∷ terminals) (suc i) (suc place) new on was = on_set terminals i place new on was

on_there : (terminals : List TerminalState) (place : ℕ) (s new : TerminalState) → slice_get terminals place ≡ Some s → new.on ≡ true → terminal_is_on (slice_get (slice_set terminals place new) place) ≡ true
on_there [] place s new there on = absurd (none-some s there)
on_there (t ∷ terminals) zero s new there on = on
on_there (t ∷ terminals) (suc place) s new there on = on_there terminals place s new there on

-- what is on stays on where an end is opened
abbrev KeepsOn : Scene → Scene → Type 0
KeepsOn w new = (end : End) → is_on w end ≡ true → is_on new end ≡ true

opening_keeps : (w : Scene) (old : Doubt) (kept place : ℕ) (found : Option TerminalState) → KeepsOn w (fate_whole w (terminal_plan found (λ s. plan_of_opening (opens w old false kept place s))).steps Restarted).scene
opening_keeps w old kept place None end on = on
opening_keeps w old kept place (Some s) Host on = on
opening_keeps w old kept place (Some s) (Terminal other) on = on_set w.terminals place other (reopened true kept s) refl on

closing_keeps : (w : Scene) (old : Doubt) (kept : ℕ) (end : End) → KeepsOn w (closing_fate w old kept end).scene
closing_keeps w old kept end =
    let P : Fate → Type 0 = λ f. KeepsOn w f.scene in
    cond_both (is_on w end) _ _ P (λ _ other on. on) (λ _. opened end)
  where
    opened : (end : End) → KeepsOn w (fate_whole w (opening_plan w old kept end).steps Restarted).scene
    opened Host Host on = refl
    opened Host (Terminal other) on = on
    opened (Terminal place) other on = opening_keeps w old kept place (slice_get w.terminals place) other on

-- the end itself is on
abbrev IsThere : Scene → End → Type 0
IsThere w Host = ⊤
IsThere w (Terminal place) = (s : TerminalState) × (slice_get w.terminals place ≡ Some s)

opening_on : (w : Scene) (old : Doubt) (kept place : ℕ) (s : TerminalState) (found : Option TerminalState) → slice_get w.terminals place ≡ Some s → found ≡ Some s
    → is_on (fate_whole w (terminal_plan found (λ s. plan_of_opening (opens w old false kept place s))).steps Restarted).scene (Terminal place) ≡ true
opening_on w old kept place s None there is = absurd (none-some s is)
opening_on w old kept place s (Some t) there is = on_there w.terminals place s (reopened true kept t) there refl

closing_on : (w : Scene) (old : Doubt) (kept : ℕ) (end : End) → IsThere w end → is_on (closing_fate w old kept end).scene end ≡ true
closing_on w old kept end there =
    let P : Fate → Type 0 = λ f. is_on f.scene end ≡ true in
    cond_both (is_on w end) _ _ P (λ on. on) (λ _. opened end there)
  where
    opened : (end : End) → IsThere w end → is_on (fate_whole w (opening_plan w old kept end).steps Restarted).scene end ≡ true
    opened Host there = refl
    opened (Terminal place) (s, there) = opening_on w old kept place s (slice_get w.terminals place) there there

-- no terminal is lost
abbrev KeepsThere : Scene → Scene → Type 0
KeepsThere w new = (end : End) → IsThere w end → IsThere new end

there_set : (terminals : List TerminalState) (i place : ℕ) (new s : TerminalState) → slice_get terminals place ≡ Some s → (t : TerminalState) × (slice_get (slice_set terminals i new) place ≡ Some t)
there_set [] i place new s there = absurd (none-some s there)
there_set (t ∷ terminals) zero zero new s there = (new, refl)
there_set (t ∷ terminals) zero (suc place) new s there = (s, there)
there_set (t ∷ terminals) (suc i) zero new s there = (s, there)
there_set (t ∷ terminals) (suc i) (suc place) new s there = there_set terminals i place new s there

opening_there : (w : Scene) (old : Doubt) (kept place : ℕ) (found : Option TerminalState) → KeepsThere w (fate_whole w (terminal_plan found (λ s. plan_of_opening (opens w old false kept place s))).steps Restarted).scene
opening_there w old kept place None end there = there
opening_there w old kept place (Some s) Host there = tt
opening_there w old kept place (Some s) (Terminal other) (t, there) = there_set w.terminals place other (reopened true kept s) t there

closing_there : (w : Scene) (old : Doubt) (kept : ℕ) (end : End) → KeepsThere w (closing_fate w old kept end).scene
closing_there w old kept end =
    let P : Fate → Type 0 = λ f. KeepsThere w f.scene in
    cond_both (is_on w end) _ _ P (λ _ other there. there) (λ _. opened end)
  where
    opened : (end : End) → KeepsThere w (fate_whole w (opening_plan w old kept end).steps Restarted).scene
    opened Host Host there = tt
    opened Host (Terminal other) there = there
    opened (Terminal place) other there = opening_there w old kept place (slice_get w.terminals place) other there

-- what is on stays on to the end
reopens_keep : (ends : List End) (w : Scene) (doubts : Doubts) (played : Played) → Reopens ends w doubts played → KeepsOn w played.last
reopens_keep [] w doubts played is = λ other on. subst (λ (p : Played). is_on p.last other ≡ true) (sym is) on
reopens_keep (end ∷ ends) w doubts played (kept, more, keeps, rest, is) = λ other on.
    subst (λ (p : Played). is_on p.last other ≡ true) (sym is)
    (reopens_keep ends (closing_fate w (doubt_at doubts end) kept end).scene doubts more rest other (closing_keeps w (doubt_at doubts end) kept end other on))

-- an end among them is on
abbrev IsAmong : End → List End → Type 0
IsAmong end [] = ⊥
IsAmong end (other ∷ ends) = (end ≡ other) ⊎ IsAmong end ends

reopens_on : (ends : List End) (w : Scene) (doubts : Doubts) (played : Played) (end : End) → Reopens ends w doubts played → IsAmong end ends → IsThere w end → is_on played.last end ≡ true
reopens_on [] w doubts played end is among there = absurd among
reopens_on (other ∷ ends) w doubts played end (kept, more, keeps, rest, is) (inl same) there =
    let f = closing_fate w (doubt_at doubts other) kept other in
    let on : is_on f.scene other ≡ true = closing_on w (doubt_at doubts other) kept other (subst (IsThere w) same there) in
    subst (λ (p : Played). is_on p.last end ≡ true) (sym is)
    (reopens_keep ends f.scene doubts more rest end (subst (λ e. is_on f.scene e ≡ true) (sym same) on))
reopens_on (other ∷ ends) w doubts played end (kept, more, keeps, rest, is) (inr among) there =
    let f = closing_fate w (doubt_at doubts other) kept other in
    subst (λ (p : Played). is_on p.last end ≡ true) (sym is)
    (reopens_on ends f.scene doubts more end rest among (closing_there w (doubt_at doubts other) kept other end there))

terminal_among : (terminals : List TerminalState) (from place : ℕ) (s : TerminalState) → slice_get terminals place ≡ Some s → IsAmong (Terminal (from + place)) (terminals_from from terminals)
terminal_among [] from place s there = absurd (none-some s there)
terminal_among (t ∷ terminals) from zero s there = inl (ap (λ n. Terminal n) (add-zero from))
terminal_among (t ∷ terminals) from (suc place) s there = inr (subst (λ n. IsAmong (Terminal n) (terminals_from (suc from) terminals)) (move from place) (terminal_among terminals (suc from) place s there))
  where
    move : (from place : ℕ) → suc from + place ≡ from + suc place
    move from place = omega arith

-- the last world has no further terminal
back_set : (terminals : List TerminalState) (i place : ℕ) (new t : TerminalState) → slice_get (slice_set terminals i new) place ≡ Some t → (s : TerminalState) × (slice_get terminals place ≡ Some s)
back_set [] i place new t there = absurd (none-some t there)
back_set (s ∷ terminals) zero zero new t there = (s, refl)
back_set (s ∷ terminals) zero (suc place) new t there = (t, there)
back_set (s ∷ terminals) (suc i) zero new t there = (t, there)
back_set (s ∷ terminals) (suc i) (suc place) new t there = back_set terminals i place new t there

opening_back : (w : Scene) (old : Doubt) (kept place : ℕ) (found : Option TerminalState) → KeepsThere (fate_whole w (terminal_plan found (λ s. plan_of_opening (opens w old false kept place s))).steps Restarted).scene w
opening_back w old kept place None end there = there
opening_back w old kept place (Some s) Host there = tt
opening_back w old kept place (Some s) (Terminal other) (t, there) = back_set w.terminals place other (reopened true kept s) t there

closing_back : (w : Scene) (old : Doubt) (kept : ℕ) (end : End) → KeepsThere (closing_fate w old kept end).scene w
closing_back w old kept end =
    let P : Fate → Type 0 = λ f. KeepsThere f.scene w in
    cond_both (is_on w end) _ _ P (λ _ other there. there) (λ _. opened end)
  where
    opened : (end : End) → KeepsThere (fate_whole w (opening_plan w old kept end).steps Restarted).scene w
    opened Host Host there = tt
    opened Host (Terminal other) there = there
    opened (Terminal place) other there = opening_back w old kept place (slice_get w.terminals place) other there

reopens_back : (ends : List End) (w : Scene) (doubts : Doubts) (played : Played) → Reopens ends w doubts played → KeepsThere played.last w
reopens_back [] w doubts played is = λ other there. subst (λ (p : Played). IsThere p.last other) is there
reopens_back (end ∷ ends) w doubts played (kept, more, keeps, rest, is) = λ other there.
    let f = closing_fate w (doubt_at doubts end) kept end in
    closing_back w (doubt_at doubts end) kept end other
    (reopens_back ends f.scene doubts more rest other (subst (λ (p : Played). IsThere p.last other) is there))

closed : (w : Scene) (doubts : Doubts) (played : Played) → Reopens (ends_of w) w doubts played → AllOn played.last
closed w doubts played does = record {
  host = reopens_on (ends_of w) w doubts played Host does (inl refl) tt;
  terminals = λ place s there.
      let (t, before) = reopens_back (ends_of w) w doubts played does (Terminal place) (s, there) in
      let among : IsAmong (Terminal place) (ends_of w) = inr (subst (λ n. IsAmong (Terminal n) (terminals_from 0 w.terminals)) (zero-add place) (terminal_among w.terminals 0 place t before)) in
      subst (λ o. terminal_is_on o ≡ true) there (reopens_on (ends_of w) w doubts played (Terminal place) does among (t, before));
}

plays_closed : (reads : List ℕ → Received) (lines : List Line) (w : Scene) (doubts : Doubts) (played : Played) → Plays reads lines w doubts played → AllOn played.last
plays_closed reads [] w doubts played does = closed w doubts played does
plays_closed reads (line ∷ lines) w doubts played (created, kept, more, at, keeps, rest, is) =
    subst (λ (p : Played). AllOn p.last) (sym is) (plays_closed reads lines _ _ more rest)

pub ends_on : EveryPlayEndsOn
ends_on reads s played does = plays_closed reads s.lines _ _ played does
