-- A line that opens a terminal again, and the opening at a schedule's end, are what they make of that terminal.
use Rattle.std.proofs.Common.{◌≡◌, ℕ, Bool, true, false, List, Option, Some, None, refl, sym, ◌∙◌, ap, subst, inl}
use Rattle.std.specs.Prelude.{slice_get, slice_set, nat_le, ◌==◌, if◌then◌else◌}
use Rattle.std.proofs.lemmas.Bool.{cond-true, cond-false}
use Rattle.std.proofs.lemmas.Option.{same_Some, none-some}
use Rattle.cap_leaf.specs.Date.{DateParts}
use Rattle.cap_msgs.specs.Received.{Received}
use Rattle.cap_msgs.specs.Moment.{IsMoment}
use Rattle.cap_schedule.specs.declared.outcome.Outcome.{Outcome}
use Rattle.cap_schedule.specs.declared.outcome.Outcome.TheVariants.{Restarted, DiskFailed}
use Rattle.cap_schedule.specs.declared.schedule.End.TheVariants.{Terminal}
use Rattle.cap_schedule.specs.declared.schedule.Prefix.{Prefix}
use Rattle.cap_schedule.specs.declared.schedule.Prefix.TheVariants.{Cut, Fail, CutAfter}
use Rattle.cap_schedule.specs.declared.schedule.Action.TheVariants.{Reopen}
use Rattle.cap_schedule.specs.declared.schedule.Line.{Line}
use Rattle.cap_world.specs.World.{TerminalState, HostState}
use Rattle.cap_plays.specs.Turns.{Scene, counted_at}
use Rattle.cap_plays.specs.Plays.{Doubt, MayKeep, opens, plan_of_opening, terminal_plan, fails_first, no_doubt, reopened, left_off, moment_of, is_on, terminal_is_on, Fate, fate, closing_fate, fate_of, fate_whole, fate_broken, with_terminal, Doubts, doubt_at, with_doubt}
use Rattle.cap_plays.specs.Corresponds.{end_opening, NetworkCorresponds}
use Rattle.cap_plays.specs.Session.{Acted, Reopened}
use Rattle.cap_plays.specs.Ends.{SameFate, same_either, terminal_changes, doubts_as_they_are}

failed_opening : (w : Scene) (old : Doubt) (kept place : ℕ) (s : TerminalState) (first : Bool)
    → SameFate w place (fate_broken (opens w old first kept place s) (opens w old first kept place s).doubt DiskFailed)
    (if first then record { state = left_off s; doubt = old; outcome = DiskFailed } else record { state = reopened false kept s; doubt = no_doubt 0; outcome = DiskFailed })
failed_opening w old kept place s true = record { scene = refl; doubt = refl; outcome = refl }
failed_opening w old kept place s false = record { scene = refl; doubt = refl; outcome = refl }

opening_fate : (prefix : Option Prefix) (w : Scene) (old : Doubt) (kept place : ℕ) (s : TerminalState)
    → SameFate w place (fate_of prefix w (Terminal place) (plan_of_opening (opens w old (fails_first prefix) kept place s))) (end_opening prefix old kept s)
opening_fate None w old kept place s = record { scene = refl; doubt = refl; outcome = refl }
opening_fate (Some (Cut call fill)) w old kept place s =
    same_either w place (nat_le call 2) _ _ _ _ (record { scene = refl; doubt = refl; outcome = refl }) (record { scene = refl; doubt = refl; outcome = refl })
opening_fate (Some (Fail call fill)) w old kept place s =
    same_either w place (nat_le call 2) _ _ _ _ (failed_opening w old kept place s (call == 1)) (record { scene = refl; doubt = refl; outcome = refl })
opening_fate (Some CutAfter) w old kept place s = record { scene = refl; doubt = refl; outcome = refl }

found_fate : (prefix : Option Prefix) (w : Scene) (old : Doubt) (kept place : ℕ) (s : TerminalState) (found : Option TerminalState) → found ≡ Some s
    → SameFate w place (fate_of prefix w (Terminal place) (terminal_plan found (λ t. plan_of_opening (opens w old (fails_first prefix) kept place t)))) (end_opening prefix old kept s)
found_fate prefix w old kept place s None is = absurd (none-some s is)
found_fate prefix w old kept place s (Some t) is =
    subst (λ (u : TerminalState). SameFate w place (fate_of prefix w (Terminal place) (plan_of_opening (opens w old (fails_first prefix) kept place u))) (end_opening prefix old kept s)) (sym (same_Some _ _ is)) (opening_fate prefix w old kept place s)

-- the line that opens a terminal again
abbrev pub opening_line : (number place : ℕ) → Option Prefix → Line
opening_line number place prefix = record { number = number; prefix = prefix; action = Reopen (Terminal place) }

module _ {T H : Type 0} (of_terminal : T → TerminalState → List ℕ → Doubt → Type 0) (of_host : H → HostState → Doubt → Type 0) where
  abbrev Stands : H → List T → Scene → Doubts → Type 0
  Stands host terminals w doubts = NetworkCorresponds of_terminal of_host host terminals w doubts

  -- it was done, if the terminal now stands to its fate
  pub terminal_reopened : (reads : List ℕ → Received) (host : H) (terminals : List T) (w : Scene) (doubts : Doubts) (number place kept : ℕ) (created : DateParts) (prefix : Option Prefix) (t : T) (s : TerminalState) (outcome : Outcome)
      → Stands host terminals w doubts → slice_get w.terminals place ≡ Some s → IsMoment (moment_of number) created → MayKeep (doubt_at doubts (Terminal place)) kept
      → of_terminal t (end_opening prefix (doubt_at doubts (Terminal place)) kept s).state (counted_at w.counted place) (end_opening prefix (doubt_at doubts (Terminal place)) kept s).doubt
      → outcome ≡ (end_opening prefix (doubt_at doubts (Terminal place)) kept s).outcome
      → Acted reads (Stands host (slice_set terminals place t)) w doubts (opening_line number place prefix) outcome
  terminal_reopened reads host terminals w doubts number place kept created prefix t s outcome stands there at keeps is said =
      let old = doubt_at doubts (Terminal place) in
      let line = opening_line number place prefix in
      let end = end_opening prefix old kept s in
      let same : SameFate w place (fate reads w old kept created line) end = found_fate prefix w old kept place s (slice_get w.terminals place) there in
      let changed = terminal_changes of_terminal of_host host terminals w doubts place t s end.state end.doubt stands there is in (
        created,
        kept,
        at,
        keeps,
        (
          subst (λ v. Stands host (slice_set terminals place t) v (with_doubt doubts (Terminal place) (fate reads w old kept created line).doubt)) (sym same.scene)
              (subst (λ d. Stands host (slice_set terminals place t) (with_terminal w place end.state) (with_doubt doubts (Terminal place) d)) (sym same.doubt) changed),
          said ∙ sym same.outcome,
        ),
      )

  -- at a schedule's end a terminal that is off was opened again, if it now stands to what it kept
  pub terminal_closed : (host : H) (terminals : List T) (w : Scene) (doubts : Doubts) (place kept : ℕ) (t : T) (s : TerminalState)
      → Stands host terminals w doubts → slice_get w.terminals place ≡ Some s → s.on ≡ false → MayKeep (doubt_at doubts (Terminal place)) kept
      → of_terminal t (reopened true kept s) (counted_at w.counted place) (doubt_at doubts (Terminal place))
      → Reopened (Stands host (slice_set terminals place t)) w doubts (Terminal place)
  terminal_closed host terminals w doubts place kept t s stands there off keeps is =
      let old = doubt_at doubts (Terminal place) in
      let same : SameFate w place (fate_of None w (Terminal place) (terminal_plan (slice_get w.terminals place) (λ u. plan_of_opening (opens w old false kept place u)))) (end_opening None old kept s) = found_fate None w old kept place s (slice_get w.terminals place) there in
      let changed = terminal_changes of_terminal of_host host terminals w doubts place t s (reopened true kept s) old stands there is in
      let is_off : is_on w (Terminal place) ≡ false = subst (λ o. terminal_is_on o ≡ false) (sym there) off in
      let as_said : closing_fate w old kept (Terminal place) ≡ fate_whole w (terminal_plan (slice_get w.terminals place) (λ u. plan_of_opening (opens w old false kept place u))).steps Restarted = cond-false (is_on w (Terminal place)) _ _ is_off in
      let outcome_is : fate_whole w (terminal_plan (slice_get w.terminals place) (λ u. plan_of_opening (opens w old false kept place u))).steps Restarted
      ≡ fate_of None w (Terminal place) (terminal_plan (slice_get w.terminals place) (λ u. plan_of_opening (opens w old false kept place u))) = steps_only (slice_get w.terminals place) there in (
        kept,
        keeps,
        subst (λ d. Stands host (slice_set terminals place t) (closing_fate w old kept (Terminal place)).scene d) (ap (λ (l : List Doubt). let d : Doubts = record { host = doubts.host; terminals = l } in d) (doubts_as_they_are doubts.terminals place))
            (subst (λ v. Stands host (slice_set terminals place t) v (with_doubt doubts (Terminal place) old)) (sym (ap (λ (f : Fate). f.scene) (as_said ∙ outcome_is) ∙ same.scene)) changed),
      )
    where
      steps_only : (found : Option TerminalState) → found ≡ Some s
          → fate_whole w (terminal_plan found (λ u. plan_of_opening (opens w (doubt_at doubts (Terminal place)) false kept place u))).steps Restarted
          ≡ fate_of None w (Terminal place) (terminal_plan found (λ u. plan_of_opening (opens w (doubt_at doubts (Terminal place)) false kept place u)))
      steps_only None there = absurd (none-some s there)
      steps_only (Some u) there = refl

  -- one that is on stays so
  pub terminal_stays : (host : H) (terminals : List T) (w : Scene) (doubts : Doubts) (place : ℕ) (s : TerminalState)
      → Stands host terminals w doubts → slice_get w.terminals place ≡ Some s → s.on ≡ true → Reopened (Stands host terminals) w doubts (Terminal place)
  terminal_stays host terminals w doubts place s stands there on =
      let old = doubt_at doubts (Terminal place) in
      let is_on_there : is_on w (Terminal place) ≡ true = subst (λ o. terminal_is_on o ≡ true) (sym there) on in
      (old.least, inl refl, subst (λ (f : Fate). Stands host terminals f.scene doubts) (sym (cond-true (is_on w (Terminal place)) _ _ is_on_there)) stands)
