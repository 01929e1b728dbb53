-- One line more, and one end more.
use Rattle.std.proofs.Common.{◌≡◌, ℕ, zero, suc, ◌+◌, ◌≤◌, ◌<◌, List, [], ◌∷◌, ◌++◌, length, drop, refl, sym, ◌∙◌, ap, subst, get_or, arith}
use Rattle.std.specs.List.{AllByRecursion}
use Rattle.std.proofs.lemmas.List.{append_assoc, append-nil}
use Rattle.std.proofs.Math.Seq.{drop-cons}
use Rattle.std.proofs.Math.ListN.{drop_of_length-le}
use Rattle.std.proofs.Math.Numerals.{add-one}
use Rattle.cap_leaf.specs.Date.{DateParts}
use Rattle.cap_msgs.specs.Received.{Received}
use Rattle.cap_msgs.specs.Moment.{IsMoment}
use Rattle.cap_schedule.specs.declared.outcome.Outcome.{Outcome}
use Rattle.cap_schedule.specs.declared.schedule.End.TheVariants.{Host, Terminal}
use Rattle.cap_schedule.specs.declared.schedule.Line.{Line}
use Rattle.cap_schedule.specs.declared.schedule.Schedule.{Schedule}
use Rattle.cap_schedule.specs.Outcomes.{outcome_line, outcome_lines}
use Rattle.cap_world.specs.World.{TerminalState}
use Rattle.cap_entries.specs.Items.{items}
use Rattle.cap_entries.specs.Log.{log}
use Rattle.cap_entries.specs.Fronts.{prefix_whole}
use Rattle.cap_plays.specs.Turns.{Scene, world_of}
use Rattle.cap_plays.specs.Plays.{Doubts, doubt_at, with_doubt, MayKeep, acting, moment_of, fate, closing_fate, nothing_played, play_behind, silently_behind, Reopens, terminals_from, first_scene, first_doubts}
use Rattle.cap_plays.specs.Report.{ends_text}
use Rattle.cap_schedule.specs.Reader.{IsReader}
use Rattle.cap_schedule.specs.Nobodys.{IsNoise, NoiseIsNobodys}
use Rattle.cap_schedule.specs.Ranges.{ActionInRange}
use Rattle.cap_plays.specs.Laws.{AllOn, EndsAgree, VerdictsHold, InRange, EveryPlayAgrees, EveryPlayEndsOn}
use Rattle.cap_plays.specs.Session.{ActsSo, ReopensSo, Continues, Closes, ActedAll, ReopenedAll, ReopenedTo, ReportsSo, IsPlayed}
use Rattle.cap_plays.proofs.Chains.{fate_runs, closing_runs, reached_by, does_run}

continues_step : (reads : List ℕ → Received) (s : Schedule) (line : Line) (lines : List Line) (w : Scene) (doubts : Doubts) (before text : List ℕ) (created : DateParts) (kept : ℕ) (outcome : Outcome)
    → Continues reads s (line ∷ lines) w doubts before text → IsMoment (moment_of line.number) created → MayKeep (doubt_at doubts (acting line.action)) kept
    → outcome ≡ (fate reads w (doubt_at doubts (acting line.action)) kept created line).outcome
    → Continues reads s lines (fate reads w (doubt_at doubts (acting line.action)) kept created line).scene
    (with_doubt doubts (acting line.action) (fate reads w (doubt_at doubts (acting line.action)) kept created line).doubt) before
    (text ++ outcome_line line.number outcome)
continues_step reads s line lines w doubts before text created kept outcome continues at keeps is = λ rest p.
    let f = fate reads w (doubt_at doubts (acting line.action)) kept created line in
    let so_far = continues (play_behind f rest) (created, kept, rest, at, keeps, p, refl) in (
      so_far.0,
      so_far.1,
      so_far.2,
      so_far.3 ∙ sym (append_assoc text (outcome_line line.number f.outcome) (outcome_lines lines rest.outcomes))
          ∙ ap (λ (o : Outcome). text ++ outcome_line line.number o ++ outcome_lines lines rest.outcomes) (sym is),
    )

-- the lines from one on
drop_line : (lines : List Line) (i : ℕ) (line : Line) → i < length lines → line ≡ get_or lines i line → drop i lines ≡ line ∷ drop (i + 1) lines
drop_line lines i line lt is = drop-cons lines i line lt ∙ ap (λ (l : Line). l ∷ drop (suc i) lines) (sym is) ∙ ap (λ n. line ∷ drop n lines) (sym (add-one i))

-- a line among them
pub line_at : (P : Line → Type 0) (lines : List Line) (i : ℕ) (line : Line) → i < length lines → line ≡ get_or lines i line → AllByRecursion P lines → P line
line_at P [] i line lt is all = absurd (no_less lt)
  where
    no_less : i < 0 → ⊥
    no_less lt = omega (arith, lt)
line_at P (first ∷ lines) zero line lt is all = subst P (sym is) all.0
line_at P (first ∷ lines) (suc i) line lt is all = line_at P lines i line (omega (arith, lt)) is all.1

-- before the first line
pub acted_none : (corresponds : Scene → Doubts → Type 0) (s : Schedule) (text : List ℕ) → corresponds (first_scene s) (first_doubts s) → ActedAll corresponds s s.lines text text
acted_none corresponds s text stands = λ reads is_reader noise. record {
  scene = first_scene s;
  doubts = first_doubts s;
  reached = ([], refl);
  stands = stands;
  goes_on = λ rest does. (rest, does, refl, refl);
}

pub acted_more : (old new : Scene → Doubts → Type 0) (s : Schedule) (i : ℕ) (line : Line) (before text : List ℕ) (outcome : Outcome)
    → InRange s → i < length s.lines → line ≡ get_or s.lines i line → ActedAll old s (drop i s.lines) before text → ActsSo old new line outcome
    → ActedAll new s (drop (i + 1) s.lines) before (text ++ outcome_line line.number outcome)
acted_more old new s i line before text outcome range lt is acted acts = λ reads is_reader noise.
    let so_far = acted reads is_reader noise in
    let in_range : ActionInRange line.action = line_at (λ (l : Line). ActionInRange l.action) s.lines i line lt is range.lines in
    let is_noise : IsNoise reads s line.action = line_at (λ (l : Line). IsNoise reads s l.action) s.lines i line lt is noise in
    let (created, kept, at, keeps, fated) = acts reads s so_far.scene so_far.doubts is_reader range so_far.reached is_noise so_far.stands in
    let old_doubt = doubt_at so_far.doubts (acting line.action) in
    let f = fate reads so_far.scene old_doubt kept created line in
    let goes_on = subst (λ l. Continues reads s l so_far.scene so_far.doubts before text) (drop_line s.lines i line lt is) so_far.goes_on in
    record {
      scene = f.scene;
      doubts = with_doubt so_far.doubts (acting line.action) f.doubt;
      reached = reached_by s so_far.scene f so_far.reached (fate_runs reads s so_far.scene old_doubt kept created line range so_far.reached in_range is_noise at);
      stands = fated.0;
      goes_on = continues_step reads s line (drop (i + 1) s.lines) so_far.scene so_far.doubts before text created kept outcome goes_on at keeps fated.1;
    }

pub acted_last : (corresponds : Scene → Doubts → Type 0) (s : Schedule) (i : ℕ) (before text : List ℕ) → length s.lines ≤ i → ActedAll corresponds s (drop i s.lines) before text → ActedAll corresponds s [] before text
acted_last corresponds s i before text past acted = subst (λ l. ActedAll corresponds s l before text) (drop_of_length-le s.lines past) acted

-- the host first
pub reopened_host : (old new : Scene → Doubts → Type 0) → ReopensSo old new Host → ReopenedTo old new 0
reopened_host old new reopens = λ s v doubts range reached stands.
    let (kept, keeps, after) = reopens s v doubts range reached stands in
    let f = closing_fate v (doubt_at doubts Host) kept Host in (
      f.scene,
      reached_by s v f reached (closing_runs v (doubt_at doubts Host) kept Host),
      after,
      λ rest p. (silently_behind f rest, (kept, rest, keeps, p, refl), refl, refl),
    )

-- a list from a place on
split_at : (terminals : List TerminalState) (place : ℕ) → place < length terminals → (s : TerminalState) × (drop place terminals ≡ s ∷ drop (suc place) terminals)
split_at [] place lt = absurd (no_less lt)
  where
    no_less : place < 0 → ⊥
    no_less lt = omega (arith, lt)
split_at (s ∷ terminals) zero lt = (s, refl)
split_at (s ∷ terminals) (suc place) lt = split_at terminals place (omega (arith, lt))

closes_more : (v : Scene) (doubts : Doubts) (place : ℕ) (w : Scene) (kept : ℕ) → place < length v.terminals → Closes v doubts place w → MayKeep (doubt_at doubts (Terminal place)) kept
    → Closes v doubts (place + 1) (closing_fate w (doubt_at doubts (Terminal place)) kept (Terminal place)).scene
closes_more v doubts place w kept lt closes keeps = λ rest p.
    let f = closing_fate w (doubt_at doubts (Terminal place)) kept (Terminal place) in
    let split = split_at v.terminals place lt in
    let q : Reopens (terminals_from (suc place) (drop (suc place) v.terminals)) f.scene doubts rest = subst (λ n. Reopens (terminals_from n (drop n v.terminals)) f.scene doubts rest) (add-one place) p in
    closes (silently_behind f rest) (subst (λ l. Reopens (terminals_from place l) w doubts (silently_behind f rest)) (sym split.1) (kept, rest, keeps, q, refl))

-- how many terminals there are, in each scene to which it stands
abbrev pub HasTerminals : (corresponds : Scene → Doubts → Type 0) → ℕ → Type 0
HasTerminals corresponds count = (w : Scene) (doubts : Doubts) → corresponds w doubts → count ≡ length w.terminals

pub reopened_more : (first old new : Scene → Doubts → Type 0) (place count : ℕ) → HasTerminals first count → place < count → ReopenedTo first old place → ReopensSo old new (Terminal place) → ReopenedTo first new (place + 1)
reopened_more first old new place count has lt so_far reopens = λ s v doubts range reached stands.
    let (w, reached_w, stands_w, closes) = so_far s v doubts range reached stands in
    let (kept, keeps, after) = reopens s w doubts range reached_w stands_w in
    let f = closing_fate w (doubt_at doubts (Terminal place)) kept (Terminal place) in (
      f.scene,
      reached_by s w f reached_w (closing_runs w (doubt_at doubts (Terminal place)) kept (Terminal place)),
      after,
      closes_more v doubts place w kept (subst (λ n. place < n) (has v doubts stands) lt) closes keeps,
    )

pub reopened_last : (first old : Scene → Doubts → Type 0) (place count : ℕ) → HasTerminals first count → count ≤ place → ReopenedTo first old place → ReopenedAll first old
reopened_last first old place count has past so_far = λ s v doubts range reached stands.
    let (w, reached_w, stands_w, closes) = so_far s v doubts range reached stands in
    let none : drop place v.terminals ≡ [] = drop_of_length-le v.terminals (subst (λ n. n ≤ place) (has v doubts stands) past) in
    let all = closes (nothing_played w) (subst (λ l. Reopens (terminals_from place l) w doubts (nothing_played w)) (sym none) refl) in
    (all.0, all.1, all.3, subst (λ u. old u doubts) (sym all.2) stands_w)

-- a log that is as long as the items of which it is a front is all of them
verdicts_hold : (w : Scene) → EndsAgree (world_of w) → VerdictsHold w
verdicts_hold w agree place s at le =
    prefix_whole (log w.host.settled place) (items s.settled) (agree place s at s.settled (0, sym (append-nil s.settled)) w.host.settled (0, sym (append-nil w.host.settled))).front le

-- the whole text
pub played_all : (corresponds after reported : Scene → Doubts → Type 0) (s : Schedule) (text whole : List ℕ) → InRange s → ActedAll corresponds s [] [] text → ReopenedAll corresponds after
    → ReportsSo after reported s text whole → EveryPlayAgrees → EveryPlayEndsOn
    → (reads : List ℕ → Received) → IsReader reads → NoiseIsNobodys reads s → IsPlayed reads reported s whole
played_all corresponds after reported s text whole range acted reopened reports agrees ends_on = λ reads is_reader noise.
    let so_far = acted reads is_reader noise in
    let (rest, closes, none, after_stands) = reopened s so_far.scene so_far.doubts range so_far.reached so_far.stands in
    let (played, does, last, lines) = so_far.goes_on rest closes in
    let at_last : after played.last so_far.doubts = subst (λ u. after u so_far.doubts) (sym last) after_stands in
    let all_on : AllOn played.last = ends_on reads s played does in
    let steps = does_run reads s played range noise does in
    let agree = agrees reads s played range noise does in
    let e : outcome_lines s.lines played.outcomes ≡ text = lines ∙ append-nil text in
    let at_end = reports played.last so_far.doubts (played.happenings, steps) all_on at_last in
    record {
      played = played;
      doubts = so_far.doubts;
      run = record {
        set_ups = range.set_ups;
        does = does;
        steps = steps;
        agrees = agree;
        verdicts = verdicts_hold played.last agree;
        all_on = all_on;
      };
      stands = at_end.0;
      reports = at_end.1 ∙ ap (λ l. l ++ ends_text played.last 0 s.terminals played.last.terminals) (sym e);
    }
