-- The report on the ends is the report on the scene to which they stand.
use Rattle.std.specs.Prelude.{◌≡◌, ℕ, zero, suc, ◌+◌, ◌^◌, ◌≤◌, ◌<◌, Bool, true, false, List, [], ◌∷◌, ◌++◌, length, map, drop, Some, slice_get, Result, Ok, Err, OnOk}
use Rattle.std.proofs.Common.{refl, sym, ◌∙◌, ap, subst, get_or, arith}
use Rattle.std.proofs.lemmas.List.{append_assoc, append-nil, drop_all}
use Rattle.std.proofs.Math.Seq.{drop-cons}
use Rattle.std.proofs.Math.Numerals.{add-one}
use Rattle.cap_base.specs.declared.item.Item.{Item}
use Rattle.cap_disk.specs.declared.memory.MemoryDisk.{MemoryDisk}
use Rattle.cap_journal.specs.File.{Has}
use Rattle.cap_entries.specs.declared.terminal.TermEntry.{TermEntry}
use Rattle.cap_entries.specs.declared.host.HostEntry.{HostEntry}
use Rattle.cap_entries.specs.Settings.{TerminalSettings}
use Rattle.cap_entries.specs.TermRecord.{term_reading}
use Rattle.cap_entries.specs.Items.{items}
use Rattle.cap_entries.specs.Log.{log}
use Rattle.cap_host_lines.specs.Logs.{log_text}
use Rattle.cap_schedule.specs.declared.schedule.Schedule.{Schedule}
use Rattle.cap_world.specs.World.{TerminalState, HostState}
use Rattle.cap_plays.specs.Turns.{Scene}
use Rattle.cap_plays.specs.Plays.{Doubt, Doubts}
use Rattle.cap_plays.specs.Laws.{AllOn, InRange}
use Rattle.cap_plays.specs.Report.{terminal_text, host_text, period_lines, verdict_of, verdict_text, end_text, ends_text}
use Rattle.cap_plays.specs.Session.{ReportsSo}
use Rattle.cap_power.specs.Standing.{Stands}
use Rattle.cap_power.specs.declared.power.Power.{Power}
use Rattle.cap_power.specs.declared.power.Power.TheVariants.{On, Off, Lent}
use Rattle.cap_terminal_side.specs.declared.side.Side.{Side}
use Rattle.cap_host_side.specs.Sides.{HostStands}
use Rattle.cap_network.specs.Ends.{most_calls, EndsStand}
use Rattle.cap_network.specs.Reports.{entries_in, sides_text}

neither : (b : Bool) → false ≡ b → b ≡ true → ⊥
neither b is_not is = cc

-- the parts of the report on one terminal
pub parts_are : (before first second third terminal host periods verdict : List ℕ)
    → first ≡ before ++ terminal → second ≡ first ++ (host ++ periods) → third ≡ second ++ verdict → third ≡ before ++ (((terminal ++ host) ++ periods) ++ verdict)
parts_are before first second third terminal host periods verdict one two three =
    three ∙ ap (λ l. l ++ verdict) (two ∙ ap (λ l. l ++ (host ++ periods)) one ∙ append_assoc before terminal (host ++ periods))
    ∙ append_assoc before (terminal ++ (host ++ periods)) verdict
    ∙ ap (λ l. before ++ (l ++ verdict)) (sym (append_assoc terminal host periods))

pub on_ok : {V E P Q : Type 0} (r : Result V E) → (P → Q) → OnOk r P → OnOk r Q
on_ok (Ok value) f p = f p
on_ok (Err error) f p = tt

module _ {T : Type 0} (term_entries : T → List TermEntry) (power : Side → Power T) where
  -- the report on one terminal that is on, by its parts
  pub end_is : (end : T) (this : Power T) (id : List ℕ) (taken : List Item) (before first second third : List ℕ) (count len : ℕ)
      → this ≡ On end → first ≡ before ++ terminal_text id (term_entries end) → second ≡ first ++ log_text id taken → third ≡ second ++ verdict_of id count len
      → count ≡ length (items (term_entries end)) → len ≡ length taken → third ≡ before ++ end_text id (entries_in term_entries power this) taken
  end_is end this id taken before first second third count len is one two three count_is len_is =
      let counted : third ≡ second ++ verdict_text id (term_entries end) taken =
      three ∙ ap (λ n. second ++ verdict_of id n len) count_is ∙ ap (λ n. second ++ verdict_of id (length (items (term_entries end))) n) len_is in
      subst (λ (p : Power T). third ≡ before ++ end_text id (entries_in term_entries power p) taken) (sym is)
      (parts_are before first second third (terminal_text id (term_entries end)) (host_text id taken) (period_lines id taken taken) (verdict_text id (term_entries end) taken) one two counted)

  -- one terminal more: what was put so far, and what is left
  pub one_more : (taken : List HostEntry) (place : ℕ) (ids : List (List ℕ)) (sides : List Side) (id : List ℕ) (side : Side) (text : List ℕ)
      → place < length ids → place < length sides → id ≡ get_or ids place id → side ≡ get_or sides place side
      → text ++ sides_text term_entries power taken place (drop place ids) (drop place sides)
      ≡ (text ++ end_text id (entries_in term_entries power (power side)) (log taken place)) ++ sides_text term_entries power taken (place + 1) (drop (place + 1) ids) (drop (place + 1) sides)
  one_more taken place ids sides id side text in_ids in_sides is_id is_side =
      let this = end_text id (entries_in term_entries power (power side)) (log taken place) in
      let ids_are : drop place ids ≡ id ∷ drop (suc place) ids = drop-cons ids place id in_ids ∙ ap (λ x. x ∷ drop (suc place) ids) (sym is_id) in
      let sides_are : drop place sides ≡ side ∷ drop (suc place) sides = drop-cons sides place side in_sides ∙ ap (λ (x : Side). x ∷ drop (suc place) sides) (sym is_side) in
      ap (λ l. text ++ sides_text term_entries power taken place l (drop place sides)) ids_are
      ∙ ap (λ l. text ++ sides_text term_entries power taken place (id ∷ drop (suc place) ids) l) sides_are
      ∙ sym (append_assoc text this (sides_text term_entries power taken (suc place) (drop (suc place) ids) (drop (suc place) sides)))
      ∙ ap (λ n. (text ++ this) ++ sides_text term_entries power taken n (drop n ids) (drop n sides)) (sym (add-one place))

  -- nothing is left
  pub no_names : (taken : List HostEntry) (place : ℕ) (sides : List Side) → sides_text term_entries power taken place [] sides ≡ []
  no_names taken place sides = refl

  pub no_sides : (taken : List HostEntry) (place : ℕ) (ids : List (List ℕ)) → sides_text term_entries power taken place ids [] ≡ []
  no_sides taken place [] = refl
  no_sides taken place (id ∷ ids) = refl

  -- nothing is left where one of the lists has ended
  nothing_left : (taken : List HostEntry) (place : ℕ) (ids : List (List ℕ)) (sides : List Side) → ids ≡ [] → sides_text term_entries power taken place ids sides ≡ []
  nothing_left taken place ids sides none = ap (λ l. sides_text term_entries power taken place l sides) none

  nobody_left : (taken : List HostEntry) (place : ℕ) (ids : List (List ℕ)) (sides : List Side) → sides ≡ [] → sides_text term_entries power taken place ids sides ≡ []
  nobody_left taken place ids sides none = ap (λ (l : List Side). sides_text term_entries power taken place ids l) none ∙ no_sides taken place ids

  -- an end that stands to a state that is on has its entries
  entries_on : (disk : T → MemoryDisk) (end : Power T) (s : TerminalState) (doubt : Doubt) → Stands (Has term_reading) term_entries disk end s.settled s.tried s.on doubt → s.on ≡ true
      → entries_in term_entries power end ≡ s.settled
  entries_on disk (On end) s doubt stands on = stands.entries_are refl
  entries_on disk (Off left) s doubt stands on = absurd (neither s.on stands.on_is on)
  entries_on disk Lent s doubt stands on = absurd stands

  -- each of these sides stands to the state at its place, which is on
  pub record StandTo (sides : List Side) (states : List TerminalState) : Type 0 where
    pub same : length sides ≡ length states
    pub each : (place : ℕ) (side : Side) (s : TerminalState) → slice_get sides place ≡ Some side → slice_get states place ≡ Some s → entries_in term_entries power (power side) ≡ s.settled

  rest_stand : (side : Side) (sides : List Side) (s : TerminalState) (states : List TerminalState) → StandTo (side ∷ sides) (s ∷ states) → StandTo sides states
  rest_stand side sides s states stand = record { same = omega (arith, stand.same); each = λ place other t at there. stand.each (suc place) other t at there }

  -- so the report on them is the report on the scene
  pub same_report : (w : Scene) (place : ℕ) (settings : List TerminalSettings) (sides : List Side) (states : List TerminalState) → StandTo sides states
      → sides_text term_entries power w.host.settled place (map (λ (t : TerminalSettings). t.terminal) settings) sides ≡ ends_text w place settings states
  same_report w place [] sides states stand = refl
  same_report w place (t ∷ settings) [] [] stand = refl
  same_report w place (t ∷ settings) [] (s ∷ states) stand = absurd (none_of stand.same)
    where
      none_of : zero ≡ suc (length states) → ⊥
      none_of e = cc
  same_report w place (t ∷ settings) (side ∷ sides) [] stand = absurd (some_of stand.same)
    where
      some_of : suc (length sides) ≡ zero → ⊥
      some_of e = cc
  same_report w place (t ∷ settings) (side ∷ sides) (s ∷ states) stand =
      ap (λ l. end_text t.terminal l (log w.host.settled place) ++ sides_text term_entries power w.host.settled (suc place) (map (λ (u : TerminalSettings). u.terminal) settings) sides) (stand.each 0 side s refl refl)
      ∙ ap (λ l. end_text t.terminal s.settled (log w.host.settled place) ++ l) (same_report w (suc place) settings sides states (rest_stand side sides s states stand))

module _ {T H : Type 0} (term_entries : T → List TermEntry) (term_disk : T → MemoryDisk) (term_failed : T → Bool)
    (host_entries : H → List HostEntry) (host_disk : H → MemoryDisk) (host_failed : H → Bool) (power : Side → Power T) where
  abbrev OfHost : (most : ℕ) → Power H → HostState → Doubt → Type 0
  OfHost most host s doubt = HostStands host_entries host_disk host_failed most host s doubt

  abbrev Stand : ℕ → Power H → List Side → Scene → Doubts → Type 0
  Stand lines host sides w doubts = EndsStand term_entries term_disk term_failed host_entries host_disk host_failed power lines host sides w doubts

  -- the report on the terminals before this place was put, and on all of them
  abbrev pub PutTo : (ids : List (List ℕ)) → List Side → (host new : Power H) → (before text : List ℕ) → (place : ℕ) → Type 0
  PutTo ids sides host new before text place =
      (most : ℕ) (s : HostState) (doubt : Doubt) → most + 4 < 2 ^ 64 → OfHost most host s doubt → s.on ≡ true
      → OfHost most new s doubt
      × (before ++ sides_text term_entries power s.settled 0 ids sides ≡ text ++ sides_text term_entries power s.settled place (drop place ids) (drop place sides))

  abbrev pub PutAll : (ids : List (List ℕ)) → List Side → (host new : Power H) → (before text : List ℕ) → Type 0
  PutAll ids sides host new before text =
      (most : ℕ) (s : HostState) (doubt : Doubt) → most + 4 < 2 ^ 64 → OfHost most host s doubt → s.on ≡ true
      → OfHost most new s doubt × (text ≡ before ++ sides_text term_entries power s.settled 0 ids sides)

  module _ (ids : List (List ℕ)) (sides : List Side) (host now : Power H) (before text : List ℕ) (place : ℕ) where
    pub put_more : (new : Power H) (after : List ℕ) (id : List ℕ) (side : Side) → place < length ids → place < length sides → id ≡ get_or ids place id → side ≡ get_or sides place side
        → ((most : ℕ) (s : HostState) (doubt : Doubt) → most + 4 < 2 ^ 64 → OfHost most now s doubt → s.on ≡ true
        → OfHost most new s doubt × (after ≡ text ++ end_text id (entries_in term_entries power (power side)) (log s.settled place)))
        → PutTo ids sides host now before text place → PutTo ids sides host new before after (place + 1)
    put_more new after id side in_ids in_sides id_is side_is says so_far = λ most s doubt small stands on.
        let (stood, so) = so_far most s doubt small stands on in
        let (still, put) = says most s doubt small stood on in (
          still,
          so ∙ one_more term_entries power s.settled place ids sides id side text in_ids in_sides id_is side_is
              ∙ ap (λ t. t ++ sides_text term_entries power s.settled (place + 1) (drop (place + 1) ids) (drop (place + 1) sides)) (sym put),
        )

    put_over : ((taken : List HostEntry) → sides_text term_entries power taken place (drop place ids) (drop place sides) ≡ [])
        → PutTo ids sides host now before text place → PutAll ids sides host now before text
    put_over none so_far = λ most s doubt small stands on.
        let (stood, so) = so_far most s doubt small stands on in
        (stood, sym (so ∙ ap (λ l. text ++ l) (none s.settled) ∙ append-nil text))

    pub no_more_names : length ids ≤ place → PutTo ids sides host now before text place → PutAll ids sides host now before text
    no_more_names past so_far = put_over (λ taken. nothing_left term_entries power taken place (drop place ids) (drop place sides) (drop_all place ids past)) so_far

    pub no_more_sides : length sides ≤ place → PutTo ids sides host now before text place → PutAll ids sides host now before text
    no_more_sides past so_far = put_over (λ taken. nobody_left term_entries power taken place (drop place ids) (drop place sides) (drop_all place sides past)) so_far

  ends_stand : (lines : ℕ) (host : Power H) (sides : List Side) (w : Scene) (doubts : Doubts) → Stand lines host sides w doubts → AllOn w → StandTo term_entries power sides w.terminals
  ends_stand lines host sides w doubts stands on = record {
    same = stands.same;
    each = λ place side s at there. entries_on term_entries power term_disk (power side) s _ (stands.each place side s at there).stands (on.terminals place s there);
  }

  -- so the report on the scene was put
  pub reports_so : (lines : ℕ) (host new : Power H) (sides : List Side) (sched : Schedule) (ids : List (List ℕ)) (before after : List ℕ)
      → lines ≤ 2 ^ 48 → InRange sched → ids ≡ sched.host.terminals → PutAll ids sides host new before after
      → ReportsSo (Stand lines host sides) (Stand lines new sides) sched before after
  reports_so lines host new sides sched ids before after few range ids_are put = λ w doubts reached on stands.
      let small : most_calls lines + 4 < 2 ^ 64 = omega (arith, few) in
      let (still, text) = put (most_calls lines) w.host doubts.host small stands.host_is on.host in
      let names : ids ≡ map (λ (t : TerminalSettings). t.terminal) sched.terminals = ids_are ∙ range.set_ups.names in (
        record { host_is = still; same = stands.same; same_counted = stands.same_counted; same_doubts = stands.same_doubts; each = stands.each },
        text
            ∙ ap (λ l. before ++ l)
            (ap (λ l. sides_text term_entries power w.host.settled 0 l sides) names ∙ same_report term_entries power w 0 sched.terminals sides w.terminals (ends_stand lines host sides w doubts stands on)),
      )

  -- by what the call answers
  pub reports_by : {V E : Type 0} (r : Result V E) (lines : ℕ) (host new : Power H) (sides shown : List Side) (sched : Schedule) (ids : List (List ℕ)) (before after : List ℕ)
      → lines ≤ 2 ^ 48 → InRange sched → ids ≡ sched.host.terminals → shown ≡ sides
      → ((most : ℕ) (s : HostState) (doubt : Doubt) → most + 4 < 2 ^ 64 → OfHost most host s doubt → s.on ≡ true
      → OnOk r (OfHost most new s doubt × (after ≡ before ++ sides_text term_entries power s.settled 0 ids shown)))
      → OnOk r (ReportsSo (Stand lines host sides) (Stand lines new sides) sched before after)
  reports_by (Ok value) lines host new sides shown sched ids before after few range ids_are same put =
      reports_so lines host new sides sched ids before after few range ids_are (subst (λ (l : List Side). PutAll ids l host new before after) same put)
  reports_by (Err error) lines host new sides shown sched ids before after few range ids_are same put = tt
