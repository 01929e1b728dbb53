-- Each journal begins with its end's set-up in every scene of a schedule, so that noise of nobody's is foreign to each end.
use Rattle.std.proofs.Common.{◌≡◌, ◌⊎◌, ℕ, zero, suc, Bool, true, false, List, [], ◌∷◌, ◌++◌, map, take, Option, Some, None, refl, sym, ◌∙◌, ap, subst, inl, inr, append-nil}
use Rattle.std.specs.Prelude.{slice_get, slice_set, bytes_eq, option_map, if◌then◌else◌}
use Rattle.std.specs.List.{AllByRecursion}
use Rattle.std.proofs.lemmas.Bool.{and_parts, cond_both, cond-false, false≢true}
use Rattle.std.proofs.lemmas.Option.{same_Some, none-some, slice_get-map}
use Rattle.std.proofs.lemmas.Slice.Eq.{bytes_eq-Decides}
use Rattle.cap_msgs.specs.declared.message.Message.{Message}
use Rattle.cap_msgs.specs.Received.{Received, Read, Unread}
use Rattle.cap_entries.specs.Settings.{TerminalSettings}
use Rattle.cap_entries.specs.declared.terminal.TermEntry.{TermEntry}
use Rattle.cap_entries.specs.declared.terminal.TermEntry.TheVariants.{Setup}
use Rattle.cap_entries.specs.declared.host.HostEntry.{HostEntry}
use Rattle.cap_entries.specs.declared.host.HostEntry.TheVariants.{Setup as Host_setup}
use Rattle.cap_terminal_answers.specs.Takes.{Taken, takes, is_for_us, IsNotOurs}
use Rattle.cap_entries.specs.Log.{setup_of}
use Rattle.cap_host_answers.specs.Received.{place_from, place_of, answer_from, answer_received, IsForeign}
use Rattle.cap_host_answers.specs.Answer.{Answered}
use Rattle.cap_msgs.specs.Report.{report_of, is_from_host, is_unanswered}
use Rattle.cap_schedule.specs.declared.schedule.Schedule.{Schedule}
use Rattle.cap_answering.specs.Steps.{Event, Acts, Interrupted, Restart, Interrupted_restart}
use Rattle.cap_world.specs.World.{TerminalState, World, TerminalAction, TerminalStep, HostAction, delivered, HostStep, Happening, At_terminal, At_host, Step, Run, started}
use Rattle.cap_schedule.specs.Nobodys.{IsParty, IsNobodys}
use Rattle.cap_plays.specs.Laws.{InRange, first_world}

-- it begins with this entry
abbrev pub BeginsWith : {Entry : Type 0} → Entry → List Entry → Type 0
BeginsWith entry entries = (rest : List _) × (entries ≡ entry ∷ rest)

begins_more : {Entry : Type 0} (first : Entry) (old new added : List Entry) → BeginsWith first old → new ≡ old ++ added → BeginsWith first new
begins_more first old new added (rest, is) grown = (rest ++ added, grown ∙ ap (λ l. l ++ added) is)

-- the set-up at a place
abbrev SetUpAt : Schedule → ℕ → TerminalState → Type 0
SetUpAt s place t = (settings : TerminalSettings) × (slice_get s.terminals place ≡ Some settings) × BeginsWith (Setup settings) t.settled

pub record IsSetUp (s : Schedule) (w : World) : Type 0 where
  pub host : BeginsWith (Host_setup s.host) w.host.settled
  pub terminals : (place : ℕ) (t : TerminalState) → slice_get w.terminals place ≡ Some t → SetUpAt s place t

-- what a step adds to a journal
abbrev Grows : {Entry : Type 0} → List Entry → List Entry → Type 0
Grows {Entry} old new = (added : List Entry) × (new ≡ old ++ added)

stays : {Entry : Type 0} (old new : List Entry) → new ≡ old → Grows old new
stays old new is = ([], is ∙ sym (append-nil old))

terminal_grows : (before : TerminalState) (event : Event TerminalAction) (after : TerminalState) → TerminalStep before event after → Grows before.settled after.settled
terminal_grows before (Acts action) after (added, sent, on, does, is) = (added, ap (λ (t : TerminalState). t.settled) is)
terminal_grows before (Interrupted action) after (added, sent, on, does, is) = stays before.settled after.settled (ap (λ (t : TerminalState). t.settled) is)
terminal_grows before (Restart kept) after is = (take kept before.tried, ap (λ (t : TerminalState). t.settled) is)
terminal_grows before (Interrupted_restart (Some kept)) after is = (take kept before.tried, ap (λ (t : TerminalState). t.settled) is)
terminal_grows before (Interrupted_restart None) after is = stays before.settled after.settled (ap (λ (t : TerminalState). t.settled) is)

host_grows : (w : World) (event : Event HostAction) (new : World) → HostStep w event new → Grows w.host.settled new.host.settled
host_grows w (Acts action) new (added, receiver, replies, on, does, is) = (added, ap (λ (v : World). v.host.settled) is)
host_grows w (Interrupted action) new (added, receiver, replies, on, does, is) = stays w.host.settled new.host.settled (ap (λ (v : World). v.host.settled) is)
host_grows w (Restart kept) new is = (take kept w.host.tried, ap (λ (v : World). v.host.settled) is)
host_grows w (Interrupted_restart (Some kept)) new is = (take kept w.host.tried, ap (λ (v : World). v.host.settled) is)
host_grows w (Interrupted_restart None) new is = stays w.host.settled new.host.settled (ap (λ (v : World). v.host.settled) is)

-- a journal that was at this place before
abbrev WasThere : List TerminalState → ℕ → TerminalState → Type 0
WasThere terminals place t = (u : TerminalState) × (slice_get terminals place ≡ Some u) × (t.settled ≡ u.settled)

delivered_there : (terminals : List TerminalState) (receiver place : ℕ) (messages : List Message) (t : TerminalState) → slice_get (delivered terminals receiver messages) place ≡ Some t → WasThere terminals place t
delivered_there [] receiver place messages t there = absurd (none-some t there)
delivered_there (s ∷ terminals) zero zero messages t there = (s, refl, ap (λ (u : TerminalState). u.settled) (sym (same_Some _ _ there)))
delivered_there (s ∷ terminals) zero (suc place) messages t there = (t, there, refl)
delivered_there (s ∷ terminals) (suc receiver) zero messages t there = (s, refl, ap (λ (u : TerminalState). u.settled) (sym (same_Some _ _ there)))
delivered_there (s ∷ terminals) (suc receiver) (suc place) messages t there = delivered_there terminals receiver place messages t there

same_there : (terminals others : List TerminalState) (place : ℕ) (t : TerminalState) → others ≡ terminals → slice_get others place ≡ Some t → WasThere terminals place t
same_there terminals others place t same there = (t, subst (λ l. slice_get l place ≡ Some t) same there, refl)

host_keeps : (w : World) (event : Event HostAction) (new : World) → HostStep w event new → (place : ℕ) (t : TerminalState) → slice_get new.terminals place ≡ Some t → WasThere w.terminals place t
host_keeps w (Acts action) new (added, receiver, replies, on, does, is) place t there =
    delivered_there w.terminals receiver place replies t (subst (λ (v : World). slice_get v.terminals place ≡ Some t) is there)
host_keeps w (Interrupted action) new (added, receiver, replies, on, does, is) place t there = same_there w.terminals new.terminals place t (ap (λ (v : World). v.terminals) is) there
host_keeps w (Restart kept) new is place t there = same_there w.terminals new.terminals place t (ap (λ (v : World). v.terminals) is) there
host_keeps w (Interrupted_restart (Some kept)) new is place t there = same_there w.terminals new.terminals place t (ap (λ (v : World). v.terminals) is) there
host_keeps w (Interrupted_restart None) new is place t there = same_there w.terminals new.terminals place t (ap (λ (v : World). v.terminals) is) there

set_cases : (terminals : List TerminalState) (i place : ℕ) (new t : TerminalState) → slice_get (slice_set terminals i new) place ≡ Some t → ((place ≡ i) × (t ≡ new)) ⊎ (slice_get terminals place ≡ Some t)
set_cases [] i place new t there = absurd (none-some t there)
set_cases (s ∷ terminals) zero zero new t there = inl (refl, sym (same_Some _ _ there))
set_cases (s ∷ terminals) zero (suc place) new t there = inr there
set_cases (s ∷ terminals) (suc i) zero new t there = inr there
set_cases (s ∷ terminals) (suc i) (suc place) new t there =
    elim (set_cases terminals i place new t there) as (λ o. ((suc place ≡ suc i) × (t ≡ new)) ⊎ (slice_get terminals place ≡ Some t)) [ inl e ↦ inl (ap suc e.0, e.1) | inr e ↦ inr e ]

pub step_set_up : (s : Schedule) (w : World) (happening : Happening) (new : World) → IsSetUp s w → Step w happening new → IsSetUp s new
step_set_up s w (At_terminal place event) new set_up (before, after, there, step, is) = record {
  host = subst (λ (v : World). BeginsWith (Host_setup s.host) v.host.settled) (sym is) set_up.host;
  terminals = λ other t at. in_set other t (set_cases w.terminals place other after t (subst (λ (v : World). slice_get v.terminals other ≡ Some t) is at));
}
  where
    in_set : (other : ℕ) (t : TerminalState) → ((other ≡ place) × (t ≡ after)) ⊎ (slice_get w.terminals other ≡ Some t) → SetUpAt s other t
    in_set other t (inr at) = set_up.terminals other t at
    in_set other t (inl (same, is_after)) =
        let was = set_up.terminals place before there in
        let grown = terminal_grows before event after step in
        let now : SetUpAt s place after = (was.0, was.1, begins_more (Setup was.0) before.settled after.settled grown.0 was.2 grown.1) in
        subst (λ n. SetUpAt s n t) (sym same) (subst (SetUpAt s place) (sym is_after) now)
step_set_up s w (At_host event) new set_up step =
    let grown = host_grows w event new step in
    record {
      host = begins_more (Host_setup s.host) w.host.settled new.host.settled grown.0 set_up.host grown.1;
      terminals = λ place t there.
          let was = host_keeps w event new step place t there in
          let old = set_up.terminals place was.0 was.1 in
          (old.0, old.1, (old.2.0, was.2 ∙ old.2.1));
    }

run_set_up : (s : Schedule) (w : World) (happenings : List Happening) (new : World) → IsSetUp s w → Run w happenings new → IsSetUp s new
run_set_up s w [] new set_up is = subst (IsSetUp s) (sym is) set_up
run_set_up s w (happening ∷ happenings) new set_up (next, step, run) = run_set_up s next happenings new (step_set_up s w happening next set_up step) run

started_there : (all : List TerminalSettings) (place : ℕ) (t : TerminalState) → slice_get (map started all) place ≡ Some t → (settings : TerminalSettings) × (slice_get all place ≡ Some settings) × (t ≡ started settings)
started_there [] place t there = absurd (none-some t there)
started_there (settings ∷ all) zero t there = (settings, refl, sym (same_Some _ _ there))
started_there (settings ∷ all) (suc place) t there = started_there all place t there

first_set_up : (s : Schedule) → IsSetUp s (first_world s)
first_set_up s = record {
  host = ([], refl);
  terminals = λ place t there. let found = started_there s.terminals place t there in (found.0, found.1, ([], ap (λ (u : TerminalState). u.settled) found.2));
}

pub reached_set_up : (s : Schedule) (w : World) (happenings : List Happening) → Run (first_world s) happenings w → IsSetUp s w
reached_set_up s w happenings run = run_set_up s (first_world s) happenings w (first_set_up s) run

-- facts about each element of a list
pub all_at : {X : Type 0} (P : X → Type 0) (xs : List X) (k : ℕ) (x : X) → slice_get xs k ≡ Some x → AllByRecursion P xs → P x
all_at P [] k x e p = absurd (none-some x e)
all_at P (y ∷ xs) zero x e p = subst P (same_Some y x e) p.0
all_at P (y ∷ xs) (suc k) x e p = all_at P xs k x e p.1

false_unless : (b : Bool) → (b ≡ true → ⊥) → b ≡ false
false_unless true never = absurd (never refl)
false_unless false never = refl

bytes_same : (x y : List ℕ) → bytes_eq x y ≡ true → x ≡ y
bytes_same x y e = (bytes_eq-Decides x y).0 e

-- a terminal of a schedule is a party, and so is its host
terminal_party : (s : Schedule) (place : ℕ) (settings : TerminalSettings) (name : List ℕ) → InRange s → slice_get s.terminals place ≡ Some settings → name ≡ settings.terminal → IsParty s name
terminal_party s place settings name range there is =
    let named : slice_get (map (λ (t : TerminalSettings). t.terminal) s.terminals) place ≡ Some settings.terminal =
    slice_get-map (λ (t : TerminalSettings). t.terminal) s.terminals place ∙ ap (option_map (λ (t : TerminalSettings). t.terminal)) there in
    inr (place, subst (λ l. slice_get l place ≡ Some name) (sym range.set_ups.names) (named ∙ ap Some (sym is)))

host_party : (s : Schedule) (place : ℕ) (settings : TerminalSettings) (name : List ℕ) → InRange s → slice_get s.terminals place ≡ Some settings → name ≡ settings.host → IsParty s name
host_party s place settings name range there is =
    inl (is ∙ all_at (λ (t : TerminalSettings). t.host ≡ s.host.host) s.terminals place settings there range.set_ups.hosts)

-- noise of nobody's isn't from a terminal's host to the terminal
not_ours_at : (s : Schedule) (place : ℕ) (settings : TerminalSettings) (rest : List TermEntry) (received : Received) → InRange s → slice_get s.terminals place ≡ Some settings → IsNobodys s received → IsNotOurs (Setup settings ∷ rest) received
not_ours_at s place settings rest (Unread fault) range there nobodys = tt
not_ours_at s place settings rest (Read message) range there nobodys =
    false_unless (is_for_us (Setup settings ∷ rest) message) (λ ours.
    let parts = and_parts (bytes_eq message.header.to settings.terminal) (bytes_eq message.header.from settings.host) ours in
    nobodys (host_party s place settings message.header.from range there (bytes_same _ _ parts.1)) (terminal_party s place settings message.header.to range there (bytes_same _ _ parts.0)))

pub noise_is_not_ours : (s : Schedule) (w : World) (place : ℕ) (t : TerminalState) (received : Received) → InRange s → IsSetUp s w → slice_get w.terminals place ≡ Some t → IsNobodys s received → IsNotOurs t.settled received
noise_is_not_ours s w place t received range set_up there nobodys =
    let (settings, at, (rest, is)) = set_up.terminals place t there in
    subst (λ l. IsNotOurs l received) (sym is) (not_ours_at s place settings rest received range at nobodys)

-- a name that has a place stands there
place_there : (start : ℕ) (names : List (List ℕ)) (name : List ℕ) (p : ℕ) → place_from start names name ≡ Some p → (i : ℕ) × (slice_get names i ≡ Some name)
place_there start [] name p is = absurd (none-some p is)
place_there start (other ∷ names) name p is = by_name (bytes_eq other name) refl is (place_there (suc start) names name p)
  where
    by_name : (b : Bool) → bytes_eq other name ≡ b → (if b then Some start else place_from (suc start) names name) ≡ Some p
        → (place_from (suc start) names name ≡ Some p → (i : ℕ) × (slice_get names i ≡ Some name)) → (i : ℕ) × (slice_get (other ∷ names) i ≡ Some name)
    by_name true same found later = (0, ap Some (bytes_same other name same))
    by_name false apart found later = let more = later found in (suc more.0, more.1)

foreign_at : (s : Schedule) (rest : List HostEntry) (received : Received) → IsNobodys s received → IsForeign (Host_setup s.host ∷ rest) received
foreign_at s rest (Unread fault) nobodys = tt
foreign_at s rest (Read message) nobodys = by_names (bytes_eq message.header.to s.host.host) (place_from 0 s.host.terminals message.header.from) refl refl
  where
    by_names : (b : Bool) (o : Option ℕ) → bytes_eq message.header.to s.host.host ≡ b → place_from 0 s.host.terminals message.header.from ≡ o → IsForeign (Host_setup s.host ∷ rest) (Read message)
    by_names false o to from = inl to
    by_names true None to from = inr from
    by_names true (Some p) to from = absurd (nobodys (inr (place_there 0 s.host.terminals message.header.from p from)) (inl (bytes_same _ _ to)))

pub noise_is_foreign : (s : Schedule) (w : World) (received : Received) → IsSetUp s w → IsNobodys s received → IsForeign w.host.settled received
noise_is_foreign s w received set_up nobodys = subst (λ l. IsForeign l received) (sym set_up.host.1) (foreign_at s set_up.host.0 received nobodys)

-- what isn't from its host adds nothing at a terminal
pub not_ours_adds_nothing : (entries : List TermEntry) (received : Received) → IsNotOurs entries received → (takes entries received).added ≡ []
not_ours_adds_nothing entries (Unread fault) foreign = refl
not_ours_adds_nothing entries (Read message) foreign = ap (λ (taken : Taken). taken.added) (cond-false (is_for_us entries message) _ _ foreign)

-- what isn't from its terminals adds nothing at a host
abbrev AddsNothing : Answered → Type 0
AddsNothing answered = answered.added ≡ []

to_host_adds_nothing : (entries : List HostEntry) (message : Message) → bytes_eq message.header.to (setup_of entries).host ≡ true → IsForeign entries (Read message) → AddsNothing (answer_from entries (place_of entries message.header.from) message.header.exchange message.body)
to_host_adds_nothing entries message to (inl apart) = absurd (false≢true (sym apart ∙ to))
to_host_adds_nothing entries message to (inr from) = subst (λ (o : Option ℕ). AddsNothing (answer_from entries o message.header.exchange message.body)) (sym from) refl

pub foreign_adds_nothing : (entries : List HostEntry) (received : Received) → IsForeign entries received → (answer_received entries received).added ≡ []
foreign_adds_nothing entries (Unread fault) foreign = refl
foreign_adds_nothing entries (Read message) foreign =
    cond_both (is_unanswered (report_of message.body)) _ _ AddsNothing (λ _. refl)
    (λ _. cond_both (is_from_host (report_of message.body)) _ _ AddsNothing (λ _. refl)
    (λ _. cond_both (bytes_eq message.header.to (setup_of entries).host) _ _ AddsNothing (λ to. to_host_adds_nothing entries message to foreign) (λ _. refl)))
