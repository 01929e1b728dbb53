-- Each message of a terminal names it and its host, in every world of every run.
use Rattle.std.proofs.Common.{◌≡◌, ℕ, zero, suc, ◌+◌, true, List, [], ◌∷◌, ◌++◌, take, drop, Some, sym, ◌∙◌, ap, subst, append-nil, take-append-drop, arith, ◌⊎◌, false, map, set, None, refl, inl, inr, ⊎_elim, eq-eqb, not, ◌&&◌}
use Rattle.std.specs.Prelude.{slice_get, bytes_eq, option_map}
use Rattle.std.specs.List.{AllByRecursion, list_any}
use Rattle.std.proofs.lemmas.Bool.{cond-true, cond-false, and_parts, and_from, or_parts, not-true}
use Rattle.std.proofs.lemmas.Option.{same_Some, none-some, slice_get-map}
use Rattle.cap_msgs.specs.declared.message.Message.{Message}
use Rattle.cap_entries.specs.Settings.{TerminalSettings, HostSettings, is_host_settings}
use Rattle.cap_entries.specs.Lists.{are_distinct, is_idents, is_blocks}
use Rattle.cap_entries.specs.declared.terminal.TermEntry.{TermEntry}
use Rattle.cap_entries.specs.declared.terminal.TermEntry.TheVariants.{Setup}
use Rattle.cap_entries.specs.declared.host.HostEntry.{HostEntry}
use Rattle.cap_entries.specs.declared.host.HostEntry.TheVariants.{Setup as Host_setup}
use Rattle.cap_entries.specs.Entry.{term_setup_of}
use Rattle.cap_entries.specs.Log.{setup_of}
use Rattle.cap_host_answers.specs.Received.{place_from, place_of}
use Rattle.cap_terminal_answers.specs.Sends.{Sending, Head, Batch_of, Ask, Ask_cancel, Diagnose, Report_status, Sends}
use Rattle.cap_answering.specs.Steps.{Event, Acts, Interrupted, Restart, Interrupted_restart}
use Rattle.cap_world.specs.World.{TerminalState, World, TerminalAction, Begins, Offline, Gives_up, Cancels, Closes, Sends_message, Takes_answer, Hears_foreign, TerminalDoes, TerminalStep, HostAction, delivered, HostStep, Happening, At_terminal, At_host, Step, started, first, Run}
use Rattle.cap_entries.specs.SetUps.{SetUpsMatch}

-- facts about each element of a list
module _ {X : Type 0} (P : X → Type 0) where
  pub all_append : (xs ys : List X) → AllByRecursion P xs → AllByRecursion P ys → AllByRecursion P (xs ++ ys)
  all_append [] ys p q = q
  all_append (x ∷ xs) ys p q = (p.0, all_append xs ys p.1 q)

  pub all_front : (xs ys : List X) → AllByRecursion P (xs ++ ys) → AllByRecursion P xs
  all_front [] ys p = tt
  all_front (x ∷ xs) ys p = (p.0, all_front xs ys p.1)

  pub all_back : (xs ys : List X) → AllByRecursion P (xs ++ ys) → AllByRecursion P ys
  all_back [] ys p = p
  all_back (x ∷ xs) ys p = all_back xs ys p.1

  pub all_take : (k : ℕ) (xs : List X) → AllByRecursion P xs → AllByRecursion P (take k xs)
  all_take k xs p = all_front (take k xs) (drop k xs) (subst (AllByRecursion P) (sym (take-append-drop k xs)) p)

  -- of what stands before, and of what stands of what was tried
  pub all_kept : (xs ys : List X) (k : ℕ) → AllByRecursion P (xs ++ ys) → AllByRecursion P (xs ++ take k ys)
  all_kept xs ys k p = all_append xs (take k ys) (all_front xs ys p) (all_take k ys (all_back xs ys p))

  pub all_at : (xs : List X) (k : ℕ) (x : X) → slice_get xs k ≡ Some x → AllByRecursion P xs → P x
  all_at [] k x e p = absurd (none-some x e)
  all_at (y ∷ xs) zero x e p = subst P (same_Some y x e) p.0
  all_at (y ∷ xs) (suc k) x e p = all_at xs k x e p.1

pub all_weaker : {X : Type 0} (P Q : X → Type 0) → ((x : X) → P x → Q x) → (xs : List X) → AllByRecursion P xs → AllByRecursion Q xs
all_weaker P Q f [] p = tt
all_weaker P Q f (x ∷ xs) p = (f x p.0, all_weaker P Q f xs p.1)

-- whose list a terminal's state is after replies
abbrev pub answered_by : TerminalState → List Message → TerminalState
answered_by s messages = record { settled = s.settled; tried = s.tried; on = s.on; sent = s.sent; answers = s.answers ++ messages }

pub delivered_cases : (terminals : List TerminalState) (receiver place : ℕ) (messages : List Message) (new : TerminalState) → slice_get (delivered terminals receiver messages) place ≡ Some new → (s : TerminalState) × (slice_get terminals place ≡ Some s) × (((place ≡ receiver) × (new ≡ answered_by s messages)) ⊎ (new ≡ s))
delivered_cases [] receiver place messages new e = absurd (none-some new e)
delivered_cases (s ∷ terminals) zero zero messages new e = (s, refl, inl (refl, sym (same_Some _ _ e)))
delivered_cases (s ∷ terminals) zero (suc place) messages new e = (new, e, inr refl)
delivered_cases (s ∷ terminals) (suc receiver) zero messages new e = (s, refl, inr (sym (same_Some _ _ e)))
delivered_cases (s ∷ terminals) (suc receiver) (suc place) messages new e =
    let (t, at, cases) = delivered_cases terminals receiver place messages new e in
    (t, at, ⊎_elim (λ (p, q). inl (ap suc p, q)) (λ q. inr q) cases)

pub set_cases : (terminals : List TerminalState) (i place : ℕ) (v new : TerminalState) → slice_get (set terminals i v) place ≡ Some new → ((place ≡ i) × (new ≡ v)) ⊎ (slice_get terminals place ≡ Some new)
set_cases [] i place v new e = absurd (none-some new e)
set_cases (s ∷ terminals) zero zero v new e = inl (refl, sym (same_Some _ _ e))
set_cases (s ∷ terminals) zero (suc place) v new e = inr e
set_cases (s ∷ terminals) (suc i) zero v new e = inr e
set_cases (s ∷ terminals) (suc i) (suc place) v new e =
    ⊎_elim (λ (p, q). inl (ap suc p, q)) (λ q. inr q) (set_cases terminals i place v new e)

-- a message from this terminal to its host
abbrev IsFrom : TerminalSettings → Message → Type 0
IsFrom settings message = (message.header.from ≡ settings.terminal) × (message.header.to ≡ settings.host)

-- the place of a terminal's name, where the names differ
pub names_same : (xs : List ℕ) → bytes_eq xs xs ≡ true
names_same [] = refl
names_same (x ∷ xs) = and_from _ _ (eq-eqb x x refl) (names_same xs)

differs_at : (x : List ℕ) (names : List (List ℕ)) (k : ℕ) (name : List ℕ) → list_any (bytes_eq x) names ≡ false → slice_get names k ≡ Some name → bytes_eq x name ≡ false
differs_at x [] k name none at = absurd (none-some name at)
differs_at x (y ∷ names) zero name none at = subst (λ n. bytes_eq x n ≡ false) (same_Some y name at) (or_parts _ _ none).0
differs_at x (y ∷ names) (suc k) name none at = differs_at x names k name (or_parts _ _ none).1 at

pub place_from_is : (start k : ℕ) (names : List (List ℕ)) (name : List ℕ) → are_distinct names ≡ true → slice_get names k ≡ Some name → place_from start names name ≡ Some (start + k)
place_from_is start k [] name distinct at = absurd (none-some name at)
place_from_is start zero (x ∷ names) name distinct at =
    let same : bytes_eq x name ≡ true = subst (λ n. bytes_eq x n ≡ true) (same_Some x name at) (names_same x) in
    cond-true _ _ _ same ∙ ap Some (let e : start ≡ start + 0 = omega arith in e)
place_from_is start (suc k) (x ∷ names) name distinct at =
    let parts = and_parts (not (list_any (bytes_eq x) names)) (are_distinct names) distinct in
    cond-false _ _ _ (differs_at x names k name (not-true _ parts.0) at)
    ∙ (place_from_is (suc start) k names name parts.1 at ∙ ap Some (let e : suc start + k ≡ start + suc k = omega arith in e))

record Naming (all : List TerminalSettings) (place : ℕ) (s : TerminalState) : Type 0 where
  settings : TerminalSettings
  there : slice_get all place ≡ Some settings
  rest : List TermEntry
  first_is : s.settled ≡ Setup settings ∷ rest
  from : AllByRecursion (IsFrom settings) s.sent

-- each journal begins with its end's set-up, and each message of a terminal is from it to its host
pub record NamingWorld (host : HostSettings) (all : List TerminalSettings) (w : World) : Type 0 where
  pub others : List HostEntry
  pub host_is : w.host.settled ≡ Host_setup host ∷ others
  terminals : (place : ℕ) (s : TerminalState) → slice_get w.terminals place ≡ Some s → Naming all place s

sends_from : (entries : List TermEntry) (what : Sending) (moment : ℕ) (message : Message) → Sends entries what moment message → IsFrom (term_setup_of entries) message
sends_from entries (Head repeat) moment message (item, e, few, (created, at, is)) = rw is (refl, refl)
sends_from entries (Batch_of limit repeat) moment message (low, high, few, some, (created, at, is)) = rw is (refl, refl)
sends_from entries (Ask k) moment message (p, (created, at, is)) = rw is (refl, refl)
sends_from entries (Ask_cancel k) moment message (p, (created, at, is)) = rw is (refl, refl)
sends_from entries Diagnose moment message (created, at, is) = rw is (refl, refl)
sends_from entries (Report_status wanted) moment message (p, (created, at, is)) = rw is (refl, refl)

does_from : (s : TerminalState) (action : TerminalAction) (added : List TermEntry) (sent : List Message) → TerminalDoes s action added sent → AllByRecursion (IsFrom (term_setup_of s.settled)) sent
does_from s (Begins amount account) added sent (does, none) = rw none tt
does_from s (Offline k) added sent (does, none) = rw none tt
does_from s (Gives_up k) added sent (does, none) = rw none tt
does_from s (Cancels k) added sent (does, none) = rw none tt
does_from s Closes added sent (does, none) = rw none tt
does_from s (Sends_message what moment) added sent (message, sends, none, is) = rw is (sends_from s.settled what moment message sends, tt)
does_from s (Takes_answer which decision) added sent (message, decided, at, decides, is, none) = rw none tt
does_from s (Hears_foreign received) added sent (foreign, is, none) = rw none tt

naming_more : (all : List TerminalSettings) (place : ℕ) (s new : TerminalState) (more : List TermEntry) (sent : List Message) → Naming all place s → new.settled ≡ s.settled ++ more → new.sent ≡ s.sent ++ sent → AllByRecursion (IsFrom (term_setup_of s.settled)) sent → Naming all place new
naming_more all place s new more sent n grown put from =
    let own : AllByRecursion (IsFrom n.settings) sent = subst (λ (l : List TermEntry). AllByRecursion (IsFrom (term_setup_of l)) sent) n.first_is from in
    record {
      settings = n.settings;
      there = n.there;
      rest = n.rest ++ more;
      first_is = grown ∙ ap (λ l. l ++ more) n.first_is;
      from = rw put (all_append (IsFrom n.settings) s.sent sent n.from own);
    }

terminal_step_naming : (all : List TerminalSettings) (place : ℕ) (s new : TerminalState) (event : Event TerminalAction) → Naming all place s → TerminalStep s event new → Naming all place new
terminal_step_naming all place s new (Acts action) n (added, sent, on, does, is) =
    naming_more all place s new added sent n (ap (λ (t : TerminalState). t.settled) is) (ap (λ (t : TerminalState). t.sent) is) (does_from s action added sent does)
terminal_step_naming all place s new (Interrupted action) n (added, sent, on, does, is) =
    naming_more all place s new [] [] n (ap (λ (t : TerminalState). t.settled) is ∙ sym (append-nil _)) (ap (λ (t : TerminalState). t.sent) is ∙ sym (append-nil _)) tt
terminal_step_naming all place s new (Restart kept) n is =
    naming_more all place s new (take kept s.tried) [] n (ap (λ (t : TerminalState). t.settled) is) (ap (λ (t : TerminalState). t.sent) is ∙ sym (append-nil _)) tt
terminal_step_naming all place s new (Interrupted_restart (Some kept)) n is =
    naming_more all place s new (take kept s.tried) [] n (ap (λ (t : TerminalState). t.settled) is) (ap (λ (t : TerminalState). t.sent) is ∙ sym (append-nil _)) tt
terminal_step_naming all place s new (Interrupted_restart None) n is =
    naming_more all place s new [] [] n (ap (λ (t : TerminalState). t.settled) is ∙ sym (append-nil _)) (ap (λ (t : TerminalState). t.sent) is ∙ sym (append-nil _)) tt

host_step_naming : (host : HostSettings) (all : List TerminalSettings) (w new : World) (event : Event HostAction) → NamingWorld host all w → HostStep w event new → NamingWorld host all new
host_step_naming host all w new (Acts action) n (added, receiver, replies, on, does, is) =
    record {
      others = n.others ++ added;
      host_is = ap (λ (v : World). v.host.settled) is ∙ ap (λ l. l ++ added) n.host_is;
      terminals = λ place t at.
          let (s, was, cases) = delivered_cases w.terminals receiver place replies t (rw is at at) in
          let old = n.terminals place s was in
          ⊎_elim (λ (same, is'). subst (Naming all place) (sym is') (record { settings = old.settings; there = old.there; rest = old.rest; first_is = old.first_is; from = old.from }))
          (λ is'. subst (Naming all place) (sym is') old) cases;
    }
host_step_naming host all w new (Interrupted action) n (added, receiver, replies, on, does, is) =
    record { others = n.others; host_is = ap (λ (v : World). v.host.settled) is ∙ n.host_is; terminals = λ place t at. n.terminals place t (rw is at at) }
host_step_naming host all w new (Restart kept) n is =
    record { others = n.others ++ take kept w.host.tried; host_is = ap (λ (v : World). v.host.settled) is ∙ ap (λ l. l ++ take kept w.host.tried) n.host_is; terminals = λ place t at. n.terminals place t (rw is at at) }
host_step_naming host all w new (Interrupted_restart (Some kept)) n is =
    record { others = n.others ++ take kept w.host.tried; host_is = ap (λ (v : World). v.host.settled) is ∙ ap (λ l. l ++ take kept w.host.tried) n.host_is; terminals = λ place t at. n.terminals place t (rw is at at) }
host_step_naming host all w new (Interrupted_restart None) n is =
    record { others = n.others; host_is = ap (λ (v : World). v.host.settled) is ∙ n.host_is; terminals = λ place t at. n.terminals place t (rw is at at) }

pub step_naming : (host : HostSettings) (all : List TerminalSettings) (w new : World) (happening : Happening) → NamingWorld host all w → Step w happening new → NamingWorld host all new
step_naming host all w new (At_host event) n step = host_step_naming host all w new event n step
step_naming host all w new (At_terminal place event) n (before, after, at, step, is) =
    record {
      others = n.others;
      host_is = ap (λ (v : World). v.host.settled) is ∙ n.host_is;
      terminals = λ other t here.
          ⊎_elim (λ (same, is'). rw (same, is') (terminal_step_naming all place before after event (n.terminals place before at) step))
          (λ was. n.terminals other t was) (set_cases w.terminals place other after t (rw is at here));
    }

pub run_naming : (host : HostSettings) (all : List TerminalSettings) (w new : World) (happenings : List Happening) → NamingWorld host all w → Run w happenings new → NamingWorld host all new
run_naming host all w new [] n is = subst (NamingWorld host all) (sym is) n
run_naming host all w new (happening ∷ happenings) n (next, step, run) = run_naming host all next new happenings (step_naming host all w next happening n step) run

-- the first world
pub started_cases : (all : List TerminalSettings) (place : ℕ) (s : TerminalState) → slice_get (map started all) place ≡ Some s → (settings : TerminalSettings) × (slice_get all place ≡ Some settings) × (s ≡ started settings)
started_cases [] place s e = absurd (none-some s e)
started_cases (settings ∷ all) zero s e = (settings, refl, sym (same_Some _ _ e))
started_cases (settings ∷ all) (suc place) s e = started_cases all place s e

pub first_naming : (host : HostSettings) (all : List TerminalSettings) → NamingWorld host all (first host all)
first_naming host all =
    record {
      others = [];
      host_is = refl;
      terminals = λ place s at.
          let (settings, there, is) = started_cases all place s at in
          subst (Naming all place) (sym is) (record { settings = settings; there = there; rest = []; first_is = refl; from = tt });
    }

-- a message of the terminal at a place is to this host, from the name of that place
pub record NamedMessage (entries : List HostEntry) (place : ℕ) (message : Message) : Type 0 where
  pub to_is : message.header.to ≡ (setup_of entries).host
  pub to : bytes_eq message.header.to (setup_of entries).host ≡ true
  pub from : place_of entries message.header.from ≡ Some place

distinct_names : (host : HostSettings) → is_host_settings host ≡ true → are_distinct host.terminals ≡ true
distinct_names host rule =
    let lists = (and_parts (is_idents host.terminals && is_blocks host.blocked) _ rule).0 in
    let idents = (and_parts (is_idents host.terminals) (is_blocks host.blocked) lists).0 in
    (and_parts _ (are_distinct host.terminals) idents).1

-- whatever the host may have begins with its set-up
pub setup_kept : (host : HostSettings) (all : List TerminalSettings) (w : World) → NamingWorld host all w → (more : List HostEntry) → setup_of (w.host.settled ++ more) ≡ host
setup_kept host all w n more = rw n.host_is refl

pub named_message : (host : HostSettings) (all : List TerminalSettings) (w : World) → SetUpsMatch host all → NamingWorld host all w → (entries : List HostEntry) → setup_of entries ≡ host → (terminal : ℕ) (s : TerminalState) (which : ℕ) (message : Message) → slice_get w.terminals terminal ≡ Some s → slice_get s.sent which ≡ Some message → NamedMessage entries terminal message
named_message host all w match n entries setup_is terminal s which message at sent =
    let t = n.terminals terminal s at in
    let from = all_at (IsFrom t.settings) s.sent which message sent t.from in
    let to : message.header.to ≡ host.host = from.1 ∙ all_at (λ (x : TerminalSettings). x.host ≡ host.host) all terminal t.settings t.there match.hosts in
    let there : slice_get host.terminals terminal ≡ Some message.header.from =
    ap (λ l. slice_get l terminal) match.names ∙ (slice_get-map (λ (x : TerminalSettings). x.terminal) all terminal ∙ (ap (option_map (λ (x : TerminalSettings). x.terminal)) t.there ∙ ap Some (sym from.0))) in
    record {
      to_is = rw setup_is to;
      to = rw (setup_is, to) (names_same host.host);
      from = rw setup_is (place_from_is 0 terminal host.terminals message.header.from (distinct_names host match.host_rule) there ∙ ap Some (let e : 0 + terminal ≡ terminal = omega arith in e));
    }

-- a terminal's host is the host of the world
pub own_host : (host : HostSettings) (all : List TerminalSettings) (w : World) → SetUpsMatch host all → NamingWorld host all w → (place : ℕ) (s : TerminalState) → slice_get w.terminals place ≡ Some s → (term_setup_of s.settled).host ≡ host.host
own_host host all w match n place s at =
    let t = n.terminals place s at in
    ap (λ (l : List TermEntry). (term_setup_of l).host) t.first_is ∙ all_at (λ (x : TerminalSettings). x.host ≡ host.host) all place t.settings t.there match.hosts
