-- The summary of a host's legal journal tells exactly what is allowed next.
use Rattle.std.proofs.Common.{◌≡◌, ℕ, zero, suc, ◌+◌, ◌<◌, Bool, true, false, ◌&&◌, List, [], ◌∷◌, ◌++◌, length, replicate, take, get_or, refl, sym, ◌∙◌, ap, subst, ⊎_elim, arith, eqb-true, eq-eqb, ltb-true, append-nil}
use Rattle.std.specs.Prelude.{◌==◌, nat_le, nat_lt, slice_set}
use Rattle.std.proofs.lemmas.Bool.{cond-true, cond-false, cases_Bool, false≢true, both_ways, and_parts}
use Rattle.std.proofs.lemmas.List.{get_or-set_same, get_or-set_other, length-replicate, length-set, take_more}
use Rattle.std.proofs.lemmas.List.Sums.{fold_push}
use Rattle.cap_base.specs.declared.item.Item.{Item}
use Rattle.cap_entries.specs.declared.host.HostEntry.{HostEntry}
use Rattle.cap_entries.specs.declared.host.HostEntry.TheVariants.{Setup, Took, Published}
use Rattle.cap_entries.specs.Log.{item_from, log, published, setup_of}
use Rattle.cap_entries.specs.LogLaws.{log-append}
use Rattle.cap_entries.specs.HostAllowed.{is_host_setup, host_allowed_after, host_allowed, all_host_allowed}
use Rattle.cap_entries.specs.HostAllowedLaws.{along_host}
use Rattle.cap_entries.specs.LogSummary.{LogSummary, no_log, log_after, log_fits}
use Rattle.cap_entries.specs.LogSummaryLaws.{LogTies, log_fits_is, ties_step, ties_none}
use Rattle.cap_entries.specs.HostSummary.{HostSummary, no_host_summary, log_at, host_summary_after, host_summary, host_follows, host_may_follow}

abbrev pub is_some_host : List HostEntry → Bool
is_some_host [] = false
is_some_host (entry ∷ entries) = true

-- what the summary says
pub record HostTies (entries : List HostEntry) (s : HostSummary) : Type 0 where
  pub started : s.started ≡ is_some_host entries
  pub terminals : length s.logs ≡ length (setup_of entries).terminals
  pub logs : (place : ℕ) → LogTies (log entries place) (log_at s.logs place)
  pub published : s.published ≡ length (published entries)

-- what follows the summary is what is allowed after the set-up
pub host_follows_is : (entries : List HostEntry) (s : HostSummary) (entry : HostEntry) → HostTies entries s → host_follows s entry ≡ host_allowed_after entries entry
host_follows_is entries s (Setup settings) t = refl
host_follows_is entries s (Took place item) t =
    ap (λ n. nat_lt place n && log_fits (log_at s.logs place) item) t.terminals
    ∙ ap (λ b. nat_lt place (length (setup_of entries).terminals) && b) (log_fits_is (log entries place) (log_at s.logs place) item (t.logs place))
host_follows_is entries s (Published version rows) t = ap (λ n. (version == n + 1) && nat_le version 10000) t.published

no_log_there : (m i : ℕ) → get_or (replicate m no_log) i no_log ≡ no_log
no_log_there zero i = refl
no_log_there (suc m) zero = refl
no_log_there (suc m) (suc i) = no_log_there m i

-- the log of a terminal with one entry more
pub log-push : (entries : List HostEntry) (entry : HostEntry) (place : ℕ) → log (entries ++ entry ∷ []) place ≡ log entries place ++ item_from place entry
log-push entries entry place = log-append entries (entry ∷ []) place ∙ ap (λ l. log entries place ++ l) (append-nil (item_from place entry))

-- an entry that is no item of the terminal
log-other : (entries : List HostEntry) (entry : HostEntry) (place : ℕ) (s : LogSummary) → item_from place entry ≡ [] → LogTies (log entries place) s → LogTies (log (entries ++ entry ∷ []) place) s
log-other entries entry place s none t = subst (λ l. LogTies l s) (sym (log-push entries entry place ∙ (ap (λ l. log entries place ++ l) none ∙ append-nil (log entries place)))) t

published-push : (entries : List HostEntry) (entry : HostEntry) → length (published (entries ++ entry ∷ [])) ≡ length (published entries) + length (published (entry ∷ []))
published-push [] entry = omega arith
published-push (Setup settings ∷ entries) entry = published-push entries entry
published-push (Took place item ∷ entries) entry = published-push entries entry
published-push (Published version rows ∷ entries) entry = omega (arith, published-push entries entry)

setup_push : (entries : List HostEntry) (entry : HostEntry) → is_some_host entries ≡ true → setup_of (entries ++ entry ∷ []) ≡ setup_of entries
setup_push [] entry e = absurd (false≢true e)
setup_push (Setup settings ∷ rest) entry e = refl
setup_push (Took place item ∷ rest) entry e = refl
setup_push (Published version rows ∷ rest) entry e = refl

some_push : (entries : List HostEntry) (entry : HostEntry) → is_some_host (entries ++ entry ∷ []) ≡ true
some_push [] entry = refl
some_push (first ∷ rest) entry = refl

-- an item that the log of one terminal takes
took_logs : (entries : List HostEntry) (place : ℕ) (item : Item) (s : HostSummary) → HostTies entries s → place < length s.logs → log_fits (log_at s.logs place) item ≡ true
    → (other : ℕ) → LogTies (log (entries ++ Took place item ∷ []) other) (log_at (slice_set s.logs place (log_after (log_at s.logs place) item)) other)
took_logs entries place item s t within fit other =
    let new : LogSummary = log_after (log_at s.logs place) item in
    ⊎_elim
    (λ equal.
    let here : LogTies (log (entries ++ Took place item ∷ []) place) (log_at (slice_set s.logs place new) place) =
    subst (λ l. LogTies l (log_at (slice_set s.logs place new) place))
    (sym (log-push entries (Took place item) place ∙ ap (λ l. log entries place ++ l) (cond-true (place == place) _ _ (eq-eqb place place refl))))
    (subst (LogTies (log entries place ++ item ∷ [])) (sym (get_or-set_same s.logs place new no_log within)) (ties_step (log entries place) (log_at s.logs place) item (t.logs place) fit)) in
    subst (λ j. LogTies (log (entries ++ Took place item ∷ []) j) (log_at (slice_set s.logs place new) j)) (eqb-true place other equal) here)
    (λ unequal.
    log-other entries (Took place item) other _ (cond-false (place == other) _ _ unequal)
    (subst (LogTies (log entries other)) (sym (get_or-set_other s.logs place other new no_log (λ same. both_ways _ unequal (eq-eqb place other (sym same))))) (t.logs other)))
    (cases_Bool (place == other))

following_step : (entries : List HostEntry) (entry : HostEntry) (s : HostSummary) → HostTies entries s → is_some_host entries ≡ true → host_follows s entry ≡ true → HostTies (entries ++ entry ∷ []) (host_summary_after s entry)
following_step entries (Setup settings) s t some ok = absurd (false≢true ok)
following_step entries (Took place item) s t some ok =
    let parts = and_parts (nat_lt place (length s.logs)) (log_fits (log_at s.logs place) item) ok in
    record {
      started = t.started ∙ (some ∙ sym (some_push entries (Took place item)));
      terminals = length-set s.logs place _ ∙ (t.terminals ∙ ap (λ settings. length settings.terminals) (sym (setup_push entries (Took place item) some)));
      logs = took_logs entries place item s t (ltb-true place (length s.logs) parts.0) parts.1;
      published = omega (arith, t.published, published-push entries (Took place item));
    }
following_step entries (Published version rows) s t some ok =
    let parts = and_parts (version == s.published + 1) (nat_le version 10000) ok in
    record {
      started = t.started ∙ (some ∙ sym (some_push entries (Published version rows)));
      terminals = t.terminals ∙ ap (λ settings. length settings.terminals) (sym (setup_push entries (Published version rows) some));
      logs = λ place. log-other entries (Published version rows) place _ refl (t.logs place);
      published = omega (arith, t.published, published-push entries (Published version rows), eqb-true version (s.published + 1) parts.0);
    }

first_step : (entry : HostEntry) (s : HostSummary) → HostTies [] s → is_host_setup entry ≡ true → HostTies (entry ∷ []) (host_summary_after s entry)
first_step (Setup settings) s t ok =
    record {
      started = refl;
      terminals = length-replicate (length settings.terminals) no_log;
      logs = λ place. subst (LogTies []) (sym (no_log_there (length settings.terminals) place)) ties_none;
      published = t.published;
    }
first_step (Took place item) s t ok = absurd (false≢true ok)
first_step (Published version rows) s t ok = absurd (false≢true ok)

-- one entry more that is allowed
host_ties_step : (entries : List HostEntry) (entry : HostEntry) (s : HostSummary) → HostTies entries s → host_allowed entries entry ≡ true → HostTies (entries ++ entry ∷ []) (host_summary_after s entry)
host_ties_step [] entry s t ok = first_step entry s t ok
host_ties_step (first ∷ rest) entry s t ok = following_step (first ∷ rest) entry s t refl (host_follows_is (first ∷ rest) s entry t ∙ ok)

pub host_summary-push : (entries : List HostEntry) (entry : HostEntry) → host_summary (entries ++ entry ∷ []) ≡ host_summary_after (host_summary entries) entry
host_summary-push entries entry = fold_push host_summary_after no_host_summary entries entry

pub host_summarises : (entries : List HostEntry) → all_host_allowed [] entries ≡ true → HostTies entries (host_summary entries)
host_summarises entries ok =
    along_host (λ e. HostTies e (host_summary e))
    (λ before entry t fine. subst (HostTies (before ++ entry ∷ [])) (sym (host_summary-push before entry)) (host_ties_step before entry (host_summary before) t fine))
    [] entries (record { started = refl; terminals = refl; logs = λ place. ties_none; published = refl }) ok

host_may_follow_from : (entries : List HostEntry) (entry : HostEntry) (s : HostSummary) → HostTies entries s → host_may_follow s entry ≡ host_allowed entries entry
host_may_follow_from [] entry s t = cond-false s.started _ _ t.started
host_may_follow_from (first ∷ rest) entry s t = cond-true s.started _ _ t.started ∙ host_follows_is (first ∷ rest) s entry t

-- what may follow the summary of a legal journal is what is allowed after it
pub host_may_follow_is : (entries : List HostEntry) (entry : HostEntry) → all_host_allowed [] entries ≡ true → host_may_follow (host_summary entries) entry ≡ host_allowed entries entry
host_may_follow_is entries entry ok = host_may_follow_from entries entry (host_summary entries) (host_summarises entries ok)

-- the summary up to the next place
pub host_summary-take : (entries : List HostEntry) (i : ℕ) (d : HostEntry) → i < length entries → d ≡ get_or entries i d → host_summary (take i entries ++ d ∷ []) ≡ host_summary (take (i + 1) entries)
host_summary-take entries i d h is = ap (λ e. host_summary (take i entries ++ e ∷ [])) is ∙ ap host_summary (sym (take_more entries i d h))
