-- The items of each log of a host's legal journal fit one after another.
use Rattle.std.proofs.Common.{◌≡◌, ℕ, true, List, [], ◌∷◌, ◌++◌, length, refl, ◌∙◌, ap, subst, ⊎_elim, append-nil, eqb-true}
use Rattle.std.specs.Prelude.{◌==◌, nat_lt}
use Rattle.std.proofs.lemmas.Bool.{cond-true, cond-false, cases_Bool, and_parts, and_from}
use Rattle.cap_base.specs.Fits.{fits, all_fit}
use Rattle.cap_entries.specs.declared.host.HostEntry.{HostEntry}
use Rattle.cap_entries.specs.declared.host.HostEntry.TheVariants.{Setup, Took, Published}
use Rattle.cap_entries.specs.FitsLaws.{all_fit-append}
use Rattle.cap_entries.specs.Log.{item_from, log, setup_of}
use Rattle.cap_entries.specs.HostAllowed.{host_allowed, all_host_allowed}
use Rattle.cap_entries.specs.HostAllowedLaws.{along_host, host_allowed_is}
use Rattle.cap_entries.specs.HostSummaryLaws.{log-push}

abbrev LogsFit : List HostEntry → Type 0
LogsFit entries = (place : ℕ) → all_fit [] (log entries place) ≡ true

grown : (entries : List HostEntry) (entry : HostEntry) (place : ℕ) → all_fit [] (log entries place ++ item_from place entry) ≡ true → all_fit [] (log (entries ++ entry ∷ []) place) ≡ true
grown entries entry place fit = ap (all_fit []) (log-push entries entry place) ∙ fit

logs_step : (entries : List HostEntry) (entry : HostEntry) → LogsFit entries → host_allowed entries entry ≡ true → LogsFit (entries ++ entry ∷ [])
logs_step entries (Setup settings) fit ok place = grown entries (Setup settings) place (ap (all_fit []) (append-nil (log entries place)) ∙ fit place)
logs_step entries (Took terminal item) fit ok place =
    let parts = and_parts (nat_lt terminal (length (setup_of entries).terminals)) (fits (log entries terminal) item) (host_allowed_is entries (Took terminal item) refl ok) in
    grown entries (Took terminal item) place
    (⊎_elim
    (λ equal.
    let here : fits (log entries place) item ≡ true = subst (λ j. fits (log entries j) item ≡ true) (eqb-true terminal place equal) parts.1 in
    ap (λ l. all_fit [] (log entries place ++ l)) (cond-true (terminal == place) _ _ equal) ∙ all_fit-append [] (log entries place) (item ∷ []) (fit place) (and_from _ _ here refl))
    (λ unequal. ap (λ l. all_fit [] (log entries place ++ l)) (cond-false (terminal == place) _ _ unequal) ∙ (ap (all_fit []) (append-nil (log entries place)) ∙ fit place))
    (cases_Bool (terminal == place)))
logs_step entries (Published version rows) fit ok place = grown entries (Published version rows) place (ap (all_fit []) (append-nil (log entries place)) ∙ fit place)

pub logs_fit : (entries : List HostEntry) → all_host_allowed [] entries ≡ true → (place : ℕ) → all_fit [] (log entries place) ≡ true
logs_fit entries ok = along_host LogsFit logs_step [] entries (λ place. refl) ok
