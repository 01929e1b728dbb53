-- How the logs of a host grow.
use Rattle.std.proofs.Common.{◌≡◌, ℕ, List, [], ◌∷◌, ◌++◌, take, drop, refl, sym, ◌∙◌, ap, append_assoc, take-append-drop}
use Rattle.cap_entries.specs.declared.host.HostEntry.{HostEntry}
use Rattle.cap_entries.specs.Log.{item_from, log}
use Rattle.cap_entries.specs.Fronts.{IsPrefixOf}

pub log-append : (es fs : List HostEntry) (place : ℕ) → log (es ++ fs) place ≡ log es place ++ log fs place
log-append [] fs place = refl
log-append (e ∷ es) fs place = ap (λ l. item_from place e ++ l) (log-append es fs place) ∙ sym (append_assoc (item_from place e) (log es place) (log fs place))

pub log_grow : (es fs : List HostEntry) (place : ℕ) → IsPrefixOf (log es place) (log (es ++ fs) place)
log_grow es fs place = (log fs place, sym (log-append es fs place))

-- the log after what stands of what was tried is a front of the log after all of it
pub log_kept : (es fs : List HostEntry) (kept place : ℕ) → IsPrefixOf (log (es ++ take kept fs) place) (log (es ++ fs) place)
log_kept es fs kept place = (
  log (drop kept fs) place,
  sym (log-append (es ++ take kept fs) (drop kept fs) place)
      ∙ ap (λ l. log l place) (append_assoc es (take kept fs) (drop kept fs) ∙ ap (λ l. es ++ l) (take-append-drop kept fs)),
)
