-- How a host's legal journals grow.
use Rattle.std.proofs.Common.{◌≡◌, ℕ, ◌+◌, ◌<◌, true, false, List, [], ◌∷◌, ◌++◌, length, take, drop, get_or, refl, sym, ◌∙◌, ap, append_assoc, append-nil, take-append-drop}
use Rattle.std.proofs.lemmas.List.{drop_more}
use Rattle.std.proofs.lemmas.Bool.{false≢true, and_parts, and_from}
use Rattle.cap_entries.specs.declared.host.HostEntry.{HostEntry}
use Rattle.cap_entries.specs.HostAllowed.{is_host_setup}
use Rattle.cap_entries.specs.HostAllowed.{host_allowed_after, host_allowed, all_host_allowed}

-- entries allowed one after another
pub all_host_allowed-append : (before entries more : List HostEntry) → all_host_allowed before entries ≡ true → all_host_allowed (before ++ entries) more ≡ true → all_host_allowed before (entries ++ more) ≡ true
all_host_allowed-append before [] more p q = rw append-nil at q
all_host_allowed-append before (entry ∷ entries) more p q =
    let parts = and_parts (host_allowed before entry) (all_host_allowed (before ++ entry ∷ []) entries) p in
    and_from _ _ parts.0 (all_host_allowed-append (before ++ entry ∷ []) entries more parts.1 (rw append_assoc q))

pub all_host_allowed_front : (before entries more : List HostEntry) → all_host_allowed before (entries ++ more) ≡ true → all_host_allowed before entries ≡ true
all_host_allowed_front before [] more p = refl
all_host_allowed_front before (entry ∷ entries) more p =
    let parts = and_parts (host_allowed before entry) (all_host_allowed (before ++ entry ∷ []) (entries ++ more)) p in
    and_from _ _ parts.0 (all_host_allowed_front (before ++ entry ∷ []) entries more parts.1)

pub all_host_allowed_back : (before entries more : List HostEntry) → all_host_allowed before (entries ++ more) ≡ true → all_host_allowed (before ++ entries) more ≡ true
all_host_allowed_back before [] more p = rw append-nil p
all_host_allowed_back before (entry ∷ entries) more p =
    rw append_assoc at (all_host_allowed_back (before ++ entry ∷ []) entries more (and_parts (host_allowed before entry) (all_host_allowed (before ++ entry ∷ []) (entries ++ more)) p).1)

-- induction along a legal journal
module _ (P : List HostEntry → Type 0) (step : (before : List HostEntry) (entry : HostEntry) → P before → host_allowed before entry ≡ true → P (before ++ entry ∷ [])) where
  pub along_host : (before entries : List HostEntry) → P before → all_host_allowed before entries ≡ true → P (before ++ entries)
  along_host before [] p q = rw append-nil p
  along_host before (entry ∷ entries) p q =
      let parts = and_parts (host_allowed before entry) (all_host_allowed (before ++ entry ∷ []) entries) q in
      rw append_assoc at (along_host (before ++ entry ∷ []) entries (step before entry p parts.0) parts.1)

-- an entry other than the set-up is allowed by the rules after it
pub host_allowed_is : (before : List HostEntry) (entry : HostEntry) → is_host_setup entry ≡ false → host_allowed before entry ≡ true → host_allowed_after before entry ≡ true
host_allowed_is [] entry unset e = absurd (false≢true (sym unset ∙ e))
host_allowed_is (head ∷ rest) entry unset e = e

-- the same of the entries up to a place, and of the entry at that place
pub all_host_allowed-take : (entries : List HostEntry) (i : ℕ) → all_host_allowed [] entries ≡ true → all_host_allowed [] (take i entries) ≡ true
all_host_allowed-take entries i p = all_host_allowed_front [] (take i entries) (drop i entries) (ap (all_host_allowed []) (take-append-drop i entries) ∙ p)

pub host_allowed-at : (entries : List HostEntry) (i : ℕ) (d : HostEntry) → i < length entries → all_host_allowed [] entries ≡ true → host_allowed (take i entries) (get_or entries i d) ≡ true
host_allowed-at entries i d h p =
    let back : all_host_allowed (take i entries) (drop i entries) ≡ true = all_host_allowed_back [] (take i entries) (drop i entries) (ap (all_host_allowed []) (take-append-drop i entries) ∙ p) in
    (and_parts (host_allowed (take i entries) (get_or entries i d)) (all_host_allowed (take i entries ++ get_or entries i d ∷ []) (drop (i + 1) entries))
    (sym (ap (all_host_allowed (take i entries)) (drop_more entries i d h)) ∙ back)).0
