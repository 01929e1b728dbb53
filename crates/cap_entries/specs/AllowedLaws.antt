-- How legal journals grow.
use Rattle.std.proofs.Common.{◌≡◌, ℕ, ◌+◌, ◌<◌, true, false, List, [], ◌∷◌, ◌++◌, length, take, drop, get_or, refl, sym, ◌∙◌, ap, append_assoc, append-nil, take-append-drop}
use Rattle.std.proofs.lemmas.List.{drop_more}
use Rattle.std.proofs.lemmas.Bool.{false≢true, and_parts, and_from}
use Rattle.cap_entries.specs.declared.terminal.TermEntry.{TermEntry}
use Rattle.cap_entries.specs.Entry.{is_setup}
use Rattle.cap_entries.specs.Allowed.{allowed_after, allowed, all_allowed}

-- entries allowed one after another
pub all_allowed-append : (before entries more : List TermEntry) → all_allowed before entries ≡ true → all_allowed (before ++ entries) more ≡ true → all_allowed before (entries ++ more) ≡ true
all_allowed-append before [] more p q = rw append-nil at q
all_allowed-append before (entry ∷ entries) more p q =
    let parts = and_parts (allowed before entry) (all_allowed (before ++ entry ∷ []) entries) p in
    and_from _ _ parts.0 (all_allowed-append (before ++ entry ∷ []) entries more parts.1 (rw append_assoc q))

pub all_allowed_front : (before entries more : List TermEntry) → all_allowed before (entries ++ more) ≡ true → all_allowed before entries ≡ true
all_allowed_front before [] more p = refl
all_allowed_front before (entry ∷ entries) more p =
    let parts = and_parts (allowed before entry) (all_allowed (before ++ entry ∷ []) (entries ++ more)) p in
    and_from _ _ parts.0 (all_allowed_front (before ++ entry ∷ []) entries more parts.1)

pub all_allowed_back : (before entries more : List TermEntry) → all_allowed before (entries ++ more) ≡ true → all_allowed (before ++ entries) more ≡ true
all_allowed_back before [] more p = rw append-nil p
all_allowed_back before (entry ∷ entries) more p =
    rw append_assoc at (all_allowed_back (before ++ entry ∷ []) entries more (and_parts (allowed before entry) (all_allowed (before ++ entry ∷ []) (entries ++ more)) p).1)

-- induction along a legal journal
module _ (P : List TermEntry → Type 0) (step : (before : List TermEntry) (entry : TermEntry) → P before → allowed before entry ≡ true → P (before ++ entry ∷ [])) where
  pub along : (before entries : List TermEntry) → P before → all_allowed before entries ≡ true → P (before ++ entries)
  along before [] p q = rw append-nil p
  along before (entry ∷ entries) p q =
      let parts = and_parts (allowed before entry) (all_allowed (before ++ entry ∷ []) entries) q in
      rw append_assoc at (along (before ++ entry ∷ []) entries (step before entry p parts.0) parts.1)

-- an entry other than the set-up is allowed by the rules after it
pub allowed_is : (before : List TermEntry) (entry : TermEntry) → is_setup entry ≡ false → allowed before entry ≡ true → allowed_after before entry ≡ true
allowed_is [] entry unset e = absurd (false≢true (sym unset ∙ e))
allowed_is (head ∷ rest) entry unset e = e

-- the same of the entries up to a place, and of the entry at that place
pub all_allowed-take : (entries : List TermEntry) (i : ℕ) → all_allowed [] entries ≡ true → all_allowed [] (take i entries) ≡ true
all_allowed-take entries i p = all_allowed_front [] (take i entries) (drop i entries) (ap (all_allowed []) (take-append-drop i entries) ∙ p)

pub allowed-at : (entries : List TermEntry) (i : ℕ) (d : TermEntry) → i < length entries → all_allowed [] entries ≡ true → allowed (take i entries) (get_or entries i d) ≡ true
allowed-at entries i d h p =
    let back : all_allowed (take i entries) (drop i entries) ≡ true = all_allowed_back [] (take i entries) (drop i entries) (ap (all_allowed []) (take-append-drop i entries) ∙ p) in
    (and_parts (allowed (take i entries) (get_or entries i d)) (all_allowed (take i entries ++ get_or entries i d ∷ []) (drop (i + 1) entries))
    (sym (ap (all_allowed (take i entries)) (drop_more entries i d h)) ∙ back)).0
