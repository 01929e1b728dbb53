-- Where no entry is the first that is not allowed, all are.
use Rattle.std.proofs.Common.{◌≡◌, ℕ, ◌+◌, ◌<◌, take, drop, get_or, true, List, [], ◌∷◌, ◌++◌, length, None, refl, sym, ◌∙◌, ap, ⊎_elim}
use Rattle.std.specs.Prelude.{◌↔◌}
use Rattle.std.proofs.lemmas.Bool.{cond-true, cond-false, cases_Bool, false≢true, and_parts, and_from}
use Rattle.std.proofs.lemmas.Option.{none-some}
use Rattle.std.proofs.lemmas.List.{take_more, drop_more}
use Rattle.cap_entries.specs.AllowedLaws.{all_allowed-append}
use Rattle.cap_entries.specs.HostAllowedLaws.{all_host_allowed-append}
use Rattle.cap_entries.specs.declared.terminal.TermEntry.{TermEntry}
use Rattle.cap_entries.specs.declared.host.HostEntry.{HostEntry}
use Rattle.cap_entries.specs.Allowed.{allowed, all_allowed, is_legal}
use Rattle.cap_entries.specs.HostAllowed.{host_allowed, all_host_allowed, is_legal_host}
use Rattle.cap_entries.specs.FirstNotAllowed.{first_refused, first_not_allowed, first_host_refused, first_host_not_allowed}

none_refused : (before entries : List TermEntry) → first_refused before entries ≡ None → all_allowed before entries ≡ true
none_refused before [] e = refl
none_refused before (entry ∷ entries) e =
    ⊎_elim
    (λ fine. and_from _ _ fine (none_refused (before ++ entry ∷ []) entries (sym (cond-true (allowed before entry) _ _ fine) ∙ e)))
    (λ refused. absurd (none-some (length before) (sym e ∙ cond-false (allowed before entry) _ _ refused)))
    (cases_Bool (allowed before entry))

all_none : (before entries : List TermEntry) → all_allowed before entries ≡ true → first_refused before entries ≡ None
all_none before [] e = refl
all_none before (entry ∷ entries) e =
    let parts = and_parts (allowed before entry) (all_allowed (before ++ entry ∷ []) entries) e in
    cond-true (allowed before entry) _ _ parts.0 ∙ all_none (before ++ entry ∷ []) entries parts.1

-- exactly the legal lists have none
pub legal_exactly : (entries : List TermEntry) → (first_not_allowed entries ≡ None) ↔ (is_legal entries ≡ true)
legal_exactly [] = ((λ e. absurd (none-some 0 (sym e))), (λ e. absurd (false≢true e)))
legal_exactly (entry ∷ entries) = ((λ e. none_refused [] (entry ∷ entries) e), (λ e. all_none [] (entry ∷ entries) e))

none_host_refused : (before entries : List HostEntry) → first_host_refused before entries ≡ None → all_host_allowed before entries ≡ true
none_host_refused before [] e = refl
none_host_refused before (entry ∷ entries) e =
    ⊎_elim
    (λ fine. and_from _ _ fine (none_host_refused (before ++ entry ∷ []) entries (sym (cond-true (host_allowed before entry) _ _ fine) ∙ e)))
    (λ refused. absurd (none-some (length before) (sym e ∙ cond-false (host_allowed before entry) _ _ refused)))
    (cases_Bool (host_allowed before entry))

all_host_none : (before entries : List HostEntry) → all_host_allowed before entries ≡ true → first_host_refused before entries ≡ None
all_host_none before [] e = refl
all_host_none before (entry ∷ entries) e =
    let parts = and_parts (host_allowed before entry) (all_host_allowed (before ++ entry ∷ []) entries) e in
    cond-true (host_allowed before entry) _ _ parts.0 ∙ all_host_none (before ++ entry ∷ []) entries parts.1

pub legal_host_exactly : (entries : List HostEntry) → (first_host_not_allowed entries ≡ None) ↔ (is_legal_host entries ≡ true)
legal_host_exactly [] = ((λ e. absurd (none-some 0 (sym e))), (λ e. absurd (false≢true e)))
legal_host_exactly (entry ∷ entries) = ((λ e. none_host_refused [] (entry ∷ entries) e), (λ e. all_host_none [] (entry ∷ entries) e))

-- one entry more that is allowed
pub refused-take : (entries : List TermEntry) (i : ℕ) (d : TermEntry) → i < length entries → allowed (take i entries) (get_or entries i d) ≡ true
    → first_refused (take (i + 1) entries) (drop (i + 1) entries) ≡ first_refused (take i entries) (drop i entries)
refused-take entries i d h ok =
    sym (ap (first_refused (take i entries)) (drop_more entries i d h)
    ∙ (cond-true (allowed (take i entries) (get_or entries i d)) _ _ ok ∙ ap (λ l. first_refused l (drop (i + 1) entries)) (sym (take_more entries i d h))))

pub legal-take : (entries : List TermEntry) (i : ℕ) (d : TermEntry) → i < length entries → allowed (take i entries) (get_or entries i d) ≡ true → all_allowed [] (take i entries) ≡ true → all_allowed [] (take (i + 1) entries) ≡ true
legal-take entries i d h ok legal = ap (all_allowed []) (take_more entries i d h) ∙ all_allowed-append [] (take i entries) (get_or entries i d ∷ []) legal (and_from _ _ ok refl)

pub host_refused-take : (entries : List HostEntry) (i : ℕ) (d : HostEntry) → i < length entries → host_allowed (take i entries) (get_or entries i d) ≡ true
    → first_host_refused (take (i + 1) entries) (drop (i + 1) entries) ≡ first_host_refused (take i entries) (drop i entries)
host_refused-take entries i d h ok =
    sym (ap (first_host_refused (take i entries)) (drop_more entries i d h)
    ∙ (cond-true (host_allowed (take i entries) (get_or entries i d)) _ _ ok ∙ ap (λ l. first_host_refused l (drop (i + 1) entries)) (sym (take_more entries i d h))))

pub legal_host-take : (entries : List HostEntry) (i : ℕ) (d : HostEntry) → i < length entries → host_allowed (take i entries) (get_or entries i d) ≡ true → all_host_allowed [] (take i entries) ≡ true → all_host_allowed [] (take (i + 1) entries) ≡ true
legal_host-take entries i d h ok legal = ap (all_host_allowed []) (take_more entries i d h) ∙ all_host_allowed-append [] (take i entries) (get_or entries i d ∷ []) legal (and_from _ _ ok refl)

-- and all of their entries are allowed
pub none_all : (entries : List TermEntry) → first_not_allowed entries ≡ None → all_allowed [] entries ≡ true
none_all [] e = refl
none_all (entry ∷ entries) e = none_refused [] (entry ∷ entries) e

pub none_all_host : (entries : List HostEntry) → first_host_not_allowed entries ≡ None → all_host_allowed [] entries ≡ true
none_all_host [] e = refl
none_all_host (entry ∷ entries) e = none_host_refused [] (entry ∷ entries) e
