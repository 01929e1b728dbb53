-- How what a host keeps grows with its journal.
use Rattle.std.proofs.Common.{◌≡◌, ◌⊎◌, ℕ, zero, suc, ◌+◌, ◌<◌, ◌≤◌, Bool, true, false, List, [], ◌∷◌, ◌++◌, length, map, Option, Some, None, refl, sym, ◌∙◌, ap, subst, inl, inr, ⊎_elim, append_assoc, append-nil, arith, eqb-true, eq-eqb, lt-ltb, length-append}
use Rattle.std.specs.Prelude.{◌&&◌, ◌==◌, nat_lt, nat_le, slice_get, slice_set}
use Rattle.std.proofs.lemmas.Bool.{cond-true, cond-false, cases_Bool, cases_eq, false≢true, both_ways, and_parts, and_from, le-leb}
use Rattle.std.proofs.lemmas.Option.{none-some, same_Some, slice_get_within}
use Rattle.std.proofs.lemmas.List.{set-set}
use Rattle.cap_base.specs.declared.parameters.Row.{Row}
use Rattle.cap_base.specs.declared.item.Item.{Item}
use Rattle.cap_base.specs.Fits.{fits, all_fit}
use Rattle.cap_entries.specs.Settings.{HostSettings}
use Rattle.cap_entries.specs.declared.host.HostEntry.{HostEntry}
use Rattle.cap_entries.specs.declared.host.HostEntry.TheVariants.{Setup, Took, Published}
use Rattle.cap_entries.specs.Log.{item_from, log, published, setup_of}
use Rattle.cap_entries.specs.LogLaws.{log-append}
use Rattle.cap_entries.specs.HostSummaryLaws.{log-push}
use Rattle.cap_entries.specs.HostAllowed.{host_allowed, all_host_allowed, is_legal_host, LegalHost}
use Rattle.cap_entries.specs.HostAllowedLaws.{all_host_allowed-append}
use Rattle.cap_entries.specs.LogsFit.{logs_fit}
use Rattle.cap_host_answers.specs.StaysLegal.{legal_all, legal_grown, same_setup, all_took_allowed}
use Rattle.cap_host_index.specs.Noted.{IsIndex}
use Rattle.cap_host_index.specs.NotedLaws.{index_kept, index_kept_all}
use Rattle.cap_host_index.specs.declared.index.LogIndex.{LogIndex}
use Rattle.cap_host.specs.Ties.{HostTies}

-- what stands at a place of a list in which one element was replaced
pub get_replaced : {X : Type 0} (xs : List X) (i : ℕ) (y : X) (j : ℕ) (x : X) → slice_get (slice_set xs i y) j ≡ Some x → ((i ≡ j) × (x ≡ y)) ⊎ ((i ≡ j → ⊥) × (slice_get xs j ≡ Some x))
get_replaced [] i y j x e = absurd (none-some x e)
get_replaced (z ∷ xs) zero y zero x e = inl (refl, sym (same_Some y x e))
get_replaced (z ∷ xs) zero y (suc j) x e = inr ((λ is. let no' : ⊥ = omega (arith, is) in no'), e)
get_replaced (z ∷ xs) (suc i) y zero x e = inr ((λ is. let no' : ⊥ = omega (arith, is) in no'), e)
get_replaced (z ∷ xs) (suc i) y (suc j) x e =
    ⊎_elim (λ same. inl (ap suc same.0, same.1)) (λ other. inr ((λ is. other.0 (let back : i ≡ j = omega (arith, is) in back)), other.1)) (get_replaced xs i y j x e)

length-set' : {X : Type 0} (xs : List X) (i : ℕ) (y : X) → length (slice_set xs i y) ≡ length xs
length-set' [] i y = refl
length-set' (z ∷ xs) zero y = refl
length-set' (z ∷ xs) (suc i) y = ap suc (length-set' xs i y)

pub length_replaced : {X : Type 0} (xs : List X) (i : ℕ) (y : X) → length (slice_set xs i y) ≡ length xs
length_replaced xs i y = length-set' xs i y

-- the index of one log, anew
pub ties_swapped : (entries : List HostEntry) (settings : HostSettings) (sets : List (List Row)) (logs : List LogIndex) (place : ℕ) (y : LogIndex) → HostTies entries settings sets logs → IsIndex entries place y → HostTies entries settings sets (slice_set logs place y)
ties_swapped entries settings sets logs place y ties index =
    record {
      legal = ties.legal;
      set_up = ties.set_up;
      sets_are = ties.sets_are;
      logs_are = λ terminal x at.
          ⊎_elim
          (λ same. subst (λ t. IsIndex entries t x) same.0 (subst (λ (z : LogIndex). IsIndex entries place z) (sym same.1) index))
          (λ other. ties.logs_are terminal x other.1)
          (get_replaced logs place y terminal x at);
    }

pub legal_from_all : (entries : List HostEntry) (entry : HostEntry) → all_host_allowed [] (entries ++ entry ∷ []) ≡ true → LegalHost (entries ++ entry ∷ [])
legal_from_all [] entry ok = ok
legal_from_all (first ∷ entries) entry ok = ok

pub published-append : (es fs : List HostEntry) → published (es ++ fs) ≡ published es ++ published fs
published-append [] fs = refl
published-append (Setup settings ∷ es) fs = published-append es fs
published-append (Took place item ∷ es) fs = published-append es fs
published-append (Published version rows ∷ es) fs = ap (λ (l : List (List Row)). rows ∷ l) (published-append es fs)

none_published : (place : ℕ) (items : List Item) → published (map (Took place) items) ≡ []
none_published place [] = refl
none_published place (item ∷ items) = none_published place items

-- items of one terminal were taken, and its index has them
pub ties_took : (entries : List HostEntry) (settings : HostSettings) (sets : List (List Row)) (logs : List LogIndex) (place : ℕ) (items : List Item) (y : LogIndex) → HostTies entries settings sets logs
    → place < length settings.terminals → all_fit (log entries place) items ≡ true → IsIndex (entries ++ map (Took place) items) place y → HostTies (entries ++ map (Took place) items) settings sets (slice_set logs place y)
ties_took entries settings sets logs place items y ties within fit index =
    let inside : place < length (setup_of entries).terminals = subst (λ (s : HostSettings). place < length s.terminals) ties.set_up within in
    record {
      legal = legal_grown entries (map (Took place) items) ties.legal (all_host_allowed-append [] entries (map (Took place) items) (legal_all entries ties.legal) (all_took_allowed entries place items ties.legal inside fit));
      set_up = ties.set_up ∙ sym (same_setup entries ties.legal (map (Took place) items));
      sets_are = ties.sets_are ∙ sym (published-append entries (map (Took place) items) ∙ (ap (λ (l : List (List Row)). published entries ++ l) (none_published place items) ∙ append-nil (published entries)));
      logs_are = λ terminal x at.
          ⊎_elim
          (λ same. subst (λ t. IsIndex (entries ++ map (Took place) items) t x) same.0 (subst (λ (z : LogIndex). IsIndex (entries ++ map (Took place) items) place z) (sym same.1) index))
          (λ other. index_kept_all entries place items terminal x (unequal place terminal other.0 (cases_Bool (place == terminal))) (ties.logs_are terminal x other.1))
          (get_replaced logs place y terminal x at);
    }
  where
    unequal : (a b : ℕ) → (a ≡ b → ⊥) → ((a == b) ≡ true) ⊎ ((a == b) ≡ false) → (a == b) ≡ false
    unequal a b ne (inl equal) = absurd (ne (eqb-true a b equal))
    unequal a b ne (inr other) = other

published_allowed : (entries : List HostEntry) (rows : List Row) → LegalHost entries → length (published entries) < 10000 → host_allowed entries (Published (length (published entries) + 1) rows) ≡ true
published_allowed [] rows legal few = absurd (false≢true legal)
published_allowed (first ∷ entries) rows legal few =
    let n = length (published (first ∷ entries)) + 1 in
    and_from (n == n) (nat_le n 10000) (eq-eqb n n refl) (le-leb n 10000 (omega (arith, few)))

-- a set was published
pub ties_published : (entries : List HostEntry) (settings : HostSettings) (sets : List (List Row)) (logs : List LogIndex) (rows : List Row) → HostTies entries settings sets logs → length sets < 10000
    → HostTies (entries ++ Published (length sets + 1) rows ∷ []) settings (sets ++ rows ∷ []) logs
ties_published entries settings sets logs rows ties few =
    let many : length sets ≡ length (published entries) = ap length ties.sets_are in
    let entry = Published (length sets + 1) rows in
    record {
      legal = legal_grown entries (entry ∷ []) ties.legal (all_host_allowed-append [] entries (entry ∷ []) (legal_all entries ties.legal) (and_from _ _ (ap (λ k. host_allowed entries (Published (k + 1) rows)) many ∙ published_allowed entries rows ties.legal (omega (arith, few, many))) refl));
      set_up = ties.set_up ∙ sym (same_setup entries ties.legal (entry ∷ []));
      sets_are = ap (λ (l : List (List Row)). l ++ rows ∷ []) ties.sets_are ∙ sym (published-append entries (entry ∷ []));
      logs_are = λ terminal x at. index_kept entries entry terminal x refl (ties.logs_are terminal x at);
    }

-- each log fits
pub ties_fit : (entries : List HostEntry) (settings : HostSettings) (sets : List (List Row)) (logs : List LogIndex) → HostTies entries settings sets logs → (place : ℕ) → all_fit [] (log entries place) ≡ true
ties_fit entries settings sets logs ties place = logs_fit entries (legal_all entries ties.legal) place
