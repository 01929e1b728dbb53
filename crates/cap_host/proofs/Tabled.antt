-- How what a host keeps grows, while its journal is read.
use Rattle.std.proofs.Common.{◌≡◌, ◌⊎◌, ℕ, zero, suc, inl, inr, ◌<◌, Bool, true, false, List, [], ◌∷◌, ◌++◌, length, Option, Some, None, refl, sym, ◌∙◌, ap, subst, ⊎_elim, append-nil, eqb-true, ltb-true}
use Rattle.std.specs.Prelude.{◌==◌, nat_lt, slice_get, slice_set}
use Rattle.std.proofs.lemmas.Bool.{cond-false, cases_Bool, false≢true, and_parts, and_from}
use Rattle.std.proofs.lemmas.Option.{none-some, same_Some}
use Rattle.cap_base.specs.declared.parameters.Row.{Row}
use Rattle.cap_base.specs.declared.item.Item.{Item}
use Rattle.cap_base.specs.Fits.{fits, all_fit}
use Rattle.cap_entries.specs.Settings.{HostSettings}
use Rattle.cap_entries.specs.declared.host.HostEntry.{HostEntry}
use Rattle.cap_entries.specs.declared.host.HostEntry.TheVariants.{Setup, Took, Published}
use Rattle.cap_entries.specs.Log.{log, published, setup_of}
use Rattle.cap_entries.specs.HostAllowed.{host_allowed, all_host_allowed, LegalHost}
use Rattle.cap_entries.specs.FirstNotAllowed.{first_host_not_allowed}
use Rattle.cap_host_index.specs.Noted.{IsIndex}
use Rattle.cap_host_index.specs.NotedLaws.{index_kept}
use Rattle.cap_host_index.specs.declared.index.LogIndex.{LogIndex}
use Rattle.cap_host.specs.declared.tables.Tables.{Tables}
use Rattle.cap_host.specs.Tables.{TablesTie, setup_in}
use Rattle.cap_host.specs.Ties.{HostTies}
use Rattle.cap_host.proofs.TiesLaws.{get_replaced, length_replaced, published-append}

setup_of_more : (first : HostEntry) (entries more : List HostEntry) → setup_of ((first ∷ entries) ++ more) ≡ setup_of (first ∷ entries)
setup_of_more (Setup settings) entries more = refl
setup_of_more (Took place item) entries more = refl
setup_of_more (Published version rows) entries more = refl

setup_in_more : (first : HostEntry) (entries more : List HostEntry) → setup_in ((first ∷ entries) ++ more) ≡ setup_in (first ∷ entries)
setup_in_more (Setup settings) entries more = refl
setup_in_more (Took place item) entries more = refl
setup_in_more (Published version rows) entries more = refl

pub tie_setup : (entries : List HostEntry) (old new : Tables) (settings : HostSettings) → TablesTie entries old → host_allowed entries (Setup settings) ≡ true → new.setup ≡ Some settings → new.sets.items ≡ old.sets.items
    → length new.logs.items ≡ length settings.terminals → ((place : ℕ) (index : LogIndex) → slice_get new.logs.items place ≡ Some index → (terminal : ℕ) → IsIndex [] terminal index) → TablesTie (entries ++ Setup settings ∷ []) new
tie_setup [] old new settings tie ok set sets wide empty = record {
  set_up = set;
  wide = wide;
  sets_are = sets ∙ tie.sets_are;
  logs_are = λ terminal index at. index_kept [] (Setup settings) terminal index refl (empty terminal index at terminal);
}
tie_setup (first ∷ entries) old new settings tie ok set sets wide empty = absurd (false≢true ok)

pub tie_published : (entries : List HostEntry) (old new : Tables) (version : ℕ) (rows : List Row) → TablesTie entries old → host_allowed entries (Published version rows) ≡ true → new.setup ≡ old.setup → new.logs.items ≡ old.logs.items
    → new.sets.items ≡ old.sets.items ++ rows ∷ [] → TablesTie (entries ++ Published version rows ∷ []) new
tie_published [] old new version rows tie ok set logs sets = absurd (false≢true ok)
tie_published (first ∷ entries) old new version rows tie ok set logs sets =
    let entry = Published version rows in
    record {
      set_up = set ∙ (tie.set_up ∙ sym (setup_in_more first entries (entry ∷ [])));
      wide = ap (λ (l : List LogIndex). length l) logs ∙ (tie.wide ∙ sym (ap (λ (s : HostSettings). length s.terminals) (setup_of_more first entries (entry ∷ []))));
      sets_are = sets ∙ (ap (λ (l : List (List Row)). l ++ rows ∷ []) tie.sets_are ∙ sym (published-append (first ∷ entries) (entry ∷ [])));
      logs_are = λ terminal index at. index_kept (first ∷ entries) entry terminal index refl (tie.logs_are terminal index (subst (λ (l : List LogIndex). slice_get l terminal ≡ Some index) logs at));
    }

unequal : (a b : ℕ) → (a ≡ b → ⊥) → ((a == b) ≡ true) ⊎ ((a == b) ≡ false) → (a == b) ≡ false
unequal a b ne split = ⊎_elim (λ equal. absurd (ne (eqb-true a b equal))) (λ other. other) split

pub tie_took : (entries : List HostEntry) (old new : Tables) (place : ℕ) (item : Item) (y : LogIndex) → TablesTie entries old → host_allowed entries (Took place item) ≡ true → new.setup ≡ old.setup → new.sets.items ≡ old.sets.items
    → new.logs.items ≡ slice_set old.logs.items place y → IsIndex (entries ++ Took place item ∷ []) place y → TablesTie (entries ++ Took place item ∷ []) new
tie_took [] old new place item y tie ok set sets logs index = absurd (false≢true ok)
tie_took (first ∷ entries) old new place item y tie ok set sets logs index =
    let all = first ∷ entries in
    let entry = Took place item in
    record {
      set_up = set ∙ (tie.set_up ∙ sym (setup_in_more first entries (entry ∷ [])));
      wide = ap (λ (l : List LogIndex). length l) logs ∙ (length_replaced old.logs.items place y ∙ (tie.wide ∙ sym (ap (λ (s : HostSettings). length s.terminals) (setup_of_more first entries (entry ∷ [])))));
      sets_are = sets ∙ (tie.sets_are ∙ sym (published-append all (entry ∷ []) ∙ append-nil (published all)));
      logs_are = λ terminal x at.
          ⊎_elim
          (λ same. subst (λ t. IsIndex (all ++ entry ∷ []) t x) same.0 (subst (λ (z : LogIndex). IsIndex (all ++ entry ∷ []) place z) (sym same.1) index))
          (λ other. index_kept all entry terminal x (cond-false (place == terminal) _ _ (unequal place terminal other.0 (cases_Bool (place == terminal)))) (tie.logs_are terminal x other.1))
          (get_replaced old.logs.items place y terminal x (subst (λ (l : List LogIndex). slice_get l terminal ≡ Some x) logs at));
    }

-- what an item that is allowed says
pub took_within : (entries : List HostEntry) (tables : Tables) (place : ℕ) (item : Item) → TablesTie entries tables → host_allowed entries (Took place item) ≡ true → place < length tables.logs.items
took_within [] tables place item tie ok = absurd (false≢true ok)
took_within (first ∷ entries) tables place item tie ok =
    subst (λ (n : ℕ). place < n) (sym tie.wide) (ltb-true place (length (setup_of (first ∷ entries)).terminals) (and_parts (nat_lt place (length (setup_of (first ∷ entries)).terminals)) (fits (log (first ∷ entries) place) item) ok).0)

pub took_fits : (entries : List HostEntry) (place : ℕ) (item : Item) → host_allowed entries (Took place item) ≡ true → all_fit (log entries place) (item ∷ []) ≡ true
took_fits [] place item ok = absurd (false≢true ok)
took_fits (first ∷ entries) place item ok =
    and_from (fits (log (first ∷ entries) place) item) true (and_parts (nat_lt place (length (setup_of (first ∷ entries)).terminals)) (fits (log (first ∷ entries) place) item) ok).1 refl

-- all entries were read
pub ties_read : (entries : List HostEntry) (tables : Tables) (settings : HostSettings) → TablesTie entries tables → tables.setup ≡ Some settings → all_host_allowed [] entries ≡ true → HostTies entries settings tables.sets.items tables.logs.items
ties_read [] tables settings tie set ok = absurd (none-some settings (sym tie.set_up ∙ set))
ties_read (first ∷ entries) tables settings tie set ok = record {
  legal = ok;
  set_up = same_setup first entries settings (sym tie.set_up ∙ set);
  sets_are = tie.sets_are;
  logs_are = tie.logs_are;
}
  where
    same_setup : (first : HostEntry) (entries : List HostEntry) (settings : HostSettings) → setup_in (first ∷ entries) ≡ Some settings → settings ≡ setup_of (first ∷ entries)
    same_setup (Setup own) entries settings is = sym (same_Some own settings is)
    same_setup (Took place item) entries settings is = absurd (none-some settings is)
    same_setup (Published version rows) entries settings is = absurd (none-some settings is)

pub setup_missing : (entries : List HostEntry) → setup_in entries ≡ None → all_host_allowed [] entries ≡ true → first_host_not_allowed entries ≡ Some 0
setup_missing [] is ok = refl
setup_missing (Setup own ∷ rest) is ok = absurd (none-some own (sym is))
setup_missing (Took place item ∷ rest) is ok = absurd (false≢true ok)
setup_missing (Published version rows ∷ rest) is ok = absurd (false≢true ok)

pub get_pushed : {X : Type 0} (xs : List X) (y : X) (i : ℕ) (x : X) → slice_get (xs ++ y ∷ []) i ≡ Some x → (slice_get xs i ≡ Some x) ⊎ (x ≡ y)
get_pushed [] y zero x e = inr (sym (same_Some y x e))
get_pushed [] y (suc i) x e = absurd (none-some x e)
get_pushed (z ∷ zs) y zero x e = inl e
get_pushed (z ∷ zs) y (suc i) x e = get_pushed zs y i x e
