-- How opening goes on from entry to entry.
use Rattle.std.proofs.Common.{◌≡◌, ℕ, ◌+◌, ◌≤◌, ◌<◌, true, false, not, List, [], ◌∷◌, ◌++◌, length, take, drop, Option, Some, None, refl, sym, ◌∙◌, ap, subst, arith, eqb-true, leb-true}
use Rattle.std.specs.Prelude.{count_by, ◌==◌, nat_le, slice_get, Result, Ok, Err, IfErr, IsErrAnd}
use Rattle.std.proofs.lemmas.Bool.{cond-false, false≢true, and_parts, not-true}
use Rattle.std.proofs.lemmas.List.{take_more, drop_more, length-take-le}
use Rattle.std.proofs.lemmas.Option.{get_or_from_slice_get, slice_get_within, none-some, same_Some}
use Rattle.cap_entries.specs.declared.terminal.TermEntry.{TermEntry}
use Rattle.cap_entries.specs.declared.terminal.TermEntry.TheVariants.{Setup, Begin, Declined, Completed, Voided, Cancelled, Closed, Acked, Part}
use Rattle.cap_entries.specs.Settings.{TerminalSettings}
use Rattle.cap_entries.specs.Entry.{is_any_begin, is_completed, is_cancelled, max_of, term_setup_of}
use Rattle.cap_entries.specs.Allowed.{allowed, all_allowed, is_legal}
use Rattle.cap_entries.specs.AllowedLaws.{allowed_is}
use Rattle.cap_entries.specs.FirstNotAllowed.{first_refused, first_not_allowed}
use Rattle.cap_plain.specs.LegalLaws.{max_within}
use Rattle.cap_terminal.specs.declared.index.Index.{Index}
use Rattle.cap_terminal.specs.Index.{TerminalIndex, index_of, change_of}
use Rattle.cap_terminal.specs.View.{index_view}
use Rattle.cap_terminal.specs.Ready.{IsReady}
use Rattle.cap_terminal.specs.Opening.{setup_in, setup_from, HasRoomFor}
use Rattle.cap_terminal.proofs.Ties.{Ties, ties_none, ties_of, pending_at, completed_at}

ties_all : (entries : List TermEntry) → all_allowed [] entries ≡ true → Ties entries (index_of entries)
ties_all [] ok = ties_none
ties_all (first ∷ rest) ok = ties_of (first ∷ rest) ok

-- an entry that is allowed finds the index ready for it
module _ (before : List TermEntry) (x : Index) (view : index_view x ≡ index_of before) (ok : all_allowed [] before ≡ true) where
  ties : Ties before (index_view x)
  ties = subst (λ (y : TerminalIndex). Ties before y) (sym view) (ties_all before ok)

  pub ready_for : (entry : TermEntry) → allowed before entry ≡ true → HasRoomFor x entry → IsReady x (change_of entry)
  ready_for (Setup settings) fine room = tt
  ready_for (Begin n amount account) fine room =
      let parts = and_parts (n == count_by is_any_begin before + 1) (nat_le n (max_of before)) (allowed_is before (Begin n amount account) refl fine) in
      let next : n ≡ count_by is_any_begin before + 1 = eqb-true n (count_by is_any_begin before + 1) parts.0 in
      let within : n ≤ max_of before = leb-true n (max_of before) parts.1 in
      let most : max_of before ≤ 250000 = max_within before ok in
      let begun : length x.sales.items ≡ count_by is_any_begin before = ties.count in
      record { few = omega (arith, next, within, most, begun); room = room.0; sale_room = omega (arith, room.1); noted = room.2 }
  ready_for (Declined n) fine room = let at = pending_at before (index_view x) n ties (allowed_is before (Declined n) refl fine) in record { low = at.0; high = at.1; at = at.2 }
  ready_for (Completed n code) fine room = let at = pending_at before (index_view x) n ties (allowed_is before (Completed n code) refl fine) in record { low = at.0; high = at.1; at = at.2 }
  ready_for (Voided n) fine room = let at = pending_at before (index_view x) n ties (allowed_is before (Voided n) refl fine) in record { low = at.0; high = at.1; at = at.2 }
  ready_for (Cancelled n) fine room =
      let parts = and_parts (is_completed before n) (not (is_cancelled before n)) (allowed_is before (Cancelled n) refl fine) in
      let at = completed_at before (index_view x) n ties parts.0 (not-true (is_cancelled before n) parts.1) in
      record { low = at.0; high = at.1; at = at.2 }
  ready_for (Closed p) fine room = record { room = room.0; period_room = omega (arith, room.1) }
  ready_for (Acked m) fine room = tt
  ready_for (Part part) fine room = tt

-- the set-up that stands first stays
setup_in_more : (first : TermEntry) (rest more : List TermEntry) → setup_in ((first ∷ rest) ++ more) ≡ setup_in (first ∷ rest)
setup_in_more (Setup settings) rest more = refl
setup_in_more (Begin n amount account) rest more = refl
setup_in_more (Declined n) rest more = refl
setup_in_more (Completed n code) rest more = refl
setup_in_more (Voided n) rest more = refl
setup_in_more (Cancelled n) rest more = refl
setup_in_more (Closed p) rest more = refl
setup_in_more (Acked m) rest more = refl
setup_in_more (Part part) rest more = refl

setup_from_other : (so_far : Option TerminalSettings) (first : TermEntry) (rest : List TermEntry) (entry : TermEntry) → allowed (first ∷ rest) entry ≡ true → setup_from so_far entry ≡ so_far
setup_from_other so_far first rest (Setup settings) fine = absurd (false≢true fine)
setup_from_other so_far first rest (Begin n amount account) fine = refl
setup_from_other so_far first rest (Declined n) fine = refl
setup_from_other so_far first rest (Completed n code) fine = refl
setup_from_other so_far first rest (Voided n) fine = refl
setup_from_other so_far first rest (Cancelled n) fine = refl
setup_from_other so_far first rest (Closed p) fine = refl
setup_from_other so_far first rest (Acked m) fine = refl
setup_from_other so_far first rest (Part part) fine = refl

setup_in_one : (entry : TermEntry) → setup_in (entry ∷ []) ≡ setup_from None entry
setup_in_one (Setup settings) = refl
setup_in_one (Begin n amount account) = refl
setup_in_one (Declined n) = refl
setup_in_one (Completed n code) = refl
setup_in_one (Voided n) = refl
setup_in_one (Cancelled n) = refl
setup_in_one (Closed p) = refl
setup_in_one (Acked m) = refl
setup_in_one (Part part) = refl

pub setup_in_push : (before : List TermEntry) (entry : TermEntry) → allowed before entry ≡ true → setup_in (before ++ entry ∷ []) ≡ setup_from (setup_in before) entry
setup_in_push [] entry fine = setup_in_one entry
setup_in_push (first ∷ rest) entry fine = setup_in_more first rest (entry ∷ []) ∙ sym (setup_from_other (setup_in (first ∷ rest)) first rest entry fine)

-- the list up to the next place
pub take_at : (entries : List TermEntry) (i : ℕ) (entry : TermEntry) → slice_get entries i ≡ Some entry → take (i + 1) entries ≡ take i entries ++ entry ∷ []
take_at entries i entry at = take_more entries i entry (slice_get_within entries i entry at) ∙ ap (λ (e : TermEntry). take i entries ++ e ∷ []) (get_or_from_slice_get entries i entry entry at)

pub first_of_some : (entries : List TermEntry) (i : ℕ) → i < length entries → first_not_allowed entries ≡ first_refused [] entries
first_of_some [] i h = let no : ⊥ = omega (arith, h) in absurd no
first_of_some (first ∷ rest) i h = refl

length_take : (entries : List TermEntry) (i : ℕ) (entry : TermEntry) → slice_get entries i ≡ Some entry → length (take i entries) ≡ i
length_take entries i entry at = let within : i < length entries = slice_get_within entries i entry at in length-take-le i entries (omega (arith, within))

-- what is refused at a place
pub refused_at : (entries : List TermEntry) (i : ℕ) (entry : TermEntry) → slice_get entries i ≡ Some entry → allowed (take i entries) entry ≡ false → first_refused (take i entries) (drop i entries) ≡ Some i
refused_at entries i entry at refused =
    ap (λ (l : List TermEntry). first_refused (take i entries) l) (drop_more entries i entry (slice_get_within entries i entry at) ∙ ap (λ (e : TermEntry). e ∷ drop (i + 1) entries) (get_or_from_slice_get entries i entry entry at))
    ∙ (cond-false (allowed (take i entries) entry) _ _ refused ∙ ap (λ (n : ℕ). Some n) (length_take entries i entry at))

-- a legal list begins with its set-up, and one that has none is empty
pub setup_there : (entries : List TermEntry) (settings : TerminalSettings) → setup_in entries ≡ Some settings → all_allowed [] entries ≡ true → (is_legal entries ≡ true) × (settings ≡ term_setup_of entries)
setup_there [] settings is ok = absurd (none-some settings is)
setup_there (Setup own ∷ rest) settings is ok = (ok, sym (same_Some own settings is))
setup_there (Begin n amount account ∷ rest) settings is ok = absurd (none-some settings is)
setup_there (Declined n ∷ rest) settings is ok = absurd (none-some settings is)
setup_there (Completed n code ∷ rest) settings is ok = absurd (none-some settings is)
setup_there (Voided n ∷ rest) settings is ok = absurd (none-some settings is)
setup_there (Cancelled n ∷ rest) settings is ok = absurd (none-some settings is)
setup_there (Closed p ∷ rest) settings is ok = absurd (none-some settings is)
setup_there (Acked m ∷ rest) settings is ok = absurd (none-some settings is)
setup_there (Part part ∷ rest) settings is ok = absurd (none-some settings is)

pub setup_missing : (entries : List TermEntry) → setup_in entries ≡ None → all_allowed [] entries ≡ true → first_not_allowed entries ≡ Some 0
setup_missing [] is ok = refl
setup_missing (Setup own ∷ rest) is ok = absurd (none-some own (sym is))
setup_missing (Begin n amount account ∷ rest) is ok = absurd (false≢true ok)
setup_missing (Declined n ∷ rest) is ok = absurd (false≢true ok)
setup_missing (Completed n code ∷ rest) is ok = absurd (false≢true ok)
setup_missing (Voided n ∷ rest) is ok = absurd (false≢true ok)
setup_missing (Cancelled n ∷ rest) is ok = absurd (false≢true ok)
setup_missing (Closed p ∷ rest) is ok = absurd (false≢true ok)
setup_missing (Acked m ∷ rest) is ok = absurd (false≢true ok)
setup_missing (Part part ∷ rest) is ok = absurd (false≢true ok)

-- what holds of an error holds of it behind a `?`
pub answered_behind : {T E : Type 0} (result : Result T E) (error : E) (P : E → Type 0) → IsErrAnd result (λ e. e ≡ error) → P error → IfErr result P
answered_behind (Ok value) error P is holds = absurd is
answered_behind (Err e) error P is holds = subst P (sym is) holds
