-- How entries, what the terminal keeps of them, and their legality grow by one entry.
use Rattle.std.specs.Prelude.{count_by, ◌==◌, nat_le}
use Rattle.std.proofs.Common.{◌≡◌, ℕ, ◌+◌, ◌≤◌, true, false, not, arith, eq-eqb, le-leb, List, [], ◌∷◌, ◌++◌, refl, ap}
use Rattle.std.proofs.lemmas.Bool.{and_from, false≢true}
use Rattle.std.proofs.lemmas.List.Sums.{fold_push}
use Rattle.cap_entries.specs.declared.terminal.TermEntry.{TermEntry}
use Rattle.cap_entries.specs.declared.terminal.TermEntry.TheVariants.{Setup, Begin, Declined, Completed, Voided, Cancelled, Closed, Acked, Part}
use Rattle.cap_entries.specs.Entry.{is_any_begin, is_pending, is_completed, is_cancelled, term_setup_of, max_of}
use Rattle.cap_entries.specs.Floor.{setup_floor}
use Rattle.cap_entries.specs.Acked.{acked_from, acked}
use Rattle.cap_entries.specs.Allowed.{allowed, allowed_after, all_allowed, is_legal}
use Rattle.cap_entries.specs.AllowedLaws.{all_allowed-append, along}
use Rattle.cap_terminal.specs.Index.{index_after, index_of, no_index}

-- an allowed entry leaves a journal legal
pub legal_push : (entries : List TermEntry) (entry : TermEntry) → is_legal entries ≡ true → allowed entries entry ≡ true → is_legal (entries ++ entry ∷ []) ≡ true
legal_push [] entry legal ok = absurd (false≢true legal)
legal_push (first ∷ rest) entry legal ok = all_allowed-append [] (first ∷ rest) (entry ∷ []) legal (and_from _ _ ok refl)

pub all_allowed_of : (entries : List TermEntry) → is_legal entries ≡ true → all_allowed [] entries ≡ true
all_allowed_of [] legal = absurd (false≢true legal)
all_allowed_of (first ∷ rest) legal = legal

-- after the set-up the rules are those of the entry
pub after_setup : (entries : List TermEntry) (entry : TermEntry) → is_legal entries ≡ true → allowed entries entry ≡ allowed_after entries entry
after_setup [] entry legal = absurd (false≢true legal)
after_setup (first ∷ rest) entry legal = refl

-- induction along a legal journal
module _ (P : List TermEntry → Type 0) (step : (before : List TermEntry) (entry : TermEntry) → P before → allowed before entry ≡ true → P (before ++ entry ∷ [])) where
  pub along_legal : (entries : List TermEntry) → P [] → is_legal entries ≡ true → P entries
  along_legal [] p q = absurd (false≢true q)
  along_legal (first ∷ rest) p q = along P step [] (first ∷ rest) p q

pub index_push : (entries : List TermEntry) (entry : TermEntry) → index_of (entries ++ entry ∷ []) ≡ index_after (index_of entries) entry
index_push entries entry = fold_push index_after no_index entries entry

acked_from_push : (a : ℕ) (entries more : List TermEntry) → acked_from a (entries ++ more) ≡ acked_from (acked_from a entries) more
acked_from_push a [] more = refl
acked_from_push a (Setup settings ∷ rest) more = acked_from_push a rest more
acked_from_push a (Begin k amount account ∷ rest) more = acked_from_push a rest more
acked_from_push a (Declined k ∷ rest) more = acked_from_push a rest more
acked_from_push a (Completed k code ∷ rest) more = acked_from_push a rest more
acked_from_push a (Voided k ∷ rest) more = acked_from_push a rest more
acked_from_push a (Cancelled k ∷ rest) more = acked_from_push a rest more
acked_from_push a (Closed k ∷ rest) more = acked_from_push a rest more
acked_from_push a (Acked k ∷ rest) more = acked_from_push k rest more
acked_from_push a (Part part ∷ rest) more = acked_from_push a rest more

pub acked_push : (entries : List TermEntry) (entry : TermEntry) → acked (entries ++ entry ∷ []) ≡ acked_from (acked entries) (entry ∷ [])
acked_push entries entry = acked_from_push 0 entries (entry ∷ [])

-- the set-up stays
pub setup_push : (entries : List TermEntry) (entry : TermEntry) → is_legal entries ≡ true → term_setup_of (entries ++ entry ∷ []) ≡ term_setup_of entries
setup_push [] entry legal = absurd (false≢true legal)
setup_push (Setup settings ∷ rest) entry legal = refl
setup_push (Begin k amount account ∷ rest) entry legal = refl
setup_push (Declined k ∷ rest) entry legal = refl
setup_push (Completed k code ∷ rest) entry legal = refl
setup_push (Voided k ∷ rest) entry legal = refl
setup_push (Cancelled k ∷ rest) entry legal = refl
setup_push (Closed k ∷ rest) entry legal = refl
setup_push (Acked k ∷ rest) entry legal = refl
setup_push (Part part ∷ rest) entry legal = refl

-- the two numbers of the set-up
pub max_is : (entries : List TermEntry) → max_of entries ≡ (term_setup_of entries).max
max_is [] = refl
max_is (Setup settings ∷ rest) = refl
max_is (Begin k amount account ∷ rest) = refl
max_is (Declined k ∷ rest) = refl
max_is (Completed k code ∷ rest) = refl
max_is (Voided k ∷ rest) = refl
max_is (Cancelled k ∷ rest) = refl
max_is (Closed k ∷ rest) = refl
max_is (Acked k ∷ rest) = refl
max_is (Part part ∷ rest) = refl

pub own_floor_is : (entries : List TermEntry) → setup_floor entries ≡ (term_setup_of entries).floor
own_floor_is [] = refl
own_floor_is (Setup settings ∷ rest) = refl
own_floor_is (Begin k amount account ∷ rest) = refl
own_floor_is (Declined k ∷ rest) = refl
own_floor_is (Completed k code ∷ rest) = refl
own_floor_is (Voided k ∷ rest) = refl
own_floor_is (Cancelled k ∷ rest) = refl
own_floor_is (Closed k ∷ rest) = refl
own_floor_is (Acked k ∷ rest) = refl
own_floor_is (Part part ∷ rest) = refl

-- a pending sale may end, and a completed one may be cancelled
pub declined_allowed : (entries : List TermEntry) (n : ℕ) → is_pending entries n ≡ true → allowed entries (Declined n) ≡ true
declined_allowed [] n pending = absurd (false≢true pending)
declined_allowed (first ∷ rest) n pending = pending

pub completed_allowed : (entries : List TermEntry) (n : ℕ) (code : List ℕ) → is_pending entries n ≡ true → allowed entries (Completed n code) ≡ true
completed_allowed [] n code pending = absurd (false≢true pending)
completed_allowed (first ∷ rest) n code pending = pending

pub voided_allowed : (entries : List TermEntry) (n : ℕ) → is_pending entries n ≡ true → allowed entries (Voided n) ≡ true
voided_allowed [] n pending = absurd (false≢true pending)
voided_allowed (first ∷ rest) n pending = pending

pub cancelled_allowed : (entries : List TermEntry) (n : ℕ) → is_completed entries n ≡ true → is_cancelled entries n ≡ false → allowed entries (Cancelled n) ≡ true
cancelled_allowed [] n completed cancelled = absurd (false≢true completed)
cancelled_allowed (first ∷ rest) n completed cancelled = and_from (is_completed (first ∷ rest) n) (not (is_cancelled (first ∷ rest) n)) completed (ap not cancelled)

-- so may the next sale begin, where the set-up lets it
pub begin_allowed : (entries : List TermEntry) (n amount : ℕ) (account : List ℕ) → n ≡ count_by is_any_begin entries + 1 → n ≤ max_of entries → allowed entries (Begin n amount account) ≡ true
begin_allowed [] n amount account is le = let no : ⊥ = omega (arith, is, le) in absurd no
begin_allowed (first ∷ rest) n amount account is le = and_from (n == count_by is_any_begin (first ∷ rest) + 1) (nat_le n (max_of (first ∷ rest))) (eq-eqb n _ is) (le-leb n (max_of (first ∷ rest)) le)
