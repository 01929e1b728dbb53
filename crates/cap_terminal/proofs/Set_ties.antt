-- What the index keeps of parameter sets is what a legal journal says of them.
use Rattle.std.proofs.Common.{◌≡◌, ℕ, ◌+◌, ◌≤◌, ◌<◌, Bool, true, false, cond, ◌&&◌, List, [], ◌∷◌, ◌++◌, Option, Some, None, refl, sym, ◌∙◌, ap, subst, ⊎_elim, append_assoc, append-nil, arith, eqb-true, eq-eqb, leb-true, ltb-true}
use Rattle.std.specs.Prelude.{◌==◌, nat_le, nat_lt}
use Rattle.std.proofs.lemmas.Bool.{cond-true, cond-false, cases_Bool, cases_lt, false≢true, and_parts, or_cases}
use Rattle.cap_base.specs.declared.parameters.Row.{Row}
use Rattle.cap_base.specs.declared.parameters.ConfigPart.{ConfigPart}
use Rattle.cap_entries.specs.declared.terminal.TermEntry.{TermEntry}
use Rattle.cap_entries.specs.declared.terminal.TermEntry.TheVariants.{Setup, Begin, Declined, Completed, Voided, Cancelled, Closed, Acked, Part}
use Rattle.cap_entries.specs.InForce.{version_in_force_from, version_in_force, rows_of_version, rows_in_force}
use Rattle.cap_entries.specs.Floor.{is_floor_row, floor_row, or_else, setup_floor, floor}
use Rattle.cap_entries.specs.Allowed.{allowed, part_allowed, is_legal}
use Rattle.cap_entries.specs.AllowedLaws.{allowed_is}
use Rattle.cap_terminal_answers.specs.declared.part.PartNumbers.{PartNumbers}
use Rattle.cap_terminal.specs.declared.sets.Sets.{Sets}
use Rattle.cap_terminal_answers.specs.Numbers.{numbers_of, numbers_version, numbers_continue, numbers_allow, numbers_allow_is}
use Rattle.cap_terminal.specs.SetsIndex.{floor_in, first_floor, floor_joined, sets_after, floor_or}
use Rattle.cap_terminal.specs.Index.{TerminalIndex, index_after, index_of}
use Rattle.cap_terminal.proofs.Growth.{index_push, along_legal}

-- the first row FLOOR of rows in two pieces stands in the first piece that has one
append_at : (x : Row) (xs ys : List Row) (b : Bool) → is_floor_row x ≡ b → floor_in (xs ++ ys) ≡ first_floor (floor_in xs) (floor_in ys) → floor_in ((x ∷ xs) ++ ys) ≡ first_floor (floor_in (x ∷ xs)) (floor_in ys)
append_at x xs ys true is rest = rw is refl
append_at x xs ys false is rest = rw is rest

floor_in-append : (xs ys : List Row) → floor_in (xs ++ ys) ≡ first_floor (floor_in xs) (floor_in ys)
floor_in-append [] ys = refl
floor_in-append (x ∷ xs) ys = append_at x xs ys (is_floor_row x) refl (floor_in-append xs ys)

rows_at_own : (row : Row) (rows : List Row) (own : ℕ) (b : Bool) → is_floor_row row ≡ b → or_else (floor_row rows) own ≡ floor_or (floor_in rows) own → or_else (floor_row (row ∷ rows)) own ≡ floor_or (floor_in (row ∷ rows)) own
rows_at_own row rows own true is rest = rw is refl
rows_at_own row rows own false is rest = rw is rest

floor_of_rows : (rows : List Row) (own : ℕ) → or_else (floor_row rows) own ≡ floor_or (floor_in rows) own
floor_of_rows [] own = refl
floor_of_rows (row ∷ rows) own = rows_at_own row rows own (is_floor_row row) refl (floor_of_rows rows own)

-- one entry more
version_push : (v : ℕ) (entries : List TermEntry) (entry : TermEntry) → version_in_force_from v (entries ++ entry ∷ []) ≡ version_in_force_from (version_in_force_from v entries) (entry ∷ [])
version_push v [] entry = refl
version_push v (Part part ∷ entries) entry = version_push (cond (part.part == part.parts) part.version v) entries entry
version_push v (Setup settings ∷ entries) entry = version_push v entries entry
version_push v (Begin k amount account ∷ entries) entry = version_push v entries entry
version_push v (Declined k ∷ entries) entry = version_push v entries entry
version_push v (Completed k code ∷ entries) entry = version_push v entries entry
version_push v (Voided k ∷ entries) entry = version_push v entries entry
version_push v (Cancelled k ∷ entries) entry = version_push v entries entry
version_push v (Closed k ∷ entries) entry = version_push v entries entry
version_push v (Acked k ∷ entries) entry = version_push v entries entry

numbers_push : (last : Option PartNumbers) (entries : List TermEntry) (entry : TermEntry) → numbers_of last (entries ++ entry ∷ []) ≡ numbers_of (numbers_of last entries) (entry ∷ [])
numbers_push last [] entry = refl
numbers_push last (Part part ∷ entries) entry = numbers_push (Some (record { version = part.version; part = part.part; parts = part.parts })) entries entry
numbers_push last (Setup settings ∷ entries) entry = numbers_push last entries entry
numbers_push last (Begin k amount account ∷ entries) entry = numbers_push last entries entry
numbers_push last (Declined k ∷ entries) entry = numbers_push last entries entry
numbers_push last (Completed k code ∷ entries) entry = numbers_push last entries entry
numbers_push last (Voided k ∷ entries) entry = numbers_push last entries entry
numbers_push last (Cancelled k ∷ entries) entry = numbers_push last entries entry
numbers_push last (Closed k ∷ entries) entry = numbers_push last entries entry
numbers_push last (Acked k ∷ entries) entry = numbers_push last entries entry

rows_push : (v : ℕ) (entries : List TermEntry) (entry : TermEntry) → rows_of_version v (entries ++ entry ∷ []) ≡ rows_of_version v entries ++ rows_of_version v (entry ∷ [])
rows_push v [] entry = refl
rows_push v (Part part ∷ entries) entry = ap (λ l. cond (part.version == v) part.rows [] ++ l) (rows_push v entries entry) ∙ sym (append_assoc (cond (part.version == v) part.rows []) _ _)
rows_push v (Setup settings ∷ entries) entry = rows_push v entries entry
rows_push v (Begin k amount account ∷ entries) entry = rows_push v entries entry
rows_push v (Declined k ∷ entries) entry = rows_push v entries entry
rows_push v (Completed k code ∷ entries) entry = rows_push v entries entry
rows_push v (Voided k ∷ entries) entry = rows_push v entries entry
rows_push v (Cancelled k ∷ entries) entry = rows_push v entries entry
rows_push v (Closed k ∷ entries) entry = rows_push v entries entry
rows_push v (Acked k ∷ entries) entry = rows_push v entries entry

-- what the last part tells
record StagedPart (entries : List TermEntry) (floor : Option (Option ℕ)) (last : PartNumbers) : Type 0 where
  low : 1 ≤ last.part
  high : last.part ≤ last.parts
  floor_is : floor ≡ floor_in (rows_of_version last.version entries)
  below : version_in_force entries ≤ last.version
  complete : version_in_force entries ≡ last.version → last.part ≡ last.parts
  none_past : (v : ℕ) → last.version < v → rows_of_version v entries ≡ []

abbrev IsStaged : List TermEntry → Option (Option ℕ) → Option PartNumbers → Type 0
IsStaged entries floor None = (version_in_force entries ≡ 0) × ((v : ℕ) → rows_of_version v entries ≡ [])
IsStaged entries floor (Some last) = StagedPart entries floor last

pub record SetTies (entries : List TermEntry) (s : Sets) : Type 0 where
  pub staged_is : s.staged ≡ numbers_of None entries
  pub in_force_is : s.in_force ≡ version_in_force entries
  pub floor_is : s.floor ≡ floor_in (rows_in_force entries)
  parts : IsStaged entries s.staged_floor s.staged

-- what a part that is allowed finds
record Finds (entries : List TermEntry) (s : Sets) (part : ConfigPart) : Type 0 where
  joined : floor_joined s (record { version = part.version; part = part.part; parts = part.parts }) (floor_in part.rows) ≡ first_floor (floor_in (rows_of_version part.version entries)) (floor_in part.rows)
  lower : version_in_force entries < part.version
  none_past : (v : ℕ) → part.version < v → rows_of_version v entries ≡ []

first_joined : (entries : List TermEntry) (s : Sets) (part : ConfigPart) → (part.part == 1) ≡ true → rows_of_version part.version entries ≡ []
    → floor_joined s (record { version = part.version; part = part.part; parts = part.parts }) (floor_in part.rows) ≡ first_floor (floor_in (rows_of_version part.version entries)) (floor_in part.rows)
first_joined entries s part one none = cond-true (part.part == 1) _ _ one ∙ ap (λ (l : List Row). first_floor (floor_in l) (floor_in part.rows)) (sym none)

finds_first : (entries : List TermEntry) (s : Sets) (part : ConfigPart) (floor : Option (Option ℕ)) (last : Option PartNumbers) → IsStaged entries floor last → (part.part == 1) ≡ true → version_in_force entries < part.version → numbers_version last < part.version → Finds entries s part
finds_first entries s part floor None ok one lower above = record { joined = first_joined entries s part one (ok.1 part.version); lower = lower; none_past = λ v lt. ok.1 v }
finds_first entries s part floor (Some last) ok one lower above = record { joined = first_joined entries s part one (ok.none_past part.version above); lower = lower; none_past = λ v lt. ok.none_past v (omega arith) }

not_first : (n k : ℕ) → n ≡ k + 1 → 1 ≤ k → (n == 1) ≡ false
not_first n k is low = ⊎_elim (λ yes. let e : n ≡ 1 = eqb-true n 1 yes in let no' : ⊥ = omega (arith, e, is, low) in absurd no') (λ no'. no') (cases_Bool (n == 1))

finds_next : (entries : List TermEntry) (s : Sets) (part : ConfigPart) (last : Option PartNumbers) → IsStaged entries s.staged_floor last → part.part ≤ part.parts → numbers_continue last part ≡ true → Finds entries s part
finds_next entries s part None ok high next = absurd (false≢true next)
finds_next entries s part (Some last) ok high next =
    let parts = and_parts ((part.version == last.version) && (part.parts == last.parts)) (part.part == last.part + 1) next in
    let parts' = and_parts (part.version == last.version) (part.parts == last.parts) parts.0 in
    let same : part.version ≡ last.version = eqb-true part.version last.version parts'.0 in
    let count : part.parts ≡ last.parts = eqb-true part.parts last.parts parts'.1 in
    let number : part.part ≡ last.part + 1 = eqb-true part.part (last.part + 1) parts.1 in
    let later = not_first part.part last.part number ok.low in
    record {
      joined = cond-false (part.part == 1) _ _ later ∙ (ap (λ (f : Option (Option ℕ)). first_floor f (floor_in part.rows)) ok.floor_is ∙ ap (λ (v : ℕ). first_floor (floor_in (rows_of_version v entries)) (floor_in part.rows)) (sym same));
      lower = ⊎_elim (λ (lt : version_in_force entries < last.version). omega arith) (λ (ge : last.version ≤ version_in_force entries).
          let equal : version_in_force entries ≡ last.version = omega (arith, ok.below) in
          absurd (omega (arith, ok.complete equal))) (cases_lt (version_in_force entries) last.version);
      none_past = λ v lt. ok.none_past v (omega arith);
    }

finds : (entries : List TermEntry) (s : Sets) (part : ConfigPart) → SetTies entries s → part_allowed entries part ≡ true → Finds entries s part
finds entries s part ties ok =
    let ok' : numbers_allow (version_in_force entries) s.staged part ≡ true = ap (λ (last : Option PartNumbers). numbers_allow (version_in_force entries) last part) ties.staged_is ∙ (numbers_allow_is entries part ∙ ok) in
    let parts = and_parts ((nat_le 1 part.part && nat_le part.part part.parts) && nat_le part.parts 16) _ ok' in
    let parts' = and_parts (nat_le 1 part.part && nat_le part.part part.parts) (nat_le part.parts 16) parts.0 in
    let high : part.part ≤ part.parts = leb-true part.part part.parts (and_parts (nat_le 1 part.part) (nat_le part.part part.parts) parts'.0).1 in
    ⊎_elim
    (λ h.
    let a = and_parts ((part.part == 1) && nat_lt (version_in_force entries) part.version) (nat_lt (numbers_version s.staged) part.version) h in
    let b = and_parts (part.part == 1) (nat_lt (version_in_force entries) part.version) a.0 in
    finds_first entries s part s.staged_floor s.staged ties.parts b.0 (ltb-true (version_in_force entries) part.version b.1) (ltb-true (numbers_version s.staged) part.version a.1))
    (λ h. finds_next entries s part s.staged ties.parts high h)
    (or_cases _ _ parts.1)

other_version : (k v : ℕ) → (k ≡ v → ⊥) → (k == v) ≡ false
other_version k v ne = ⊎_elim (λ yes. absurd (ne (eqb-true k v yes))) (λ no'. no') (cases_Bool (k == v))

module _ (entries : List TermEntry) (s : Sets) (part : ConfigPart) (ties : SetTies entries s) (ok : part_allowed entries part ≡ true) where
  abbrev after : List TermEntry
  after = entries ++ Part part ∷ []

  abbrev numbers : PartNumbers
  numbers = record { version = part.version; part = part.part; parts = part.parts }

  abbrev now : Sets
  now = sets_after s numbers (floor_in part.rows)

  found : Finds entries s part
  found = finds entries s part ties ok

  range : (1 ≤ part.part) × (part.part ≤ part.parts)
  range =
      let parts = and_parts ((nat_le 1 part.part && nat_le part.part part.parts) && nat_le part.parts 16) _ ok in
      let parts' = and_parts (nat_le 1 part.part && nat_le part.part part.parts) (nat_le part.parts 16) parts.0 in
      let parts'' = and_parts (nat_le 1 part.part) (nat_le part.part part.parts) parts'.0 in
      (leb-true 1 part.part parts''.0, leb-true part.part part.parts parts''.1)

  version_is : version_in_force after ≡ cond (part.part == part.parts) part.version (version_in_force entries)
  version_is = version_push 0 entries (Part part)

  rows_at : (v : ℕ) → rows_of_version v after ≡ rows_of_version v entries ++ cond (part.version == v) part.rows []
  rows_at v = rows_push v entries (Part part) ∙ ap (λ l. rows_of_version v entries ++ l) (append-nil (cond (part.version == v) part.rows []))

  rows_own : rows_of_version part.version after ≡ rows_of_version part.version entries ++ part.rows
  rows_own = rows_at part.version ∙ ap (λ l. rows_of_version part.version entries ++ l) (cond-true (part.version == part.version) part.rows [] (eq-eqb part.version part.version refl))

  rows_other : (v : ℕ) → (part.version ≡ v → ⊥) → rows_of_version v after ≡ rows_of_version v entries
  rows_other v ne = rows_at v ∙ (ap (λ l. rows_of_version v entries ++ l) (cond-false (part.version == v) part.rows [] (other_version part.version v ne)) ∙ append-nil (rows_of_version v entries))

  joined_is : now.staged_floor ≡ floor_in (rows_of_version part.version after)
  joined_is = found.joined ∙ (sym (floor_in-append (rows_of_version part.version entries) part.rows) ∙ ap floor_in (sym rows_own))

  staged_now : (version_in_force after ≤ part.version) → (version_in_force after ≡ part.version → part.part ≡ part.parts) → StagedPart after now.staged_floor numbers
  staged_now below complete = record {
    low = range.0;
    high = range.1;
    floor_is = joined_is;
    below = below;
    complete = complete;
    none_past = λ v lt. rows_other v (λ (e : part.version ≡ v). absurd (omega arith)) ∙ found.none_past v lt;
  }

  part_whole : (part.part == part.parts) ≡ true → SetTies after now
  part_whole last =
      let v : version_in_force after ≡ part.version = version_is ∙ cond-true (part.part == part.parts) _ _ last in
      record {
        staged_is = sym (numbers_push None entries (Part part));
        in_force_is = cond-true (part.part == part.parts) _ _ last ∙ sym v;
        floor_is = cond-true (part.part == part.parts) _ _ last ∙ (joined_is ∙ ap (λ (n : ℕ). floor_in (rows_of_version n after)) (sym v));
        parts = staged_now (omega (arith, v)) (λ e. eqb-true part.part part.parts last);
      }

  part_way : (part.part == part.parts) ≡ false → SetTies after now
  part_way more =
      let v : version_in_force after ≡ version_in_force entries = version_is ∙ cond-false (part.part == part.parts) _ _ more in
      let same : rows_in_force after ≡ rows_in_force entries = ap (λ (n : ℕ). rows_of_version n after) v ∙ rows_other (version_in_force entries) (λ (e : part.version ≡ version_in_force entries). absurd (omega (arith, found.lower))) in
      record {
        staged_is = sym (numbers_push None entries (Part part));
        in_force_is = cond-false (part.part == part.parts) _ _ more ∙ (ties.in_force_is ∙ sym v);
        floor_is = cond-false (part.part == part.parts) _ _ more ∙ (ties.floor_is ∙ ap floor_in (sym same));
        parts = staged_now (omega (arith, v, found.lower)) (λ e. let no' : ⊥ = omega (arith, e, v, found.lower) in absurd no');
      }

  part_ties : SetTies after now
  part_ties = ⊎_elim part_whole part_way (cases_Bool (part.part == part.parts))

-- an entry that is no part
module _ (entries : List TermEntry) (s : Sets) (entry : TermEntry) (ties : SetTies entries s) (version_same : (v : ℕ) → version_in_force_from v (entry ∷ []) ≡ v) (numbers_same : (last : Option PartNumbers) → numbers_of last (entry ∷ []) ≡ last) (rows_same : (v : ℕ) → rows_of_version v (entry ∷ []) ≡ []) where
  version_kept : version_in_force (entries ++ entry ∷ []) ≡ version_in_force entries
  version_kept = version_push 0 entries entry ∙ version_same (version_in_force entries)

  rows_kept : (v : ℕ) → rows_of_version v (entries ++ entry ∷ []) ≡ rows_of_version v entries
  rows_kept v = rows_push v entries entry ∙ (ap (λ l. rows_of_version v entries ++ l) (rows_same v) ∙ append-nil (rows_of_version v entries))

  staged_kept : (last : Option PartNumbers) → IsStaged entries s.staged_floor last → IsStaged (entries ++ entry ∷ []) s.staged_floor last
  staged_kept None ok = (version_kept ∙ ok.0, λ v. rows_kept v ∙ ok.1 v)
  staged_kept (Some last) ok = record {
    low = ok.low;
    high = ok.high;
    floor_is = ok.floor_is ∙ ap floor_in (sym (rows_kept last.version));
    below = omega (arith, version_kept, ok.below);
    complete = λ e. ok.complete (sym version_kept ∙ e);
    none_past = λ v lt. rows_kept v ∙ ok.none_past v lt;
  }

  other_ties : SetTies (entries ++ entry ∷ []) s
  other_ties = record {
    staged_is = ties.staged_is ∙ sym (numbers_push None entries entry ∙ numbers_same (numbers_of None entries));
    in_force_is = ties.in_force_is ∙ sym version_kept;
    floor_is = ties.floor_is ∙ ap floor_in (sym (ap (λ (v : ℕ). rows_of_version v (entries ++ entry ∷ [])) version_kept ∙ rows_kept (version_in_force entries)));
    parts = staged_kept s.staged ties.parts;
  }

set_ties_after : (entries : List TermEntry) (entry : TermEntry) (x : TerminalIndex) → SetTies entries x.sets → allowed entries entry ≡ true → SetTies (entries ++ entry ∷ []) (index_after x entry).sets
set_ties_after entries (Part part) x ties ok = part_ties entries x.sets part ties (allowed_is entries (Part part) refl ok)
set_ties_after entries (Setup settings) x ties ok = other_ties entries x.sets (Setup settings) ties (λ v. refl) (λ last. refl) (λ v. refl)
set_ties_after entries (Begin k amount account) x ties ok = other_ties entries x.sets (Begin k amount account) ties (λ v. refl) (λ last. refl) (λ v. refl)
set_ties_after entries (Declined k) x ties ok = other_ties entries x.sets (Declined k) ties (λ v. refl) (λ last. refl) (λ v. refl)
set_ties_after entries (Completed k code) x ties ok = other_ties entries x.sets (Completed k code) ties (λ v. refl) (λ last. refl) (λ v. refl)
set_ties_after entries (Voided k) x ties ok = other_ties entries x.sets (Voided k) ties (λ v. refl) (λ last. refl) (λ v. refl)
set_ties_after entries (Cancelled k) x ties ok = other_ties entries x.sets (Cancelled k) ties (λ v. refl) (λ last. refl) (λ v. refl)
set_ties_after entries (Closed k) x ties ok = other_ties entries x.sets (Closed k) ties (λ v. refl) (λ last. refl) (λ v. refl)
set_ties_after entries (Acked k) x ties ok = other_ties entries x.sets (Acked k) ties (λ v. refl) (λ last. refl) (λ v. refl)

-- the index of a legal journal has its sets
pub set_ties_of : (entries : List TermEntry) → is_legal entries ≡ true → SetTies entries (index_of entries).sets
set_ties_of entries legal =
    along_legal (λ es. SetTies es (index_of es).sets)
    (λ before entry t ok. subst (λ (y : TerminalIndex). SetTies (before ++ entry ∷ []) y.sets) (sym (index_push before entry)) (set_ties_after before entry (index_of before) t ok))
    entries (record { staged_is = refl; in_force_is = refl; floor_is = refl; parts = (refl, λ v. refl) }) legal

-- and so the floor
pub floor_is : (entries : List TermEntry) (s : Sets) (own : ℕ) → SetTies entries s → own ≡ setup_floor entries → floor_or s.floor own ≡ floor entries
floor_is entries s own ties is =
    ap (λ (f : Option (Option ℕ)). floor_or f own) ties.floor_is ∙ (sym (floor_of_rows (rows_in_force entries) own) ∙ ap (λ (n : ℕ). or_else (floor_row (rows_in_force entries)) n) is)
