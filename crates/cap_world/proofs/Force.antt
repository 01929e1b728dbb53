-- The set in force is one that was published.
use Rattle.std.proofs.Common.{◌≡◌, ℕ, zero, suc, ◌+◌, ◌<◌, ◌≤◌, true, List, [], ◌∷◌, ◌++◌, take, Some, sym, ◌∙◌, ap, append_assoc, append-nil, arith, Option, None, refl, inl, inr, ⊎_elim, ◌-◌, eq-eqb, ne_eqb, leb-true, cond, ◌&&◌, eqb-true, ltb-true, ◌*◌, take-add, take_all}
use Rattle.std.specs.Prelude.{slice_get, nat_le, nat_lt, ◌==◌}
use Rattle.std.specs.List.{AllByRecursion}
use Rattle.std.proofs.lemmas.Bool.{cond_both, cond-true, cond-false, and_parts, cases_Bool, false≢true, or_cases, cases_lt}
use Rattle.std.proofs.lemmas.Option.{same_Some, none-some}
use Rattle.cap_base.specs.declared.parameters.Row.{Row}
use Rattle.cap_base.specs.declared.parameters.ConfigPart.{ConfigPart}
use Rattle.cap_msgs.specs.declared.message.Message.{Message}
use Rattle.cap_msgs.specs.Reply.{Reply, Rejects, Decides_sale, Decides_cancel, Tells_state, Gives_plan, Gives_part, Acknowledges, From_terminal, reply_of}
use Rattle.cap_entries.specs.declared.terminal.TermEntry.{TermEntry}
use Rattle.cap_entries.specs.declared.terminal.TermEntry.TheVariants.{Setup, Begin, Declined, Completed, Voided, Cancelled, Closed, Acked, Part as Part_entry}
use Rattle.cap_entries.specs.declared.host.HostEntry.{HostEntry}
use Rattle.cap_entries.specs.declared.host.HostEntry.TheVariants.{Setup as Host_setup, Took, Published}
use Rattle.cap_entries.specs.Allowed.{part_allowed, allowed, all_allowed}
use Rattle.cap_entries.specs.InForce.{version_in_force_from, version_in_force, rows_of_version, rows_in_force, staged_from, continues, staged_version}
use Rattle.cap_entries.specs.Log.{published}
use Rattle.cap_entries.specs.AllowedLaws.{along, allowed_is}
use Rattle.cap_manager.specs.Manager.{part_rows, parts_of}
use Rattle.cap_world.proofs.Named.{all_front, all_back}
use Rattle.cap_world.specs.SetsInForce.{SetIsPublished}

-- a part of a set that was published
pub record PartOf (others : List HostEntry) (part : ConfigPart) : Type 0 where
  pub set : List Row
  pub version : 1 ≤ part.version
  pub there : slice_get (published others) (part.version - 1) ≡ Some set
  pub count : part.parts ≡ parts_of set
  pub rows_are : part.rows ≡ part_rows set part.part

abbrev pub GivenOk : List HostEntry → Reply → Type 0
GivenOk others (Gives_part part) = PartOf others part
GivenOk others _ = Unit {0}

abbrev pub PartOk : List HostEntry → Message → Type 0
PartOk others message = GivenOk others (reply_of message.body)

abbrev pub EntryPart : List HostEntry → TermEntry → Type 0
EntryPart others (Part_entry part) = PartOf others part
EntryPart others _ = Unit {0}

published-append : (es fs : List HostEntry) → published (es ++ fs) ≡ published es ++ published fs
published-append [] fs = refl
published-append (Published version rows ∷ es) fs = ap (λ l. rows ∷ l) (published-append es fs)
published-append (Host_setup setup ∷ es) fs = published-append es fs
published-append (Took place item ∷ es) fs = published-append es fs

get_front : (xs ys : List (List Row)) (k : ℕ) (x : List Row) → slice_get xs k ≡ Some x → slice_get (xs ++ ys) k ≡ Some x
get_front [] ys k x e = absurd (none-some x e)
get_front (y ∷ xs) ys zero x e = e
get_front (y ∷ xs) ys (suc k) x e = get_front xs ys k x e

part_more : (others more : List HostEntry) (part : ConfigPart) → PartOf others part → PartOf (others ++ more) part
part_more others more part p =
    record { set = p.set; version = p.version; there = rw published-append (get_front (published others) (published more) (part.version - 1) p.set p.there); count = p.count; rows_are = p.rows_are }

given_more : (others more : List HostEntry) (reply : Reply) → GivenOk others reply → GivenOk (others ++ more) reply
given_more others more (Gives_part part) p = part_more others more part p
given_more others more (Rejects reason) p = tt
given_more others more (Decides_sale response code) p = tt
given_more others more (Decides_cancel response) p = tt
given_more others more (Tells_state last) p = tt
given_more others more (Gives_plan actions) p = tt
given_more others more (Acknowledges ack) p = tt
given_more others more From_terminal p = tt

pub message_more : (others more : List HostEntry) (message : Message) → PartOk others message → PartOk (others ++ more) message
message_more others more message p = given_more others more (reply_of message.body) p

pub entry_more : (others more : List HostEntry) (entry : TermEntry) → EntryPart others entry → EntryPart (others ++ more) entry
entry_more others more (Part_entry part) p = part_more others more part p
entry_more others more (Setup setup) p = tt
entry_more others more (Begin k amount account) p = tt
entry_more others more (Declined k) p = tt
entry_more others more (Completed k code) p = tt
entry_more others more (Voided k) p = tt
entry_more others more (Cancelled k) p = tt
entry_more others more (Closed k) p = tt
entry_more others more (Acked k) p = tt

-- folds over one more entry
pub version_push : (es : List TermEntry) (v : ℕ) (e : TermEntry) → version_in_force_from v (es ++ e ∷ []) ≡ version_in_force_from (version_in_force_from v es) (e ∷ [])
version_push [] v e = refl
version_push (Part_entry part ∷ es) v e = version_push es _ e
version_push (Setup setup ∷ es) v e = version_push es v e
version_push (Begin k amount account ∷ es) v e = version_push es v e
version_push (Declined k ∷ es) v e = version_push es v e
version_push (Completed k code ∷ es) v e = version_push es v e
version_push (Voided k ∷ es) v e = version_push es v e
version_push (Cancelled k ∷ es) v e = version_push es v e
version_push (Closed k ∷ es) v e = version_push es v e
version_push (Acked k ∷ es) v e = version_push es v e

staged_push : (es : List TermEntry) (v : Option ConfigPart) (e : TermEntry) → staged_from v (es ++ e ∷ []) ≡ staged_from (staged_from v es) (e ∷ [])
staged_push [] v e = refl
staged_push (Part_entry part ∷ es) v e = staged_push es _ e
staged_push (Setup setup ∷ es) v e = staged_push es v e
staged_push (Begin k amount account ∷ es) v e = staged_push es v e
staged_push (Declined k ∷ es) v e = staged_push es v e
staged_push (Completed k code ∷ es) v e = staged_push es v e
staged_push (Voided k ∷ es) v e = staged_push es v e
staged_push (Cancelled k ∷ es) v e = staged_push es v e
staged_push (Closed k ∷ es) v e = staged_push es v e
staged_push (Acked k ∷ es) v e = staged_push es v e

rows_push : (v : ℕ) (es : List TermEntry) (e : TermEntry) → rows_of_version v (es ++ e ∷ []) ≡ rows_of_version v es ++ rows_of_version v (e ∷ [])
rows_push v [] e = refl
rows_push v (Part_entry part ∷ es) e = ap (λ l. cond (part.version == v) part.rows [] ++ l) (rows_push v es e) ∙ sym (append_assoc (cond (part.version == v) part.rows []) _ _)
rows_push v (Setup setup ∷ es) e = rows_push v es e
rows_push v (Begin k amount account ∷ es) e = rows_push v es e
rows_push v (Declined k ∷ es) e = rows_push v es e
rows_push v (Completed k code ∷ es) e = rows_push v es e
rows_push v (Voided k ∷ es) e = rows_push v es e
rows_push v (Cancelled k ∷ es) e = rows_push v es e
rows_push v (Closed k ∷ es) e = rows_push v es e
rows_push v (Acked k ∷ es) e = rows_push v es e

-- what the last part tells
pub record StagedPart (others : List HostEntry) (before : List TermEntry) (part : ConfigPart) : Type 0 where
  pub of_set : PartOf others part
  pub low : 1 ≤ part.part
  pub high : part.part ≤ part.parts
  pub rows_are : rows_of_version part.version before ≡ take (16 * part.part) of_set.set
  pub in_force : version_in_force before ≤ part.version
  pub complete : version_in_force before ≡ part.version → part.part ≡ part.parts
  pub none_past : (v : ℕ) → part.version < v → rows_of_version v before ≡ []

abbrev pub StagedOk : List HostEntry → List TermEntry → Option ConfigPart → Type 0
StagedOk others before None = (version_in_force before ≡ 0) × ((v : ℕ) → rows_of_version v before ≡ [])
StagedOk others before (Some part) = StagedPart others before part

pub record SetsOk (others : List HostEntry) (before : List TermEntry) : Type 0 where
  pub staged : StagedOk others before (staged_from None before)
  pub in_force : SetIsPublished others before

-- what a part that is allowed finds
record Finds (others : List HostEntry) (before : List TermEntry) (part : ConfigPart) (set : List Row) : Type 0 where
  rows_before : rows_of_version part.version before ++ part_rows set part.part ≡ take (16 * part.part) set
  lower : version_in_force before < part.version
  none_past : (v : ℕ) → part.version < v → rows_of_version v before ≡ []

first_rows : (set : List Row) → part_rows set 1 ≡ take (16 * 1) set
first_rows set = refl

finds_first : (others : List HostEntry) (before : List TermEntry) (part : ConfigPart) (set : List Row) (staged : Option ConfigPart) → StagedOk others before staged → part.part ≡ 1 → version_in_force before < part.version → staged_version staged < part.version → Finds others before part set
finds_first others before part set None ok one lower above =
    record {
      rows_before = rw (ok.1 part.version, one) (first_rows set);
      lower = lower;
      none_past = λ v lt. ok.1 v;
    }
finds_first others before part set (Some last) ok one lower above =
    record {
      rows_before = rw (ok.none_past part.version above, one) (first_rows set);
      lower = lower;
      none_past = λ v lt. ok.none_past v (omega arith);
    }

finds_next : (others : List HostEntry) (before : List TermEntry) (part : ConfigPart) (of_set : PartOf others part) (staged : Option ConfigPart) → StagedOk others before staged → part.part ≤ part.parts → continues staged part ≡ true → Finds others before part of_set.set
finds_next others before part of_set None ok high next = absurd (false≢true next)
finds_next others before part of_set (Some last) ok high next =
    let parts = and_parts ((part.version == last.version) && (part.parts == last.parts)) (part.part == last.part + 1) next in
    let parts' = and_parts (part.version == last.version) (part.parts == last.parts) parts.0 in
    let same : part.version ≡ last.version = eqb-true part.version last.version parts'.0 in
    let count : part.parts ≡ last.parts = eqb-true part.parts last.parts parts'.1 in
    let number : part.part ≡ last.part + 1 = eqb-true part.part (last.part + 1) parts.1 in
    let sets : ok.of_set.set ≡ of_set.set = same_Some _ _ (sym ok.of_set.there ∙ (ap (λ v. slice_get (published others) (v - 1)) (sym same) ∙ of_set.there)) in
    let before_is : rows_of_version part.version before ≡ take (16 * last.part) of_set.set = ap (λ v. rows_of_version v before) same ∙ (ok.rows_are ∙ ap (take (16 * last.part)) sets) in
    let start : 16 * (part.part - 1) ≡ 16 * last.part = omega arith in
    let whole : 16 * part.part ≡ 16 * last.part + 16 = omega arith in
    record {
      rows_before = rw (before_is, start, whole) (sym (take-add (16 * last.part) 16 of_set.set));
      lower = ⊎_elim (λ (lt : version_in_force before < last.version). omega arith) (λ (ge : last.version ≤ version_in_force before).
          let equal : version_in_force before ≡ last.version = omega (arith, ok.in_force) in
          absurd (omega (arith, ok.complete equal))) (cases_lt (version_in_force before) last.version);
      none_past = λ v lt. ok.none_past v (omega arith);
    }

-- all rows of a set are in its parts
whole_set : (set : List Row) (n : ℕ) → n ≡ parts_of set → take (16 * n) set ≡ set
whole_set set n e = take_all (16 * n) set (omega (arith, e))

finds : (others : List HostEntry) (before : List TermEntry) (part : ConfigPart) → SetsOk others before → (of_set : PartOf others part) → part_allowed before part ≡ true → Finds others before part of_set.set
finds others before part ok of_set allowed' =
    let parts = and_parts ((nat_le 1 part.part && nat_le part.part part.parts) && nat_le part.parts 16) _ allowed' in
    let parts' = and_parts (nat_le 1 part.part && nat_le part.part part.parts) (nat_le part.parts 16) parts.0 in
    let parts'' = and_parts (nat_le 1 part.part) (nat_le part.part part.parts) parts'.0 in
    let high : part.part ≤ part.parts = leb-true part.part part.parts parts''.1 in
    ⊎_elim
    (λ h.
    let a = and_parts ((part.part == 1) && nat_lt (version_in_force before) part.version) (nat_lt (staged_version (staged_from None before)) part.version) h in
    let b = and_parts (part.part == 1) (nat_lt (version_in_force before) part.version) a.0 in
    finds_first others before part of_set.set (staged_from None before) ok.staged (eqb-true part.part 1 b.0) (ltb-true (version_in_force before) part.version b.1) (ltb-true (staged_version (staged_from None before)) part.version a.1))
    (λ h. finds_next others before part of_set (staged_from None before) ok.staged high h)
    (or_cases _ _ parts.1)

pub part_rises : (others : List HostEntry) (before : List TermEntry) (part : ConfigPart) → SetsOk others before → PartOf others part → part_allowed before part ≡ true → version_in_force before ≤ version_in_force (before ++ Part_entry part ∷ [])
part_rises others before part ok of_set a =
    let f = finds others before part ok of_set a in
    rw version_push (cond_both (part.part == part.parts) part.version (version_in_force before) (λ n. version_in_force before ≤ n) (λ _. omega (arith, f.lower)) (λ _. omega arith))

set_part : (others : List HostEntry) (before : List TermEntry) (part : ConfigPart) → SetsOk others before → PartOf others part → part_allowed before part ≡ true → SetsOk others (before ++ Part_entry part ∷ [])
set_part others before part ok of_set allowed' =
    let parts = and_parts ((nat_le 1 part.part && nat_le part.part part.parts) && nat_le part.parts 16) _ allowed' in
    let parts' = and_parts (nat_le 1 part.part && nat_le part.part part.parts) (nat_le part.parts 16) parts.0 in
    let parts'' = and_parts (nat_le 1 part.part) (nat_le part.part part.parts) parts'.0 in
    let low : 1 ≤ part.part = leb-true 1 part.part parts''.0 in
    let high : part.part ≤ part.parts = leb-true part.part part.parts parts''.1 in
    let found = finds others before part ok of_set allowed' in
    let after = before ++ Part_entry part ∷ [] in
    let version_is : version_in_force after ≡ cond (part.part == part.parts) part.version (version_in_force before) = version_push before 0 (Part_entry part) in
    let rows_at : (v : ℕ) → rows_of_version v after ≡ rows_of_version v before ++ (cond (part.version == v) part.rows [] ++ []) = λ v. rows_push v before (Part_entry part) in
    let rows_own : rows_of_version part.version after ≡ take (16 * part.part) of_set.set =
    rows_at part.version ∙ (ap (λ l. rows_of_version part.version before ++ l) (append-nil _ ∙ (cond-true (part.version == part.version) part.rows [] (eq-eqb part.version part.version refl) ∙ of_set.rows_are)) ∙ found.rows_before) in
    let rows_other : (v : ℕ) → (part.version ≡ v → ⊥) → rows_of_version v after ≡ rows_of_version v before =
    λ v ne. rows_at v ∙ (ap (λ l. rows_of_version v before ++ l) (append-nil _ ∙ cond-false (part.version == v) part.rows [] (ne_eqb part.version v ne)) ∙ append-nil _) in
    ⊎_elim
    (λ yes.
    let v : version_in_force after ≡ part.version = version_is ∙ cond-true (part.part == part.parts) _ _ yes in
    let full : part.part ≡ part.parts = eqb-true part.part part.parts yes in
    let rows_full : rows_in_force after ≡ of_set.set = ap (λ n. rows_of_version n after) v ∙ (rows_own ∙ whole_set of_set.set part.part (full ∙ of_set.count)) in
    record {
      staged = rw staged_push (record {
        of_set = of_set;
        low = low;
        high = high;
        rows_are = rows_own;
        in_force = rw v (omega arith);
        complete = λ e. full;
        none_past = λ n lt. rows_other n (λ (e : part.version ≡ n). absurd (omega arith)) ∙ found.none_past n lt;
      });
      in_force = inr (rw v of_set.version, ap (λ n. slice_get (published others) (n - 1)) v ∙ (of_set.there ∙ ap Some (sym rows_full)));
    })
    (λ part_way.
    let v : version_in_force after ≡ version_in_force before = version_is ∙ cond-false (part.part == part.parts) _ _ part_way in
    let rows_same : rows_in_force after ≡ rows_in_force before = ap (λ n. rows_of_version n after) v ∙ rows_other (version_in_force before) (λ (e : part.version ≡ version_in_force before). absurd (omega (arith, found.lower))) in
    record {
      staged = rw staged_push (record {
        of_set = of_set;
        low = low;
        high = high;
        rows_are = rows_own;
        in_force = rw v (omega (arith, found.lower));
        complete = λ e. absurd (omega (arith, found.lower, sym v ∙ e));
        none_past = λ n lt. rows_other n (λ (e : part.version ≡ n). absurd (omega arith)) ∙ found.none_past n lt;
      });
      in_force = ⊎_elim (λ zero'. inl (v ∙ zero'))
          (λ p. inr (rw v p.0, ap (λ n. slice_get (published others) (n - 1)) v ∙ (p.1 ∙ ap Some (sym rows_same)))) ok.in_force;
    })
    (cases_Bool (part.part == part.parts))

-- an entry that is no part changes none of it
staged_kept : (others : List HostEntry) (before : List TermEntry) (entry : TermEntry) (staged : Option ConfigPart) → version_in_force (before ++ entry ∷ []) ≡ version_in_force before → ((v : ℕ) → rows_of_version v (before ++ entry ∷ []) ≡ rows_of_version v before) → StagedOk others before staged → StagedOk others (before ++ entry ∷ []) staged
staged_kept others before entry None v r ok = (v ∙ ok.0, λ n. r n ∙ ok.1 n)
staged_kept others before entry (Some part) v r ok =
    record {
      of_set = ok.of_set;
      low = ok.low;
      high = ok.high;
      rows_are = r part.version ∙ ok.rows_are;
      in_force = rw v ok.in_force;
      complete = λ e. ok.complete (sym v ∙ e);
      none_past = λ n lt. r n ∙ ok.none_past n lt;
    }

set_kept : (others : List HostEntry) (before : List TermEntry) (entry : TermEntry) → SetsOk others before → version_in_force (before ++ entry ∷ []) ≡ version_in_force before → staged_from None (before ++ entry ∷ []) ≡ staged_from None before → ((v : ℕ) → rows_of_version v (before ++ entry ∷ []) ≡ rows_of_version v before) → SetsOk others (before ++ entry ∷ [])
set_kept others before entry ok v s r =
    record {
      staged = rw s (staged_kept others before entry (staged_from None before) v r ok.staged);
      in_force = ⊎_elim (λ zero'. inl (v ∙ zero'))
          (λ p. inr (rw v p.0, ap (λ n. slice_get (published others) (n - 1)) v ∙ (p.1 ∙ ap Some (sym (ap (λ n. rows_of_version n (before ++ entry ∷ [])) v ∙ r (version_in_force before)))))) ok.in_force;
    }

set_quiet : (others : List HostEntry) (before : List TermEntry) (entry : TermEntry) → SetsOk others before → ((n : ℕ) → version_in_force_from n (entry ∷ []) ≡ n) → ((o : Option ConfigPart) → staged_from o (entry ∷ []) ≡ o) → ((v : ℕ) → rows_of_version v (entry ∷ []) ≡ []) → SetsOk others (before ++ entry ∷ [])
set_quiet others before entry ok v s r =
    set_kept others before entry ok (version_push before 0 entry ∙ v _) (staged_push before None entry ∙ s _) (λ n. rows_push n before entry ∙ (ap (λ l. rows_of_version n before ++ l) (r n) ∙ append-nil _))

pub set_step : (others : List HostEntry) (before : List TermEntry) (entry : TermEntry) → SetsOk others before → EntryPart others entry → allowed before entry ≡ true → SetsOk others (before ++ entry ∷ [])
set_step others before (Part_entry part) ok of_set a = set_part others before part ok of_set (allowed_is before (Part_entry part) refl a)
set_step others before (Setup setup) ok of_set a = set_quiet others before (Setup setup) ok (λ n. refl) (λ o. refl) (λ v. refl)
set_step others before (Begin k amount account) ok of_set a = set_quiet others before (Begin k amount account) ok (λ n. refl) (λ o. refl) (λ v. refl)
set_step others before (Declined k) ok of_set a = set_quiet others before (Declined k) ok (λ n. refl) (λ o. refl) (λ v. refl)
set_step others before (Completed k code) ok of_set a = set_quiet others before (Completed k code) ok (λ n. refl) (λ o. refl) (λ v. refl)
set_step others before (Voided k) ok of_set a = set_quiet others before (Voided k) ok (λ n. refl) (λ o. refl) (λ v. refl)
set_step others before (Cancelled k) ok of_set a = set_quiet others before (Cancelled k) ok (λ n. refl) (λ o. refl) (λ v. refl)
set_step others before (Closed k) ok of_set a = set_quiet others before (Closed k) ok (λ n. refl) (λ o. refl) (λ v. refl)
set_step others before (Acked k) ok of_set a = set_quiet others before (Acked k) ok (λ n. refl) (λ o. refl) (λ v. refl)

pub sets_ok : (others : List HostEntry) (entries : List TermEntry) → AllByRecursion (EntryPart others) entries → all_allowed [] entries ≡ true → SetsOk others entries
sets_ok others entries parts ok =
    along (λ before. AllByRecursion (EntryPart others) before → SetsOk others before)
    (λ before entry p a all. set_step others before entry (p (all_front (EntryPart others) before (entry ∷ []) all)) (all_back (EntryPart others) before (entry ∷ []) all).0 a)
    [] entries (λ all. record { staged = (refl, λ v. refl); in_force = inl refl }) ok parts
