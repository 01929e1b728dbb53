-- How the index of a log grows: numbers are noted before the items are added, and forgotten where they are not.
use Rattle.std.proofs.Common.{◌≡◌, ◌⊎◌, ℕ, ◌+◌, ◌<◌, ◌≤◌, Bool, true, false, cond, not, ◌&&◌, ◌||◌, List, [], ◌∷◌, ◌++◌, length, map, take, drop, get_or, Option, Some, None, refl, sym, ◌∙◌, ap, subst, inl, inr, ⊎_elim, append_assoc, append-nil, arith, eqb-true, eq-eqb, length-append, take-append-drop}
use Rattle.std.proofs.lemmas.List.{length-take, take_more, drop_more, map_more}
use Rattle.std.specs.Prelude.{◌==◌, filter, nat_le, count_by}
use Rattle.std.specs.List.{list_any}
use Rattle.std.specs.Ordering.{nat_cmp}
use Rattle.std.specs.BTreeSet.{contains}
use Rattle.std.specs.BTreeMap.{get}
use Rattle.std.proofs.Math.Bool.{or-false}
use Rattle.std.proofs.lemmas.Bool.{cond-true, cond-false, cases_Bool, false≢true, both_ways, and_parts, and_from, or_parts, or_cases, or_left, or_right, false_from_ne_true}
use Rattle.std.proofs.lemmas.List.Folds.{list_any-append, list_any_at}
use Rattle.cap_base.specs.declared.item.Totals.{Totals}
use Rattle.cap_base.specs.declared.item.Item.{Item}
use Rattle.cap_base.specs.declared.item.Item.TheVariants.{Sale, Void, Cancel, Close}
use Rattle.cap_base.specs.Item.{is_end, is_cancel, is_any_close, sale_count, cancel_count}
use Rattle.cap_base.specs.Captured.{captured, period_totals}
use Rattle.cap_base.specs.Fits.{fits, all_fit}
use Rattle.cap_entries.specs.declared.host.HostEntry.{HostEntry}
use Rattle.cap_entries.specs.declared.host.HostEntry.TheVariants.{Took}
use Rattle.cap_entries.specs.Log.{log}
use Rattle.cap_entries.specs.HostSummaryLaws.{log-push}
use Rattle.cap_entries.specs.FitsLaws.{all_fit-append, all_fit_front, all_fit_back}
use Rattle.cap_plain.specs.Counted.{few_sales, few_cancels, sum_period}
use Rattle.cap_plain.specs.Once.{end_new}
use Rattle.cap_host_index.specs.Places.{places_of, sale_place, noted_place, captured_place, captured_places}
use Rattle.cap_host_index.specs.PlacesLaws.{length-places, places-push}
use Rattle.cap_host_index.specs.CapturedLaws.{is_sale, ended_new, no_sale, not_cancelled, cancel_fits, first_some, sale_place-append, sale_place_none, sold_ends, captured_place_none, captured_places_cancel, captured_places_other}
use Rattle.cap_host_index.specs.Periods.{Periods, nothing, period_push, period_close}
use Rattle.cap_host_index.specs.Noted.{Tallies, IsNoted, IsIndex, running_after, closed_after, without, kept_after}
use Rattle.cap_host_index.specs.declared.index.LogIndex.{LogIndex}

-- what fits behind a list fits behind it and one item more
pub fit_more : (xs : List Item) (item : Item) → all_fit [] xs ≡ true → fits xs item ≡ true → all_fit [] (xs ++ item ∷ []) ≡ true
fit_more xs item fit ok = all_fit-append [] xs (item ∷ []) fit (and_from _ _ ok refl)

not_a_cancel : (n : ℕ) (item : Item) → is_end n item ≡ true → (k : ℕ) → is_cancel k item ≡ false
not_a_cancel n (Sale k amount account code) e j = refl
not_a_cancel n (Void k) e j = refl
not_a_cancel n (Cancel k amount) e j = absurd (false≢true e)
not_a_cancel n (Close p totals) e j = absurd (false≢true e)

sale_is_end : (n : ℕ) (item : Item) → is_sale n item ≡ true → is_end n item ≡ true
sale_is_end n (Sale k amount account code) e = e
sale_is_end n (Void k) e = absurd (false≢true e)
sale_is_end n (Cancel k amount) e = absurd (false≢true e)
sale_is_end n (Close p totals) e = absurd (false≢true e)

first_none : (o : Option ℕ) → first_some o None ≡ o
first_none None = refl
first_none (Some p) = refl

-- the noted place of a number, with one item more among the rest
noted_push : (log rest : List Item) (item : Item) (n : ℕ) → all_fit [] (log ++ rest) ≡ true → fits (log ++ rest) item ≡ true
    → noted_place log (rest ++ item ∷ []) n ≡ cond (is_sale n item) (Some (length (log ++ rest))) (noted_place log rest n)
noted_push log rest item n fit ok = split (cases_Bool (is_sale n item))
  where
    longer : sale_place 0 n (log ++ (rest ++ item ∷ [])) ≡ first_some (sale_place 0 n (log ++ rest)) (sale_place (0 + length (log ++ rest)) n (item ∷ []))
    longer = ap (sale_place 0 n) (sym (append_assoc log rest (item ∷ []))) ∙ sale_place-append 0 n (log ++ rest) (item ∷ [])

    split : (is_sale n item ≡ true) ⊎ (is_sale n item ≡ false) → noted_place log (rest ++ item ∷ []) n ≡ cond (is_sale n item) (Some (length (log ++ rest))) (noted_place log rest n)
    split (inl holds) =
        let none = end_new n (log ++ rest) item ok (sale_is_end n item holds) in
        let none_before : list_any (is_end n) log ≡ false = (or_parts (list_any (is_end n) log) (list_any (is_end n) rest) (sym (list_any-append (is_end n) log rest) ∙ none)).0 in
        let uncancelled = not_cancelled log n (all_fit_front [] log rest fit) none_before in
        cond-false (list_any (is_cancel n) log) _ _ uncancelled
        ∙ (longer
        ∙ (ap (λ o. first_some o (sale_place (0 + length (log ++ rest)) n (item ∷ []))) (sale_place_none 0 n (log ++ rest) (no_sale n (log ++ rest) none))
        ∙ (cond-true (is_sale n item) _ _ holds
        ∙ (ap (λ k. Some k) (let same : 0 + length (log ++ rest) ≡ length (log ++ rest) = omega arith in same)
        ∙ sym (cond-true (is_sale n item) _ _ holds)))))
    split (inr no') =
        ap (λ o. cond (list_any (is_cancel n) log) None o)
        (longer ∙ (ap (first_some (sale_place 0 n (log ++ rest))) (cond-false (is_sale n item) _ _ no') ∙ first_none (sale_place 0 n (log ++ rest))))
        ∙ sym (cond-false (is_sale n item) _ _ no')

-- the numbers of one item more are noted
pub noted_more : (log rest : List Item) (item : Item) (x y : LogIndex) → Tallies log rest x → fits (log ++ rest) item ≡ true
    → ((n : ℕ) → contains nat_cmp y.ended n ≡ (contains nat_cmp x.ended n || is_end n item))
    → ((n : ℕ) → get nat_cmp y.captured n ≡ cond (is_sale n item) (Some (length (log ++ rest))) (get nat_cmp x.captured n))
    → y.kept.items ≡ x.kept.items → y.running ≡ x.running → y.closed.items ≡ x.closed.items
    → Tallies log (rest ++ item ∷ []) y
noted_more log rest item x y t ok ended captured kept running closed =
    record {
      fit = ap (all_fit []) (sym (append_assoc log rest (item ∷ []))) ∙ fit_more (log ++ rest) item t.fit ok;
      ended = λ n. ended n ∙ (ap (λ b. b || is_end n item) (t.ended n) ∙ (ap (λ b. list_any (is_end n) (log ++ rest) || b) (sym (or-false (is_end n item))) ∙ (sym (list_any-append (is_end n) (log ++ rest) (item ∷ [])) ∙ ap (list_any (is_end n)) (append_assoc log rest (item ∷ [])))));
      captured = λ n. captured n ∙ (ap (λ o. cond (is_sale n item) (Some (length (log ++ rest))) o) (t.captured n) ∙ sym (noted_push log rest item n t.fit ok));
      kept = kept ∙ t.kept;
      periods =
          subst (λ (r : Totals). Periods log r y.closed.items) (sym running)
          (subst (λ (c : List Totals). Periods log x.running c) (sym closed) t.periods);
    }

-- no place of a number that has no end
unplaced : (log : List Item) (n : ℕ) → list_any (is_end n) log ≡ false → captured_place log n ≡ None
unplaced log n none =
    ap (λ l. cond (list_any (is_cancel n) log) None (sale_place 0 n l)) (append-nil log)
    ∙ (ap (λ o. cond (list_any (is_cancel n) log) None o) (sale_place_none 0 n log (no_sale n log none))
    ∙ both (list_any (is_cancel n) log))
  where
    both : (b : Bool) → cond b None None ≡ (let none : Option ℕ = None in none)
    both true = refl
    both false = refl

-- a number that the rest does not end has its place in the log
noted_elsewhere : (log rest : List Item) (n : ℕ) → list_any (is_end n) rest ≡ false → noted_place log rest n ≡ captured_place log n
noted_elsewhere log rest n none =
    ap (λ o. cond (list_any (is_cancel n) log) None o)
    (sale_place-append 0 n log rest
    ∙ (ap (first_some (sale_place 0 n log)) (sale_place_none (0 + length log) n rest (no_sale n rest none))
    ∙ (first_none (sale_place 0 n log) ∙ ap (sale_place 0 n) (sym (append-nil log)))))

and_no : (b : Bool) → (b && false) ≡ false
and_no true = refl
and_no false = refl

and_yes : (b : Bool) → (b && true) ≡ b
and_yes true = refl
and_yes false = refl

-- what stands where some numbers of the rest, and no others, were noted
pub record NotedSome (log rest : List Item) (x : LogIndex) : Type 0 where
  pub fit : all_fit [] (log ++ rest) ≡ true
  pub ended : (n : ℕ) → list_any (is_end n) rest ≡ false → contains nat_cmp x.ended n ≡ list_any (is_end n) log
  pub captured : (n : ℕ) → list_any (is_end n) rest ≡ false → get nat_cmp x.captured n ≡ captured_place log n
  pub kept : x.kept.items ≡ captured_places log
  pub periods : Periods log x.running x.closed.items

pub some_from_all : (log rest : List Item) (x : LogIndex) → Tallies log rest x → NotedSome log rest x
some_from_all log rest x t =
    record {
      fit = t.fit;
      ended = λ n none. t.ended n ∙ (list_any-append (is_end n) log rest ∙ (ap (λ b. list_any (is_end n) log || b) none ∙ or-false (list_any (is_end n) log)));
      captured = λ n none. t.captured n ∙ noted_elsewhere log rest n none;
      kept = t.kept;
      periods = t.periods;
    }

-- the numbers of the rest are forgotten
pub forgotten : (log rest : List Item) (x y : LogIndex) → NotedSome log rest x
    → ((n : ℕ) → contains nat_cmp y.ended n ≡ (contains nat_cmp x.ended n && not (list_any (is_end n) rest)))
    → ((n : ℕ) → get nat_cmp y.captured n ≡ cond (list_any (is_end n) rest) None (get nat_cmp x.captured n))
    → y.kept.items ≡ x.kept.items → y.running ≡ x.running → y.closed.items ≡ x.closed.items
    → Tallies log [] y
forgotten log rest x y t ended captured kept running closed =
    let fit_log = all_fit_front [] log rest t.fit in
    let fit_rest = all_fit_back [] log rest t.fit in
    record {
      fit = ap (all_fit []) (append-nil log) ∙ fit_log;
      ended = λ n. ended n ∙ (ended_is fit_rest n (cases_Bool (list_any (is_end n) rest)) ∙ ap (list_any (is_end n)) (sym (append-nil log)));
      captured = λ n. captured n ∙ captured_is fit_rest n (cases_Bool (list_any (is_end n) rest));
      kept = kept ∙ t.kept;
      periods =
          subst (λ (r : Totals). Periods log r y.closed.items) (sym running)
          (subst (λ (c : List Totals). Periods log x.running c) (sym closed) t.periods);
    }
  where
    ended_is : all_fit log rest ≡ true → (n : ℕ) → (list_any (is_end n) rest ≡ true) ⊎ (list_any (is_end n) rest ≡ false) → (contains nat_cmp x.ended n && not (list_any (is_end n) rest)) ≡ list_any (is_end n) log
    ended_is fit n (inl holds) = ap (λ b. contains nat_cmp x.ended n && not b) holds ∙ (and_no (contains nat_cmp x.ended n) ∙ sym (ended_new log rest n fit holds))
    ended_is fit n (inr no') = ap (λ b. contains nat_cmp x.ended n && not b) no' ∙ (and_yes (contains nat_cmp x.ended n) ∙ t.ended n no')

    captured_is : all_fit log rest ≡ true → (n : ℕ) → (list_any (is_end n) rest ≡ true) ⊎ (list_any (is_end n) rest ≡ false) → cond (list_any (is_end n) rest) None (get nat_cmp x.captured n) ≡ captured_place log n
    captured_is fit n (inl holds) = cond-true (list_any (is_end n) rest) _ _ holds ∙ sym (unplaced log n (ended_new log rest n fit holds))
    captured_is fit n (inr no') = cond-false (list_any (is_end n) rest) _ _ no' ∙ t.captured n no'

-- no more sales or cancellations in the open period than numbers
pub few_open : (log : List Item) (p : ℕ) → all_fit [] log ≡ true → ((period_totals log p).sales ≤ 250000) × ((period_totals log p).cancels ≤ 250000)
few_open log p fit = (omega (arith, sum_period sale_count p log, few_sales log fit), omega (arith, sum_period cancel_count p log, few_cancels log fit))

fit_front : (log : List Item) (item : Item) (rest : List Item) → all_fit [] (log ++ item ∷ rest) ≡ true → fits log item ≡ true
fit_front log item rest fit = (and_parts (fits log item) (all_fit (log ++ item ∷ []) rest) (all_fit_back [] log (item ∷ rest) fit)).0

-- the periods with one item more
periods_grow : (log : List Item) (item : Item) (running : Totals) (closed : List Totals) → Periods log running closed → fits log item ≡ true → Periods (log ++ item ∷ []) (running_after running item) (closed_after closed running item)
periods_grow log (Sale n amount account code) running closed was ok = period_push log running closed was (Sale n amount account code) refl (λ q. refl)
periods_grow log (Void n) running closed was ok = period_push log running closed was (Void n) refl (λ q. refl)
periods_grow log (Cancel n amount) running closed was ok = period_push log running closed was (Cancel n amount) refl (λ q. refl)
periods_grow log (Close p sums) running closed was ok =
    let next : p ≡ length closed + 1 = eqb-true p (count_by is_any_close log + 1) (and_parts (p == count_by is_any_close log + 1) (nat_le p 250000) ok).0 ∙ ap (λ k. k + 1) was.closes in
    subst (λ q. Periods (log ++ Close q sums ∷ []) nothing (closed ++ running ∷ [])) (sym next) (period_close log running closed was sums)

-- the captured places with one item more
kept_grow : (log : List Item) (item : Item) (rest : List Item) (x : LogIndex) → Tallies log (item ∷ rest) x → kept_after (length log) (λ n. get nat_cmp x.captured n) x.kept.items item ≡ captured_places (log ++ item ∷ [])
kept_grow log (Sale n amount account code) rest x t =
    let fit_log = all_fit_front [] log (Sale n amount account code ∷ rest) t.fit in
    let none = end_new n log (Sale n amount account code) (fit_front log (Sale n amount account code) rest t.fit) (eq-eqb n n refl) in
    sym
    (captured_places_other log (Sale n amount account code) (λ k. refl)
    ∙ (ap (λ b. captured_places log ++ cond b (length log ∷ []) []) (ap not (not_cancelled log n fit_log none))
    ∙ ap (λ l. l ++ length log ∷ []) (sym t.kept)))
kept_grow log (Void n) rest x t = sym (captured_places_other log (Void n) (λ k. refl) ∙ (append-nil (captured_places log) ∙ sym t.kept))
kept_grow log (Close p totals) rest x t = sym (captured_places_other log (Close p totals) (λ k. refl) ∙ (append-nil (captured_places log) ∙ sym t.kept))
kept_grow log (Cancel n amount) rest x t = at (get nat_cmp x.captured n) refl
  where
    fit_log : all_fit [] log ≡ true
    fit_log = all_fit_front [] log (Cancel n amount ∷ rest) t.fit

    ok : fits log (Cancel n amount) ≡ true
    ok = fit_front log (Cancel n amount) rest t.fit

    -- a sale that may be cancelled is in the log, and not among the rest
    ended_before : list_any (is_end n) rest ≡ false
    ended_before = false_from_ne_true _ (λ later. both_ways _ (ended_new (log ++ Cancel n amount ∷ []) rest n (and_parts (fits log (Cancel n amount)) (all_fit (log ++ Cancel n amount ∷ []) rest) (all_fit_back [] log (Cancel n amount ∷ rest) t.fit)).1 later) (list_any-append (is_end n) log (Cancel n amount ∷ []) ∙ or_left _ _ sold))
      where
        sold : list_any (is_end n) log ≡ true
        sold = sold_ends n amount log (cancel_fits log n amount ok).sold

    place_is : get nat_cmp x.captured n ≡ captured_place log n
    place_is = t.captured n ∙ noted_elsewhere log (Cancel n amount ∷ rest) n ended_before

    at : (o : Option ℕ) → o ≡ get nat_cmp x.captured n → without o x.kept.items ≡ captured_places (log ++ Cancel n amount ∷ [])
    at None e = absurd (false≢true (sym (captured_place_none log n amount (sym (e ∙ place_is))) ∙ ok))
    at (Some p) e = ap (filter (λ q. not (q == p))) t.kept ∙ sym (captured_places_cancel log n amount p fit_log ok (sym (e ∙ place_is)))

-- one item of the rest is added
pub tallied : (log : List Item) (item : Item) (rest : List Item) (x y : LogIndex) → Tallies log (item ∷ rest) x
    → ((n : ℕ) → contains nat_cmp y.ended n ≡ contains nat_cmp x.ended n)
    → ((n : ℕ) → get nat_cmp y.captured n ≡ cond (is_cancel n item) None (get nat_cmp x.captured n))
    → y.kept.items ≡ kept_after (length log) (λ n. get nat_cmp x.captured n) x.kept.items item
    → y.running ≡ running_after x.running item → y.closed.items ≡ closed_after x.closed.items x.running item
    → Tallies (log ++ item ∷ []) rest y
tallied log item rest x y t ended captured kept running closed =
    record {
      fit = ap (all_fit []) (append_assoc log (item ∷ []) rest) ∙ t.fit;
      ended = λ n. ended n ∙ (t.ended n ∙ ap (list_any (is_end n)) (sym (append_assoc log (item ∷ []) rest)));
      captured = λ n. captured n ∙ placed n (cases_Bool (is_cancel n item));
      kept = kept ∙ kept_grow log item rest x t;
      periods =
          subst (λ (r : Totals). Periods (log ++ item ∷ []) r y.closed.items) (sym running)
          (subst (λ (c : List Totals). Periods (log ++ item ∷ []) (running_after x.running item) c) (sym closed)
          (periods_grow log item x.running x.closed.items t.periods (fit_front log item rest t.fit)));
    }
  where
    cancels_with : (n : ℕ) → list_any (is_cancel n) (log ++ item ∷ []) ≡ (list_any (is_cancel n) log || is_cancel n item)
    cancels_with n = list_any-append (is_cancel n) log (item ∷ []) ∙ ap (λ b. list_any (is_cancel n) log || b) (or-false (is_cancel n item))

    placed : (n : ℕ) → (is_cancel n item ≡ true) ⊎ (is_cancel n item ≡ false) → cond (is_cancel n item) None (get nat_cmp x.captured n) ≡ noted_place (log ++ item ∷ []) rest n
    placed n (inl holds) =
        cond-true (is_cancel n item) _ _ holds
        ∙ sym (cond-true (list_any (is_cancel n) (log ++ item ∷ [])) _ _ (cancels_with n ∙ or_right _ _ holds))
    placed n (inr no') =
        cond-false (is_cancel n item) _ _ no'
        ∙ (t.captured n
        ∙ (ap (λ l. cond (list_any (is_cancel n) log) None (sale_place 0 n l)) (sym (append_assoc log (item ∷ []) rest))
        ∙ ap (λ b. cond b None (sale_place 0 n ((log ++ item ∷ []) ++ rest))) (sym (cancels_with n ∙ (ap (λ b. list_any (is_cancel n) log || b) no' ∙ or-false (list_any (is_cancel n) log))))))

-- the log with an item that the terminal's entry holds
pub log_took : (entries : List HostEntry) (terminal : ℕ) (item : Item) → log (entries ++ Took terminal item ∷ []) terminal ≡ log entries terminal ++ item ∷ []
log_took entries terminal item = log-push entries (Took terminal item) terminal ∙ ap (λ l. log entries terminal ++ l) (cond-true (terminal == terminal) _ _ (eq-eqb terminal terminal refl))

pub places_took : (entries : List HostEntry) (terminal : ℕ) (item : Item) → places_of (entries ++ Took terminal item ∷ []) terminal ≡ places_of entries terminal ++ length entries ∷ []
places_took entries terminal item =
    places-push entries (Took terminal item) terminal
    ∙ ap (λ (l : List Item). places_of entries terminal ++ map (λ _. length entries) l) (cond-true (terminal == terminal) _ _ (eq-eqb terminal terminal refl))

-- an item of a list that fits, behind those before it
pub fit_at : (before items : List Item) (i : ℕ) (d : Item) → i < length items → all_fit before items ≡ true → fits (before ++ take i items) (get_or items i d) ≡ true
fit_at before items i d within fit =
    let split : all_fit before (take i items ++ drop i items) ≡ true = ap (all_fit before) (take-append-drop i items) ∙ fit in
    let rest : all_fit (before ++ take i items) (drop i items) ≡ true = all_fit_back before (take i items) (drop i items) split in
    (and_parts (fits (before ++ take i items) (get_or items i d)) (all_fit ((before ++ take i items) ++ get_or items i d ∷ []) (drop (i + 1) items)) (ap (all_fit (before ++ take i items)) (sym (drop_more items i d within)) ∙ rest)).0

-- where no item has it, the item at a place has it not
pub none_at : (p : Item → Bool) (items : List Item) (i : ℕ) (d : Item) → i < length items → list_any p items ≡ false → p (get_or items i d) ≡ false
none_at p items i d within none = false_from_ne_true _ (λ yes. both_ways _ none (list_any_at p items i d within yes))

-- item i of some is noted behind those before it
pub noted_step : (entries : List HostEntry) (terminal : ℕ) (items : List Item) (i place : ℕ) (d : Item) (x y : LogIndex) → i < length items → d ≡ get_or items i d → place ≡ length x.places.items + i
    → all_fit (log entries terminal) items ≡ true → IsNoted entries terminal (take i items) x
    → ((n : ℕ) → contains nat_cmp y.ended n ≡ (contains nat_cmp x.ended n || is_end n d))
    → ((n : ℕ) → get nat_cmp y.captured n ≡ cond (is_sale n d) (Some place) (get nat_cmp x.captured n))
    → y.places.items ≡ x.places.items → y.kept.items ≡ x.kept.items → y.running ≡ x.running → y.closed.items ≡ x.closed.items
    → IsNoted entries terminal (take (i + 1) items) y
noted_step entries terminal items i place d x y within is at fit noted ended captured places kept running closed =
    let own = log entries terminal in
    let stands : place ≡ length (own ++ take i items) =
    omega (arith, at, ap length noted.places, length-places 0 entries terminal, length-append own (take i items), length-take i items) in
    record {
      places = places ∙ noted.places;
      tallies =
          subst (λ (l : List Item). Tallies own l y) (ap (λ e. take i items ++ e ∷ []) is ∙ sym (take_more items i d within))
          (noted_more own (take i items) d x y noted.tallies (ap (fits (own ++ take i items)) is ∙ fit_at own items i d within fit) ended
          (λ n. captured n ∙ ap (λ p. cond (is_sale n d) (Some p) (get nat_cmp x.captured n)) stands) kept running closed);
    }

-- an index of which no number is noted has none of the numbers of items that fit behind it
pub some_none : (entries : List HostEntry) (terminal : ℕ) (items : List Item) (x y : LogIndex) → IsIndex entries terminal x → all_fit (log entries terminal) items ≡ true
    → ((n : ℕ) → list_any (is_end n) items ≡ false → contains nat_cmp y.ended n ≡ contains nat_cmp x.ended n)
    → ((n : ℕ) → list_any (is_end n) items ≡ false → get nat_cmp y.captured n ≡ get nat_cmp x.captured n)
    → y.kept.items ≡ x.kept.items → y.running ≡ x.running → y.closed.items ≡ x.closed.items
    → NotedSome (log entries terminal) items y
some_none entries terminal items x y index fit ended captured kept running closed =
    let own = log entries terminal in
    let t = index.tallies in
    record {
      fit = all_fit-append [] own items (sym (ap (all_fit []) (append-nil own)) ∙ t.fit) fit;
      ended = λ n none. ended n none ∙ (t.ended n ∙ ap (list_any (is_end n)) (append-nil own));
      captured = λ n none. captured n none ∙ t.captured n;
      kept = kept ∙ t.kept;
      periods =
          subst (λ (r : Totals). Periods own r y.closed.items) (sym running)
          (subst (λ (c : List Totals). Periods own x.running c) (sym closed) t.periods);
    }

-- one item more is taken
pub taken_one : (entries : List HostEntry) (terminal : ℕ) (item : Item) (rest : List Item) (number : ℕ) (x y : LogIndex) → number ≡ length entries → IsNoted entries terminal (item ∷ rest) x
    → ((n : ℕ) → contains nat_cmp y.ended n ≡ contains nat_cmp x.ended n)
    → ((n : ℕ) → get nat_cmp y.captured n ≡ cond (is_cancel n item) None (get nat_cmp x.captured n))
    → y.places.items ≡ x.places.items ++ number ∷ []
    → y.kept.items ≡ kept_after (length x.places.items) (λ n. get nat_cmp x.captured n) x.kept.items item
    → (x.running.sales ≤ 250000 → x.running.cancels ≤ 250000 → y.running ≡ running_after x.running item)
    → y.closed.items ≡ closed_after x.closed.items x.running item
    → IsNoted (entries ++ Took terminal item ∷ []) terminal rest y
taken_one entries terminal item rest number x y at noted ended captured places kept running closed =
    let own = log entries terminal in
    let t = noted.tallies in
    let few = few_open own (length x.closed.items + 1) (all_fit_front [] own (item ∷ rest) t.fit) in
    let many : length x.places.items ≡ length own = ap length noted.places ∙ length-places 0 entries terminal in
    record {
      places = places ∙ (ap (λ (l : List ℕ). l ++ number ∷ []) noted.places ∙ (ap (λ k. places_of entries terminal ++ k ∷ []) at ∙ sym (places_took entries terminal item)));
      tallies =
          subst (λ (l : List Item). Tallies l rest y) (sym (log_took entries terminal item))
          (tallied own item rest x y t ended captured (kept ∙ ap (λ k. kept_after k (λ n. get nat_cmp x.captured n) x.kept.items item) many)
          (running (omega (arith, few.0, ap (λ (s : Totals). s.sales) t.periods.running_is)) (omega (arith, few.1, ap (λ (s : Totals). s.cancels) t.periods.running_is))) closed);
    }

-- item i of some that were noted is taken
pub taken_step : (entries : List HostEntry) (terminal : ℕ) (items : List Item) (i : ℕ) (d : Item) (y : LogIndex) → i < length items → d ≡ get_or items i d
    → IsNoted ((entries ++ map (Took terminal) (take i items)) ++ Took terminal d ∷ []) terminal (drop (i + 1) items) y
    → IsNoted (entries ++ map (Took terminal) (take (i + 1) items)) terminal (drop (i + 1) items) y
taken_step entries terminal items i d y within is noted =
    subst (λ (l : List HostEntry). IsNoted l terminal (drop (i + 1) items) y)
    (append_assoc entries (map (Took terminal) (take i items)) (Took terminal d ∷ [])
    ∙ ap (λ (l : List HostEntry). entries ++ l) (ap (λ e. map (Took terminal) (take i items) ++ Took terminal e ∷ []) is ∙ sym (map_more (Took terminal) items i d within)))
    noted
