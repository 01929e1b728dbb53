-- What is read of a log for a report is the log's part of it.
use Rattle.std.proofs.Common.{◌≡◌, ⊎_elim, ℕ, zero, suc, ◌+◌, ◌<◌, ◌≤◌, Bool, true, false, cond, not, ◌||◌, List, [], ◌∷◌, ◌++◌, length, drop, Option, Some, None, refl, sym, ◌∙◌, ap, append_assoc, append-nil, arith, eq-eqb, eqb-true, leb-true}
use Rattle.std.specs.Prelude.{◌==◌, nat_le, slice_get, filter, count_by}
use Rattle.std.specs.List.{list_any}
use Rattle.std.proofs.lemmas.Bool.{false≢true, cond-true, cases_Bool, and_parts, or_cases, or_left, or_right}
use Rattle.std.proofs.Math.Bool.{or-false}
use Rattle.std.proofs.lemmas.Bool.Decides.{nat_tests}
use Rattle.std.proofs.lemmas.List.{drop_more, drop_all}
use Rattle.std.proofs.lemmas.List.Folds.{list_any-append}
use Rattle.std.proofs.lemmas.List.Sums.{sum_by-cons, sum_by_push, count_by-le-length, length-filter}
use Rattle.std.proofs.lemmas.Option.{none-some, same_Some, slice_get_within, get_or_from_slice_get, slice_get_cases}
use Rattle.cap_base.specs.declared.item.Item.{Item}
use Rattle.cap_base.specs.declared.item.Item.TheVariants.{Sale, Void, Cancel, Close}
use Rattle.cap_base.specs.declared.item.Totals.{Totals}
use Rattle.cap_base.specs.Item.{is_cancel, is_close, is_any_close, is_sale_where, sale_amount}
use Rattle.cap_base.specs.Captured.{captured, period_totals, totals}
use Rattle.cap_base.specs.Fits.{fits, all_fit}
use Rattle.cap_host.specs.declared.capture.Captured.{Captured}
use Rattle.cap_host.specs.Capture.{line_of}
use Rattle.cap_host_index.specs.CapturedLaws.{along}
use Rattle.cap_plays.specs.Report.{amounts, host_line, period_text, period_lines}
use Rattle.cap_entries.specs.declared.host.HostEntry.{HostEntry}
use Rattle.cap_entries.specs.HostAllowed.{LegalHost}
use Rattle.cap_entries.specs.Log.{log}
use Rattle.cap_entries.specs.LogsFit.{logs_fit}
use Rattle.cap_host_lines.specs.Logs.{periods_text, log_text}

-- what a filter keeps passes it
filter_passes : (test : Item → Bool) (items : List Item) (k : ℕ) (item : Item) → slice_get (filter test items) k ≡ Some item → test item ≡ true
filter_passes test [] k item there = absurd (none-some item there)
filter_passes test (head ∷ items) k item there = split (test head) refl (λ j. filter_passes test items j item) k there
  where
    split : (b : Bool) → test head ≡ b → ((j : ℕ) → slice_get (filter test items) j ≡ Some item → test item ≡ true) → (k : ℕ) → slice_get (cond b (head ∷ filter test items) (filter test items)) k ≡ Some item → test item ≡ true
    split true is rest zero there = ap test (sym (same_Some head item there)) ∙ is
    split true is rest (suc k) there = rest k there
    split false is rest k there = rest k there

-- a captured item is a Sale
sale_line : (test : ℕ → Bool) (item : Item) → is_sale_where test item ≡ true → line_of (Some item) ≡ None → ⊥
sale_line test (Sale n amount account code) is none = cc
sale_line test (Void n) is none = false≢true is
sale_line test (Cancel n amount) is none = false≢true is
sale_line test (Close p sums) is none = false≢true is

-- past the last captured sale
pub all_read : (taken : List Item) (k : ℕ) → line_of (slice_get (captured taken) k) ≡ None → length (captured taken) ≤ k
all_read taken k none = by_cases (slice_get (captured taken) k) refl none
  where
    by_cases : (found : Option Item) → slice_get (captured taken) k ≡ found → line_of found ≡ None → length (captured taken) ≤ k
    by_cases None is none = ⊎_elim (λ there. absurd (none-some _ (sym is ∙ there.2))) (λ past. past.0) (slice_get_cases (captured taken) k).1
    by_cases (Some item) is none = absurd (sale_line _ item (filter_passes _ taken k item is) none)

-- a captured sale more
pub one_read : (taken : List Item) (k : ℕ) (line : Captured) → line_of (slice_get (captured taken) k) ≡ Some line
    → (k < length (captured taken)) × (amounts (drop k (captured taken)) ≡ line.amount + amounts (drop (k + 1) (captured taken)))
one_read taken k line there = by_cases (slice_get (captured taken) k) refl there
  where
    Told : Type 0
    Told = (k < length (captured taken)) × (amounts (drop k (captured taken)) ≡ line.amount + amounts (drop (k + 1) (captured taken)))

    by_item : (item : Item) → slice_get (captured taken) k ≡ Some item → sale_amount item ≡ line.amount → Told
    by_item item is same =
        let within : k < length (captured taken) = slice_get_within (captured taken) k item is in
        let here : drop k (captured taken) ≡ item ∷ drop (k + 1) (captured taken) = drop_more (captured taken) k item within ∙ ap (λ (x : Item). x ∷ drop (k + 1) (captured taken)) (get_or_from_slice_get (captured taken) k item item is) in
        (within, ap amounts here ∙ (sum_by-cons sale_amount item (drop (k + 1) (captured taken)) ∙ ap (λ (a : ℕ). a + amounts (drop (k + 1) (captured taken))) same))

    by_cases : (found : Option Item) → slice_get (captured taken) k ≡ found → line_of found ≡ Some line → Told
    by_cases None is there = absurd (none-some line there)
    by_cases (Some (Sale n amount account code)) is there =
        by_item (Sale n amount account code) is (ap (λ (c : Captured). c.amount) (same_Some _ _ there))
    by_cases (Some (Void n)) is there = absurd (none-some line there)
    by_cases (Some (Cancel n amount)) is there = absurd (none-some line there)
    by_cases (Some (Close p sums)) is there = absurd (none-some line there)

pub none_left : (taken : List Item) (k : ℕ) → length (captured taken) ≤ k → amounts (drop k (captured taken)) ≡ 0
none_left taken k past = ap amounts (drop_all k (captured taken) past)

pub few_captured : (taken : List Item) → length (captured taken) ≤ length taken
few_captured taken =
    let test = is_sale_where (λ n. not (list_any (is_cancel n) taken)) in
    let same : length (captured taken) ≡ count_by test taken = length-filter test taken in
    let few : count_by test taken ≤ length taken = count_by-le-length test taken in
    omega (arith, same, few)

pub nothing_yet : (n : ℕ) → 0 + n ≡ n
nothing_yet n = omega arith

-- the closings of a taken number its periods from 1 on
abbrev closings : List Item → ℕ
closings taken = count_by is_any_close taken

closings_push : (taken : List Item) (item : Item) → closings (taken ++ item ∷ []) ≡ closings taken + cond (is_any_close item) 1 0
closings_push taken item = sum_by_push (λ (x : Item). cond (is_any_close x) 1 0) taken item

abbrev InRange : List Item → Type 0
InRange taken = (q : ℕ) → list_any (is_close q) taken ≡ true → (1 ≤ q) × (q ≤ closings taken)

abbrev AllClosed : List Item → Type 0
AllClosed taken = (q : ℕ) → 1 ≤ q → q ≤ closings taken → list_any (is_close q) taken ≡ true

no_close : (taken : List Item) (item : Item) (q : ℕ) → is_close q item ≡ false → list_any (is_close q) (taken ++ item ∷ []) ≡ list_any (is_close q) taken
no_close taken item q not_it = list_any-append (is_close q) taken (item ∷ []) ∙ (ap (λ (b : Bool). list_any (is_close q) taken || (b || false)) not_it ∙ or-false _)

range_other : (taken : List Item) (item : Item) → InRange taken → is_any_close item ≡ false → ((q : ℕ) → is_close q item ≡ false) → InRange (taken ++ item ∷ [])
range_other taken item range none nowhere q is =
    let r = range q (sym (no_close taken item q (nowhere q)) ∙ is) in
    let same : closings (taken ++ item ∷ []) ≡ closings taken + 0 = closings_push taken item ∙ ap (λ (b : Bool). closings taken + cond b 1 0) none in
    (r.0, omega (arith, r.1, same))

range_step : (taken : List Item) (item : Item) → InRange taken → fits taken item ≡ true → InRange (taken ++ item ∷ [])
range_step taken (Sale n amount account code) range ok = range_other taken (Sale n amount account code) range refl (λ q. refl)
range_step taken (Void n) range ok = range_other taken (Void n) range refl (λ q. refl)
range_step taken (Cancel n amount) range ok = range_other taken (Cancel n amount) range refl (λ q. refl)
range_step taken (Close p sums) range ok = λ q is.
    let next : p ≡ closings taken + 1 = eqb-true p (closings taken + 1) (and_parts (p == closings taken + 1) (nat_le p 250000) ok).0 in
    let more : closings (taken ++ Close p sums ∷ []) ≡ closings taken + 1 = closings_push taken (Close p sums) in
    ⊎_elim
    (λ before. let r = range q before in (r.0, omega (arith, r.1, more)))
    (λ here. let same : p ≡ q = eqb-true p q (sym (or-false (p == q)) ∙ here) in (omega (arith, next, same), omega (arith, next, same, more)))
    (or_cases _ _ (sym (list_any-append (is_close q) taken (Close p sums ∷ [])) ∙ is))

all_other : (taken : List Item) (item : Item) → AllClosed taken → is_any_close item ≡ false → AllClosed (taken ++ item ∷ [])
all_other taken item all none q low high =
    let same : closings (taken ++ item ∷ []) ≡ closings taken + 0 = closings_push taken item ∙ ap (λ (b : Bool). closings taken + cond b 1 0) none in
    list_any-append (is_close q) taken (item ∷ []) ∙ or_left _ _ (all q low (omega (arith, high, same)))

all_step : (taken : List Item) (item : Item) → AllClosed taken → fits taken item ≡ true → AllClosed (taken ++ item ∷ [])
all_step taken (Sale n amount account code) all ok = all_other taken (Sale n amount account code) all refl
all_step taken (Void n) all ok = all_other taken (Void n) all refl
all_step taken (Cancel n amount) all ok = all_other taken (Cancel n amount) all refl
all_step taken (Close p sums) all ok = λ q low high.
    let next : p ≡ closings taken + 1 = eqb-true p (closings taken + 1) (and_parts (p == closings taken + 1) (nat_le p 250000) ok).0 in
    let more : closings (taken ++ Close p sums ∷ []) ≡ closings taken + 1 = closings_push taken (Close p sums) in
    list_any-append (is_close q) taken (Close p sums ∷ [])
    ∙ ⊎_elim
    (λ yes. or_left _ _ (all q low (leb-true q (closings taken) yes)))
    (λ no_more.
    let beyond : closings taken < q = grind (arith, nat_tests) in
    let same : p ≡ q = omega (arith, next, beyond, high, more) in
    or_right _ _ (or_left _ _ (eq-eqb p q same)))
    (cases_Bool (nat_le q (closings taken)))

in_range : (taken : List Item) → all_fit [] taken ≡ true → InRange taken
in_range taken fit = along InRange range_step [] taken (λ q is. absurd (false≢true is)) fit

all_closed : (taken : List Item) → all_fit [] taken ≡ true → AllClosed taken
all_closed taken fit = along AllClosed all_step [] taken (λ q low high. absurd (let no_number : ⊥ = omega (arith, low, high) in no_number)) fit

-- a period that is closed, or not
pub is_closed : (taken : List Item) (q : ℕ) (sums : Totals) → all_fit [] taken ≡ true → totals taken (q + 1) ≡ Some sums → (q < closings taken) × (sums ≡ period_totals taken (q + 1))
is_closed taken q sums fit there = split (list_any (is_close (q + 1)) taken) refl there
  where
    split : (b : Bool) → list_any (is_close (q + 1)) taken ≡ b → cond b (Some (period_totals taken (q + 1))) None ≡ Some sums → (q < closings taken) × (sums ≡ period_totals taken (q + 1))
    split true is there = let r = in_range taken fit (q + 1) is in (omega (arith, r.1), sym (same_Some _ _ there))
    split false is there = absurd (none-some sums there)

pub is_open : (taken : List Item) (q : ℕ) → all_fit [] taken ≡ true → totals taken (q + 1) ≡ None → closings taken ≤ q
is_open taken q fit none = ⊎_elim
    (λ yes.
    let closed : list_any (is_close (q + 1)) taken ≡ true = all_closed taken fit (q + 1) (omega arith) (let high : q + 1 ≤ closings taken = leb-true (q + 1) (closings taken) yes in high) in
    absurd (none-some _ (sym none ∙ cond-true (list_any (is_close (q + 1)) taken) _ _ closed)))
    (λ no_more. let within : closings taken ≤ q = grind (arith, nat_tests) in within)
    (cases_Bool (nat_le (q + 1) (closings taken)))

pub few_closings : (taken : List Item) → closings taken ≤ length taken
few_closings taken = count_by-le-length is_any_close taken

-- a line for each closing is a line for each period
lines_push : (id : List ℕ) (all taken : List Item) (item : Item) → period_lines id all (taken ++ item ∷ []) ≡ period_lines id all taken ++ period_lines id all (item ∷ [])
lines_push id all [] item = refl
lines_push id all (Sale n amount account code ∷ taken) item = lines_push id all taken item
lines_push id all (Void n ∷ taken) item = lines_push id all taken item
lines_push id all (Cancel n amount ∷ taken) item = lines_push id all taken item
lines_push id all (Close p sums ∷ taken) item =
    ap (λ (l : List ℕ). period_text id p (period_totals all p) ++ l) (lines_push id all taken item)
    ∙ sym (append_assoc (period_text id p (period_totals all p)) (period_lines id all taken) (period_lines id all (item ∷ [])))

module _ (id : List ℕ) (all : List Item) where
  abbrev AreLines : List Item → Type 0
  AreLines taken = period_lines id all taken ≡ periods_text id all (closings taken)

  lines_other : (taken : List Item) (item : Item) → AreLines taken → is_any_close item ≡ false → period_lines id all (item ∷ []) ≡ [] → AreLines (taken ++ item ∷ [])
  lines_other taken item are none nothing =
      let same : closings (taken ++ item ∷ []) ≡ closings taken + 0 = closings_push taken item ∙ ap (λ (b : Bool). closings taken + cond b 1 0) none in
      let still : closings taken ≡ closings (taken ++ item ∷ []) = omega (arith, same) in
      lines_push id all taken item ∙ (ap (λ (l : List ℕ). period_lines id all taken ++ l) nothing ∙ (append-nil (period_lines id all taken) ∙ (are ∙ ap (periods_text id all) still)))

  lines_step : (taken : List Item) (item : Item) → AreLines taken → fits taken item ≡ true → AreLines (taken ++ item ∷ [])
  lines_step taken (Sale n amount account code) are ok = lines_other taken (Sale n amount account code) are refl refl
  lines_step taken (Void n) are ok = lines_other taken (Void n) are refl refl
  lines_step taken (Cancel n amount) are ok = lines_other taken (Cancel n amount) are refl refl
  lines_step taken (Close p sums) are ok =
      let next : p ≡ closings taken + 1 = eqb-true p (closings taken + 1) (and_parts (p == closings taken + 1) (nat_le p 250000) ok).0 in
      let number : p ≡ suc (closings taken) = omega (arith, next) in
      let more : suc (closings taken) ≡ closings (taken ++ Close p sums ∷ []) = (let pushed : closings (taken ++ Close p sums ∷ []) ≡ closings taken + 1 = closings_push taken (Close p sums) in omega (arith, pushed)) in
      let line = period_text id p (period_totals all p) in
      lines_push id all taken (Close p sums)
      ∙ (ap (λ (l : List ℕ). period_lines id all taken ++ l) (append-nil line)
      ∙ (ap (λ (l : List ℕ). l ++ line) are
      ∙ (ap (λ (k : ℕ). periods_text id all (closings taken) ++ period_text id k (period_totals all k)) number
      ∙ ap (periods_text id all) more)))

pub closed_lines : (id : List ℕ) (taken : List Item) → all_fit [] taken ≡ true → period_lines id taken taken ≡ periods_text id taken (closings taken)
closed_lines id taken fit = along (AreLines id taken) (lines_step id taken) [] taken refl fit

-- a line for one period more
pub period_more : (id : List ℕ) (taken : List Item) (q : ℕ) (sums : Totals) (start before after : List ℕ) → before ≡ start ++ periods_text id taken q → after ≡ before ++ period_text id (q + 1) sums → sums ≡ period_totals taken (q + 1)
    → after ≡ start ++ periods_text id taken (q + 1)
period_more id taken q sums start before after before_is after_is sums_are =
    let number : q + 1 ≡ suc q = omega arith in
    let line : periods_text id taken q ++ period_text id (q + 1) sums ≡ periods_text id taken (q + 1) =
    ap (λ (t : Totals). periods_text id taken q ++ period_text id (q + 1) t) sums_are
    ∙ (ap (λ (k : ℕ). periods_text id taken q ++ period_text id k (period_totals taken k)) number ∙ ap (periods_text id taken) (sym number)) in
    after_is ∙ (ap (λ (l : List ℕ). l ++ period_text id (q + 1) sums) before_is ∙ (append_assoc start (periods_text id taken q) (period_text id (q + 1) sums) ∙ ap (λ (l : List ℕ). start ++ l) line))

pub periods_done : (id : List ℕ) (taken : List Item) (q : ℕ) (start text : List ℕ) → all_fit [] taken ≡ true → q ≤ count_by is_any_close taken → count_by is_any_close taken ≤ q → text ≡ start ++ periods_text id taken q
    → text ≡ start ++ period_lines id taken taken
periods_done id taken q start text fit low high is =
    let same : q ≡ closings taken = omega (arith, low, high) in
    is ∙ ap (λ (l : List ℕ). start ++ l) (ap (periods_text id taken) same ∙ sym (closed_lines id taken fit))

-- each log of a host fits
pub logs_fit_in : (entries : List HostEntry) (place : ℕ) → LegalHost entries → all_fit [] (log entries place) ≡ true
logs_fit_in [] place legal = absurd (false≢true legal)
logs_fit_in (entry ∷ entries) place legal = logs_fit (entry ∷ entries) legal place

-- the whole part of a log
pub log_said : (id before after : List ℕ) (entries later : List HostEntry) (place count sum : ℕ) → later ≡ entries → count ≡ length (captured (log entries place)) → sum ≡ amounts (captured (log entries place))
    → after ≡ before ++ (host_line id (length (log later place)) count sum ++ period_lines id (log later place) (log later place)) → after ≡ before ++ log_text id (log entries place)
log_said id before after entries later place count sum same count_is sum_is is =
    is
    ∙ (ap (λ (es : List HostEntry). before ++ (host_line id (length (log es place)) count sum ++ period_lines id (log es place) (log es place))) same
    ∙ (ap (λ (n : ℕ). before ++ (host_line id (length (log entries place)) n sum ++ period_lines id (log entries place) (log entries place))) count_is
    ∙ ap (λ (n : ℕ). before ++ (host_line id (length (log entries place)) (length (captured (log entries place))) n ++ period_lines id (log entries place) (log entries place))) sum_is))
