-- What a terminal reports is accepted.
use Rattle.std.proofs.Common.{◌≡◌, ℕ, ◌+◌, ◌<◌, true, List, [], ◌∷◌, ◌++◌, length, take, drop, Some, sym, ◌∙◌, ap, subst, take-append-drop, arith, None, refl, ⊎_elim, ◌-◌, length-append, drop_at, eq-eqb, ne_eqb, leb-true, leb-false, eqb-true, ltb-true}
use Rattle.std.specs.Prelude.{slice_get, nat_le, ◌==◌}
use Rattle.std.proofs.lemmas.Bool.{cond_both, cond-true, cond-false, and_parts, and_from, false≢true, or_cases}
use Rattle.std.proofs.lemmas.List.{drop-append-le}
use Rattle.cap_base.specs.declared.item.Totals.{Totals}
use Rattle.cap_base.specs.declared.item.Item.{Item}
use Rattle.cap_base.specs.declared.item.Item.TheVariants.{Sale, Void, Cancel, Close}
use Rattle.cap_base.specs.declared.codes.Response.TheVariants.{Appr, Decl, Part}
use Rattle.cap_base.specs.Item.{totals_eq, item_eq}
use Rattle.cap_base.specs.Captured.{period_totals}
use Rattle.cap_base.specs.Fits.{fits, all_fit}
use Rattle.cap_batch_msgs.specs.declared.body.BatchBody.TheVariants.{ReconcileAnswer, BatchAnswer}
use Rattle.cap_msgs.specs.declared.message.Body.TheVariants.{Batch as Of_batch}
use Rattle.cap_msgs.specs.Report.{Report, Asks_sale, Asks_cancel, Asks_state, Asks_data, Advice, Many, From_host, Unanswered}
use Rattle.cap_entries.specs.declared.host.HostEntry.{HostEntry}
use Rattle.cap_entries.specs.Log.{log}
use Rattle.cap_entries.specs.Fronts.{IsPrefixOf}
use Rattle.cap_entries.specs.FitsLaws.{all_fit_front, all_fit_back}
use Rattle.cap_host_answers.specs.Answer.{Answered, approved_if, answer_of_item, item_at, same_item, is_unexpected, answer_advice, agree_so_far, fitting, taken_items, standing, answer_batch, answer_report}
use Rattle.cap_world.proofs.Named.{names_same}
use Rattle.cap_world.proofs.Sound.{StandsAt, ReportOk}
use Rattle.cap_world.proofs.HostSound.{after_front, same_fronts}
use Rattle.cap_plain.specs.LegalLaws.{TotalsFrom, totals_back, totals_prefix, totals_one, period_totals_stop}
use Rattle.cap_world.specs.Accepted.{approval_of, Accepts}

-- equal things pass their tests
totals_same : (a : Totals) → totals_eq a a ≡ true
totals_same a = and_from _ _ (and_from _ _ (and_from _ _ (eq-eqb a.sales a.sales refl) (eq-eqb a.sales_sum a.sales_sum refl)) (eq-eqb a.cancels a.cancels refl)) (eq-eqb a.cancels_sum a.cancels_sum refl)

item_same : (item : Item) → item_eq item item ≡ true
item_same (Sale n amount account code) = and_from _ _ (and_from _ _ (and_from _ _ (eq-eqb n n refl) (eq-eqb amount amount refl)) (names_same account)) (names_same code)
item_same (Void n) = eq-eqb n n refl
item_same (Cancel n amount) = and_from _ _ (eq-eqb n n refl) (eq-eqb amount amount refl)
item_same (Close p sums) = and_from _ _ (eq-eqb p p refl) (totals_same sums)

fitting_all : (before items : List Item) → all_fit before items ≡ true → fitting before items ≡ items
fitting_all before [] p = refl
fitting_all before (item ∷ items) p =
    let parts = and_parts (fits before item) (all_fit (before ++ item ∷ []) items) p in
    cond-true (fits before item) _ _ parts.0 ∙ ap (λ l. item ∷ l) (fitting_all (before ++ item ∷ []) items parts.1)

-- a front that goes past a place has the item of that place
split_prefix : (front own : List Item) (item : Item) (rest r : List Item) → own ++ r ≡ front ++ (item ∷ rest) → length front < length own → (rest' : List Item) × (own ≡ front ++ (item ∷ rest'))
split_prefix [] [] item rest r e h = absurd (omega arith)
split_prefix (f ∷ front) [] item rest r e h = absurd (omega arith)
split_prefix [] (x ∷ own) item rest r e h = let same : x ≡ item = cc in (own, ap (λ i. i ∷ own) same)
split_prefix (f ∷ front) (x ∷ own) item rest r e h =
    let same : x ≡ f = cc in
    let tails : own ++ r ≡ front ++ (item ∷ rest) = cc in
    let (rest', is) = split_prefix front own item rest r tails (omega arith) in
    (rest', ap (λ l. x ∷ l) is ∙ ap (λ i. i ∷ (front ++ (item ∷ rest'))) same)

item_there : (front rest : List Item) (item : Item) → slice_get (front ++ (item ∷ rest)) (length front) ≡ Some item
item_there [] rest item = refl
item_there (f ∷ front) rest item = item_there front rest item

-- the answer of an item that stands in the log with its totals
item_accepted : (own front rest : List Item) (item : Item) → own ≡ front ++ (item ∷ rest) → TotalsFrom front (item ∷ rest) → Some (answer_of_item own item) ≡ Some (approval_of item)
item_accepted own front rest (Sale k amount account code) is t = refl
item_accepted own front rest (Void k) is t = refl
item_accepted own front rest (Cancel k amount) is t = refl
item_accepted own front rest (Close p sums) is t =
    let same : period_totals own p ≡ sums = ap (λ l. period_totals l p) is ∙ (period_totals_stop p sums front rest ∙ sym t.0) in
    ap (λ s. Some (Of_batch (ReconcileAnswer (approved_if (totals_eq s sums) Decl) p s))) same
    ∙ ap (λ b. Some (Of_batch (ReconcileAnswer (approved_if b Decl) p sums))) (totals_same sums)

-- what is answered to an item under its number
advice_accepted : (place : ℕ) (all own : List Item) (m : ℕ) (item : Item) → IsPrefixOf own all → StandsAt all (length own) m (item ∷ []) → all_fit [] all ≡ true → TotalsFrom [] all → (answer_advice place own m item).reply ≡ Some (approval_of item)
advice_accepted place all own m item p s fit sums =
    let P : Answered → Type 0 = λ a. a.reply ≡ Some (approval_of item) in
    let Q : List Item → Type 0 = λ l. all_fit [] l ≡ true in
    let T : List Item → Type 0 = λ l. TotalsFrom [] l in
    let fit' = subst Q s.split fit in
    let sums' = totals_back [] s.front ((item ∷ []) ++ s.rest) (subst T s.split sums) in
    cond_both (is_unexpected own m) _ _ P
    (λ bad. ⊎_elim (λ h. absurd (omega (arith, eqb-true m 0 h, s.number))) (λ h. absurd (omega (arith, ltb-true (length own + 1) m h, s.within))) (or_cases _ _ bad))
    (λ _. cond_both (nat_le m (length own)) _ _ P
    (λ le.
    let lt : length s.front < length own = omega (arith, leb-true m (length own) le, s.number) in
    let (rest', is) = split_prefix s.front own item s.rest p.0 (p.1 ∙ s.split) lt in
    let there : item_at own m ≡ Some item =
    cond-false (m == 0) None (slice_get own (m - 1)) (ne_eqb m 0 (λ (e : m ≡ 0). absurd (omega (arith, s.number))))
    ∙ (ap (λ k. slice_get own k) (let e : m - 1 ≡ length s.front = omega (arith, s.number) in e)
    ∙ (ap (λ l. slice_get l (length s.front)) is ∙ item_there s.front rest' item)) in
    let same : same_item (item_at own m) item ≡ true = ap (λ o. same_item o item) there ∙ item_same item in
    let sums'' = totals_back [] s.front (item ∷ rest') (subst T is (totals_prefix own p.0 (subst T (sym p.1) sums))) in
    cond_both (same_item (item_at own m) item) _ _ P
    (λ _. item_accepted own s.front rest' item is sums'')
    (λ no'. absurd (false≢true (sym no' ∙ same))))
    (λ above.
    let len : length own ≡ length s.front = omega (arith, leb-false m (length own) above, s.number, s.within) in
    let is : own ≡ s.front = same_fronts own s.front p.0 (item ∷ s.rest) (p.1 ∙ s.split) len in
    let f : fits own item ≡ true =
    subst (λ l. fits l item ≡ true) (sym is) (and_parts (fits s.front item) (all_fit (s.front ++ item ∷ []) s.rest) (all_fit_back [] s.front ((item ∷ []) ++ s.rest) fit')).0 in
    cond_both (fits own item) _ _ P
    (λ _. item_accepted (own ++ item ∷ []) s.front [] item (ap (λ l. l ++ item ∷ []) is) (totals_one s.front item s.rest sums'))
    (λ no'. absurd (false≢true (sym no' ∙ f)))))

-- a log that is a front agrees with the batch as far as both go
agrees_front : (own items rest r : List Item) → own ++ r ≡ items ++ rest → agree_so_far own items ≡ true
agrees_front [] items rest r e = refl
agrees_front (x ∷ own) [] rest r e = refl
agrees_front (x ∷ own) (item ∷ items) rest r e =
    let same : x ≡ item = cc in
    let tails : own ++ r ≡ items ++ rest = cc in
    and_from _ _ (subst (λ i. item_eq x i ≡ true) same (item_same x)) (agrees_front own items rest r tails)

batch_accepted : (place : ℕ) (all own : List Item) (x : ℕ) (items : List Item) → IsPrefixOf own all → StandsAt all (length own) x items → all_fit [] all ≡ true → Accepts x (Many items) (answer_batch place own x items).reply
batch_accepted place all own x items p s fit =
    let P : Answered → Type 0 = λ a. Accepts x (Many items) a.reply in
    let Q : List Item → Type 0 = λ l. all_fit [] l ≡ true in
    let k = (length own + 1) - x in
    let back : all_fit own p.0 ≡ true = all_fit_back [] own p.0 (subst Q (sym p.1) fit) in
    let fresh : all_fit own (drop k items) ≡ true = all_fit_front own (drop k items) _ (subst (λ l. all_fit own l ≡ true) (after_front all own x items p s) back) in
    let taken : taken_items own x items ≡ drop k items = fitting_all own (drop k items) fresh in
    let whole : standing own x items ≡ length items =
    ap (λ l. length (take k items) + length l) taken
    ∙ (sym (length-append (take k items) (drop k items)) ∙ ap length (take-append-drop k items)) in
    let place' : x - 1 ≡ length s.front = omega (arith, s.number) in
    let tail : drop (length s.front) own ++ p.0 ≡ items ++ s.rest =
    sym (drop-append-le (length s.front) own p.0 (omega (arith, s.number, s.within)))
    ∙ (ap (drop (length s.front)) (p.1 ∙ s.split) ∙ drop_at s.front (items ++ s.rest) (length s.front) refl) in
    let agrees : agree_so_far (drop (x - 1) own) items ≡ true = rw place' (agrees_front (drop (length s.front) own) items s.rest p.0 tail) in
    cond_both (is_unexpected own x) _ _ P
    (λ bad. ⊎_elim (λ h. absurd (omega (arith, eqb-true x 0 h, s.number))) (λ h. absurd (omega (arith, ltb-true (length own + 1) x h, s.within))) (or_cases _ _ bad))
    (λ _. cond_both (agree_so_far (drop (x - 1) own) items) _ _ P
    (λ _.
    ap (λ b. Some (Of_batch (BatchAnswer (approved_if b Part) ((x + standing own x items) - 1)))) (eq-eqb _ _ whole)
    ∙ ap (λ n. Some (Of_batch (BatchAnswer Appr ((x + n) - 1)))) whole)
    (λ no'. absurd (false≢true (sym no' ∙ agrees))))

pub answer_accepted : (entries : List HostEntry) (place : ℕ) (all : List Item) (number : ℕ) (report : Report) → IsPrefixOf (log entries place) all → ReportOk all (length (log entries place)) number report → all_fit [] all ≡ true → TotalsFrom [] all → Accepts number report (answer_report entries place number report).reply
answer_accepted entries place all number (Advice item) p s fit sums = advice_accepted place all _ number item p s fit sums
answer_accepted entries place all number (Many items) p s fit sums = batch_accepted place all _ number items p s fit
answer_accepted entries place all number (Asks_sale amount account) p s fit sums = tt
answer_accepted entries place all number (Asks_cancel amount) p s fit sums = tt
answer_accepted entries place all number Asks_state p s fit sums = tt
answer_accepted entries place all number (Asks_data wanted in_force staged parts) p s fit sums = tt
answer_accepted entries place all number From_host p s fit sums = tt
answer_accepted entries place all number Unanswered p s fit sums = tt
