-- Parts of the answer to a batch.
use Rattle.std.proofs.Common.{◌≡◌, ℕ, zero, suc, ◌+◌, ◌-◌, ◌<◌, ◌≤◌, Bool, true, false, cond, ◌&&◌, List, [], ◌∷◌, ◌++◌, length, take, drop, min, refl, sym, ◌∙◌, ap, append_assoc, append-nil, arith, get_or}
use Rattle.std.specs.Prelude.{slice_get, Option, Some, None, ◌==◌, ◌||◌, nat_lt}
use Rattle.std.proofs.lemmas.List.{drop_more, take_min, length-drop, at_drop_all}
use Rattle.std.proofs.lemmas.Option.{slice_get-get_or}
use Rattle.std.proofs.lemmas.Bool.Decides.{nat_tests}
use Rattle.cap_base.specs.declared.codes.Reason.TheVariants.{Dpmg}
use Rattle.std.proofs.lemmas.Bool.{cond-true, cond-false, cases_Bool, and_from}
use Rattle.cap_base.specs.declared.item.Item.{Item}
use Rattle.cap_base.specs.Item.{item_eq}
use Rattle.cap_base.specs.Fits.{fits, all_fit}
use Rattle.cap_entries.specs.FitsLaws.{all_fit-append}
use Rattle.cap_host_answers.specs.Answer.{Answered, fitting, agree_so_far, item_at, same_item, is_unexpected, answer_batch, rejected}
use Rattle.cap_host_answers.specs.Plain.{is_closed_there, batch_taken}
use Rattle.cap_host_answers.specs.Standing.{same_is_there}

-- two lists that are compared as far as both go: no further than the shorter
pub agree_front : (others items : List Item) → agree_so_far others (take (length others) items) ≡ agree_so_far others items
agree_front [] items = refl
agree_front (other ∷ others) [] = refl
agree_front (other ∷ others) (item ∷ items) = ap (λ b. item_eq other item && b) (agree_front others items)

-- the item at a place, counted from 1
item_next : (log : List Item) (m : ℕ) → item_at log (m + 1) ≡ slice_get log m
item_next log m =
    let more : (m + 1 == 0) ≡ false = grind (arith, nat_tests) in
    cond-false (m + 1 == 0) None (slice_get log (m + 1 - 1)) more ∙ ap (slice_get log) (omega arith)

pub same_there : (log : List Item) (m : ℕ) (item : Item) → same_item (slice_get log m) item ≡ true → is_closed_there log item ≡ true
same_there log m item e = same_is_there log (m + 1) item (ap (λ (o : Option Item). same_item o item) (item_next log m) ∙ e)

-- one item more that is compared
pub agree_step : (own items : List Item) (from i : ℕ) (x : Item) → from + length items ≤ length own → i < length items → x ≡ get_or items i x
    → agree_so_far (drop (from + i) own) (drop i items) ≡ (same_item (slice_get own (from + i)) x && agree_so_far (drop (from + (i + 1)) own) (drop (i + 1) items))
agree_step own items from i x there within is =
    let inside : from + i < length own = omega (arith, there, within) in
    let first : drop (from + i) own ≡ get_or own (from + i) x ∷ drop (from + (i + 1)) own = drop_more own (from + i) x inside ∙ ap (λ (k : ℕ). get_or own (from + i) x ∷ drop k own) (omega arith) in
    let second : drop i items ≡ x ∷ drop (i + 1) items = drop_more items i x within ∙ ap (λ (y : Item). y ∷ drop (i + 1) items) (sym is) in
    ap (λ (l : List Item). agree_so_far l (drop i items)) first
    ∙ (ap (λ (l : List Item). agree_so_far (get_or own (from + i) x ∷ drop (from + (i + 1)) own) l) second
    ∙ ap (λ (o : Option Item). same_item o x && agree_so_far (drop (from + (i + 1)) own) (drop (i + 1) items)) (sym (slice_get-get_or own (from + i) x inside)))

agree_none : (others : List Item) → agree_so_far others [] ≡ true
agree_none [] = refl
agree_none (other ∷ others) = refl

pub agree_end : (others items : List Item) (i : ℕ) → length items ≤ i → agree_so_far others (drop i items) ≡ true
agree_end others items i past = at_drop_all (agree_so_far others) items i past ∙ agree_none others

-- the items of a batch with numbers of the log are compared, and no more
pub agree_known : (own items : List Item) (x old : ℕ) → 1 ≤ x → x ≤ length own + 1 → old ≡ min ((length own + 1) - x) (length items) → agree_so_far (drop (x - 1) own) (take old items) ≡ agree_so_far (drop (x - 1) own) items
agree_known own items x old some near is =
    let many : (length own + 1) - x ≡ length (drop (x - 1) own) = omega (arith, some, near, length-drop (x - 1) own) in
    let front : take old items ≡ take (length (drop (x - 1) own)) items = ap (λ (n : ℕ). take n items) is ∙ (take_min ((length own + 1) - x) items ∙ ap (λ (n : ℕ). take n items) many) in
    ap (agree_so_far (drop (x - 1) own)) front ∙ agree_front (drop (x - 1) own) items

expected : (own : List Item) (x : ℕ) → 1 ≤ x → x ≤ length own + 1 → is_unexpected own x ≡ false
expected own x some near = grind (arith, nat_tests)

pub batch_told : (place x : ℕ) (own items : List Item) → 1 ≤ x → x ≤ length own + 1 → agree_so_far (drop (x - 1) own) items ≡ true → batch_taken place own x items ≡ answer_batch place own x items
batch_told place x own items some near agree =
    sym (cond-false (is_unexpected own x) _ _ (expected own x some near) ∙ cond-true (agree_so_far (drop (x - 1) own) items) _ _ agree)

pub batch_differs : (place x : ℕ) (own items : List Item) → 1 ≤ x → x ≤ length own + 1 → agree_so_far (drop (x - 1) own) items ≡ false → rejected Dpmg ≡ answer_batch place own x items
batch_differs place x own items some near differs =
    sym (cond-false (is_unexpected own x) _ _ (expected own x some near) ∙ cond-false (agree_so_far (drop (x - 1) own) items) _ _ differs)

-- one item more that fits
pub fitting_more : (own taken items : List Item) (i : ℕ) (x : Item) → i < length items → x ≡ get_or items i x → fits (own ++ taken) x ≡ true
    → (taken ++ x ∷ []) ++ fitting (own ++ (taken ++ x ∷ [])) (drop (i + 1) items) ≡ taken ++ fitting (own ++ taken) (drop i items)
fitting_more own taken items i x within is ok =
    let rest = drop (i + 1) items in
    let here : drop i items ≡ x ∷ rest = drop_more items i x within ∙ ap (λ (y : Item). y ∷ rest) (sym is) in
    append_assoc taken (x ∷ []) (fitting (own ++ (taken ++ x ∷ [])) rest)
    ∙ (ap (λ (l : List Item). taken ++ x ∷ fitting l rest) (sym (append_assoc own taken (x ∷ [])))
    ∙ (ap (λ (l : List Item). taken ++ l) (sym (cond-true (fits (own ++ taken) x) (x ∷ fitting ((own ++ taken) ++ x ∷ []) rest) [] ok)) ∙ ap (λ (l : List Item). taken ++ fitting (own ++ taken) l) (sym here)))

-- the first that doesn't
pub fitting_stops : (own taken items : List Item) (i : ℕ) (x : Item) → i < length items → x ≡ get_or items i x → fits (own ++ taken) x ≡ false → taken ≡ taken ++ fitting (own ++ taken) (drop i items)
fitting_stops own taken items i x within is refused =
    let rest = drop (i + 1) items in
    let here : drop i items ≡ x ∷ rest = drop_more items i x within ∙ ap (λ (y : Item). y ∷ rest) (sym is) in
    sym (ap (λ (l : List Item). taken ++ fitting (own ++ taken) l) here ∙ (ap (λ (l : List Item). taken ++ l) (cond-false (fits (own ++ taken) x) (x ∷ fitting ((own ++ taken) ++ x ∷ []) rest) [] refused) ∙ append-nil taken))

pub fit_more : (own taken : List Item) (x : Item) → all_fit own taken ≡ true → fits (own ++ taken) x ≡ true → all_fit own (taken ++ x ∷ []) ≡ true
fit_more own taken x fit ok = all_fit-append own taken (x ∷ []) fit (and_from _ _ ok refl)
