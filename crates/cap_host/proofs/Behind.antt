-- What is captured in a log with further items behind it.
use Rattle.std.proofs.Common.{◌≡◌, ℕ, Bool, true, false, not, ◌&&◌, ◌||◌, List, [], ◌++◌, refl, sym, ◌∙◌, ap}
use Rattle.std.specs.List.{list_any}
use Rattle.std.proofs.Math.Bool.{or-false}
use Rattle.std.proofs.lemmas.Bool.{or_right, or_parts}
use Rattle.std.proofs.lemmas.List.Folds.{list_any-append}
use Rattle.cap_base.specs.declared.item.Item.{Item}
use Rattle.cap_base.specs.Item.{is_end, is_cancel, is_sale_of}
use Rattle.cap_base.specs.Captured.{captured}
use Rattle.cap_base.specs.Fits.{all_fit}
use Rattle.cap_entries.specs.FitsLaws.{all_fit-append}
use Rattle.cap_entries.specs.LogSummaryLaws.{captured_sale}
use Rattle.cap_host_index.specs.CapturedLaws.{sold_ends, not_cancelled, ended_new}

captured_if : (n a : ℕ) (log : List Item) → list_any (is_sale_of n a) (captured log) ≡ (list_any (is_sale_of n a) log && not (list_any (is_cancel n) log))
captured_if n a log = captured_sale (λ k. not (list_any (is_cancel k) log)) n a log

and_no : (b : Bool) → (b && false) ≡ false
and_no true = refl
and_no false = refl

pub behind_cancelled : (n a : ℕ) (log items : List Item) → list_any (is_cancel n) items ≡ true → list_any (is_sale_of n a) (captured (log ++ items)) ≡ false
behind_cancelled n a log items gone =
    captured_if n a (log ++ items)
    ∙ (ap (λ b. list_any (is_sale_of n a) (log ++ items) && not b) (list_any-append (is_cancel n) log items ∙ or_right _ _ gone)
    ∙ and_no (list_any (is_sale_of n a) (log ++ items)))

pub behind_sold : (n a : ℕ) (log items : List Item) → all_fit [] log ≡ true → all_fit log items ≡ true → list_any (is_cancel n) items ≡ false → list_any (is_sale_of n a) items ≡ true → list_any (is_sale_of n a) (captured (log ++ items)) ≡ true
behind_sold n a log items fit behind kept sold =
    let fresh = not_cancelled log n fit (ended_new log items n behind (sold_ends n a items sold)) in
    captured_if n a (log ++ items)
    ∙ (ap (λ b. b && not (list_any (is_cancel n) (log ++ items))) (list_any-append (is_sale_of n a) log items ∙ or_right _ _ sold)
    ∙ ap not (list_any-append (is_cancel n) log items ∙ (ap (λ b. b || list_any (is_cancel n) items) fresh ∙ kept)))

pub behind_other : (n a : ℕ) (log items : List Item) → list_any (is_cancel n) items ≡ false → list_any (is_sale_of n a) items ≡ false → list_any (is_sale_of n a) (captured (log ++ items)) ≡ list_any (is_sale_of n a) (captured log)
behind_other n a log items kept unsold =
    captured_if n a (log ++ items)
    ∙ (ap (λ b. b && not (list_any (is_cancel n) (log ++ items))) (list_any-append (is_sale_of n a) log items ∙ (ap (λ b. list_any (is_sale_of n a) log || b) unsold ∙ or-false _))
    ∙ (ap (λ b. list_any (is_sale_of n a) log && not b) (list_any-append (is_cancel n) log items ∙ (ap (λ b. list_any (is_cancel n) log || b) kept ∙ or-false _))
    ∙ sym (captured_if n a log)))
