-- What is captured of all the items is what the terminal keeps.
use Rattle.std.proofs.Common.{◌≡◌, ℕ, Bool, true, false, not, ◌||◌, List, [], ◌∷◌, ◌++◌, refl, sym, ◌∙◌, ap, append_assoc, append-nil}
use Rattle.std.specs.Prelude.{filter, ◌==◌}
use Rattle.std.specs.List.{list_any}
use Rattle.std.proofs.Math.Bool.{or-false}
use Rattle.std.proofs.lemmas.List.Elements.{filter-append, filter_agree}
use Rattle.std.proofs.lemmas.List.Folds.{list_any-append}
use Rattle.cap_base.specs.declared.item.Item.{Item}
use Rattle.cap_base.specs.declared.item.Item.TheVariants.{Sale, Void, Cancel, Close}
use Rattle.cap_entries.specs.declared.terminal.TermEntry.{TermEntry}
use Rattle.cap_entries.specs.declared.terminal.TermEntry.TheVariants.{Setup, Begin, Declined, Completed, Voided, Cancelled, Closed, Acked, Part as Part_entry}
use Rattle.cap_base.specs.Item.{is_cancel, is_sale_where}
use Rattle.cap_base.specs.Captured.{captured, period_totals, totals}
use Rattle.cap_entries.specs.Entry.{cancels, is_cancelled, amount_of, account_of}
use Rattle.cap_entries.specs.Items.{items_after, items_from, items}
use Rattle.cap_plain.specs.KeptSales.{sale_of, sales_from, kept_sales}

or_assoc : (a b c : Bool) → ((a || b) || c) ≡ (a || (b || c))
or_assoc true b c = refl
or_assoc false b c = refl

-- the Cancels among the items are the Cancelled entries
cancel_after : (n : ℕ) (before : List TermEntry) (items : List Item) (entry : TermEntry) → list_any (is_cancel n) (items_after before items entry) ≡ (list_any (is_cancel n) items || cancels n entry)
cancel_after n before items (Setup setup) = sym (or-false _)
cancel_after n before items (Begin k amount account) = sym (or-false _)
cancel_after n before items (Declined k) = sym (or-false _)
cancel_after n before items (Completed k code) = list_any-append (is_cancel n) items (Sale k (amount_of before k) (account_of before k) code ∷ [])
cancel_after n before items (Voided k) = list_any-append (is_cancel n) items (Void k ∷ [])
cancel_after n before items (Cancelled k) = list_any-append (is_cancel n) items (Cancel k (amount_of before k) ∷ []) ∙ ap (λ b. list_any (is_cancel n) items || b) (or-false (k == n))
cancel_after n before items (Closed p) = list_any-append (is_cancel n) items (Close p (period_totals items p) ∷ [])
cancel_after n before items (Acked k) = sym (or-false _)
cancel_after n before items (Part_entry part) = sym (or-false _)

cancels_from : (n : ℕ) (before : List TermEntry) (items : List Item) (entries : List TermEntry) → list_any (is_cancel n) (items_from before items entries) ≡ (list_any (is_cancel n) items || list_any (cancels n) entries)
cancels_from n before items [] = sym (or-false _)
cancels_from n before items (entry ∷ entries) =
    cancels_from n (before ++ entry ∷ []) (items_after before items entry) entries
    ∙ (ap (λ b. b || list_any (cancels n) entries) (cancel_after n before items entry)
    ∙ or_assoc (list_any (is_cancel n) items) (cancels n entry) (list_any (cancels n) entries))

module _ (test : ℕ → Bool) where
  -- the Sales among the items are those of the Completed entries
  sales_after : (before : List TermEntry) (items : List Item) (entry : TermEntry) → filter (is_sale_where test) (items_after before items entry) ≡ filter (is_sale_where test) items ++ filter (is_sale_where test) (sale_of before entry)
  sales_after before items (Setup setup) = sym (append-nil _)
  sales_after before items (Begin k amount account) = sym (append-nil _)
  sales_after before items (Declined k) = sym (append-nil _)
  sales_after before items (Completed k code) = filter-append (is_sale_where test) items (Sale k (amount_of before k) (account_of before k) code ∷ [])
  sales_after before items (Voided k) = filter-append (is_sale_where test) items (Void k ∷ [])
  sales_after before items (Cancelled k) = filter-append (is_sale_where test) items (Cancel k (amount_of before k) ∷ [])
  sales_after before items (Closed p) = filter-append (is_sale_where test) items (Close p (period_totals items p) ∷ [])
  sales_after before items (Acked k) = sym (append-nil _)
  sales_after before items (Part_entry part) = sym (append-nil _)

  sales_are : (before : List TermEntry) (items : List Item) (entries : List TermEntry) → filter (is_sale_where test) (items_from before items entries) ≡ filter (is_sale_where test) items ++ filter (is_sale_where test) (sales_from before entries)
  sales_are before items [] = sym (append-nil _)
  sales_are before items (entry ∷ entries) =
      sales_are (before ++ entry ∷ []) (items_after before items entry) entries
      ∙ (ap (λ l. l ++ filter (is_sale_where test) (sales_from (before ++ entry ∷ []) entries)) (sales_after before items entry)
      ∙ (append_assoc (filter (is_sale_where test) items) _ _
      ∙ ap (λ l. filter (is_sale_where test) items ++ l) (sym (filter-append (is_sale_where test) (sale_of before entry) (sales_from (before ++ entry ∷ []) entries)))))

same_where : (f g : ℕ → Bool) → ((n : ℕ) → f n ≡ g n) → (item : Item) → is_sale_where f item ≡ is_sale_where g item
same_where f g e (Sale k amount account code) = e k
same_where f g e (Void k) = refl
same_where f g e (Cancel k amount) = refl
same_where f g e (Close p totals) = refl

-- what is captured of all the items are the sales that the terminal keeps
pub captured_items : (entries : List TermEntry) → captured (items entries) ≡ kept_sales entries
captured_items entries =
    filter_agree _ (is_sale_where (λ n. not (is_cancelled entries n)))
    (same_where _ (λ n. not (is_cancelled entries n)) (λ n. ap not (cancels_from n [] [] entries))) (items entries)
    ∙ sales_are (λ n. not (is_cancelled entries n)) [] [] entries
