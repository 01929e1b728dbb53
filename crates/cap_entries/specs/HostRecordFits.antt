-- What is allowed in a host's journal fits its record.
use Rattle.std.proofs.Common.{◌≡◌, ℕ, ◌+◌, ◌≤◌, Bool, true, List, [], ◌∷◌, ◌++◌, length, refl, sym, ◌∙◌, ap, subst, ⊎_elim, arith, le-leb, leb-true, eqb-true}
use Rattle.std.specs.Prelude.{◌&&◌, ◌==◌, not, nat_le, nat_lt, count_by, filter}
use Rattle.std.specs.List.{list_any}
use Rattle.std.proofs.lemmas.Bool.{and_parts, and_from, or_cases, or_left, or_right, cases_Bool, cond-true, cond-false, false≢true}
use Rattle.cap_base.specs.Item.{is_end, is_cancel, is_any_close, is_sale_where, is_sale_of}
use Rattle.cap_base.specs.Captured.{captured}
use Rattle.cap_base.specs.Fits.{is_number as is_sale_number, fits, all_fit}
use Rattle.cap_base.specs.declared.item.Item.{Item}
use Rattle.cap_base.specs.declared.item.Item.TheVariants.{Sale, Void, Cancel, Close}
use Rattle.cap_entries.specs.declared.host.HostEntry.{HostEntry}
use Rattle.cap_entries.specs.declared.host.HostEntry.TheVariants.{Setup, Took, Published}
use Rattle.cap_entries.specs.Log.{log, published, setup_of}
use Rattle.cap_entries.specs.HostAllowed.{host_allowed_after, host_allowed, all_host_allowed}
use Rattle.cap_entries.specs.HostAllowedLaws.{host_allowed_is}
use Rattle.cap_entries.specs.LogsFit.{logs_fit}
use Rattle.cap_entries.specs.RecordParts.{is_byte}
use Rattle.cap_entries.specs.RecordField.{is_count}
use Rattle.cap_entries.specs.HostRecord.{is_totals, has_item_types, has_host_types, item_fits, host_fits}

-- a number of a sale has few digits
sale_low : (n : ℕ) → is_sale_number n ≡ true → is_count n ≡ true
sale_low n good = let low : n ≤ 250000 = leb-true n 250000 (and_parts (nat_le 1 n) (nat_le n 250000) good).1 in le-leb n 9999999999 (omega arith)

any_filtered : (test keeps : Item → Bool) (items : List Item) → list_any test (filter keeps items) ≡ true → list_any test items ≡ true
any_filtered test keeps [] any = any
any_filtered test keeps (item ∷ items) any =
    ⊎_elim
    (λ kept. ⊎_elim
    (λ here. or_left (test item) (list_any test items) here)
    (λ later. or_right (test item) (list_any test items) (any_filtered test keeps items later))
    (or_cases (test item) (list_any test (filter keeps items)) (sym (ap (list_any test) (cond-true (keeps item) (item ∷ filter keeps items) (filter keeps items) kept)) ∙ any)))
    (λ dropped. or_right (test item) (list_any test items) (any_filtered test keeps items (sym (ap (list_any test) (cond-false (keeps item) (item ∷ filter keeps items) (filter keeps items) dropped)) ∙ any)))
    (cases_Bool (keeps item))

item_number : (log : List Item) (item : Item) (n a : ℕ) → fits log item ≡ true → is_sale_of n a item ≡ true → is_sale_number n ≡ true
item_number log (Sale k amount account code) n a fit is =
    let parts = and_parts (is_sale_number k) (not (list_any (is_end k) log)) fit in
    subst (λ (m : ℕ). is_sale_number m ≡ true) (eqb-true k n (and_parts (k == n) (amount == a) is).0) parts.0
item_number log (Void k) n a fit is = absurd (false≢true is)
item_number log (Cancel k amount) n a fit is = absurd (false≢true is)
item_number log (Close p totals) n a fit is = absurd (false≢true is)

sale_number : (before items : List Item) (n a : ℕ) → all_fit before items ≡ true → list_any (is_sale_of n a) items ≡ true → is_sale_number n ≡ true
sale_number before [] n a fit any = absurd (false≢true any)
sale_number before (item ∷ items) n a fit any =
    let parts = and_parts (fits before item) (all_fit (before ++ item ∷ []) items) fit in
    ⊎_elim (λ here. item_number before item n a parts.0 here) (λ later. sale_number (before ++ item ∷ []) items n a parts.1 later) (or_cases (is_sale_of n a item) (list_any (is_sale_of n a) items) any)

item_low : (log : List Item) (item : Item) → all_fit [] log ≡ true → fits log item ≡ true → has_item_types item ≡ true → item_fits item ≡ true
item_low log (Sale n amount account code) legal fit types =
    let parts = and_parts (is_sale_number n) (not (list_any (is_end n) log)) fit in
    and_from _ _ (sale_low n parts.0) types
item_low log (Void n) legal fit types = sale_low n (and_parts (is_sale_number n) (not (list_any (is_end n) log)) fit).0
item_low log (Cancel n amount) legal fit types =
    and_from _ _ (sale_low n (sale_number [] log n amount legal (any_filtered (is_sale_of n amount) (is_sale_where (λ k. not (list_any (is_cancel k) log))) log fit))) types
item_low log (Close p totals) legal fit types =
    let low : p ≤ 250000 = leb-true p 250000 (and_parts (p == count_by is_any_close log + 1) (nat_le p 250000) fit).1 in
    and_from _ _ (le-leb p 9999999999 (omega arith)) types

-- what is allowed after a legal list fits its record, where its fields are values of their types
pub allowed_host_fits : (before : List HostEntry) (entry : HostEntry) → all_host_allowed [] before ≡ true → host_allowed before entry ≡ true → has_host_types entry ≡ true → host_fits entry ≡ true
allowed_host_fits before (Setup settings) legal ok types = types
allowed_host_fits before (Took terminal item) legal ok types =
    let a = and_parts (nat_lt terminal (length (setup_of before).terminals)) (fits (log before terminal) item) (host_allowed_is before (Took terminal item) refl ok) in
    let t = and_parts (is_byte terminal) (has_item_types item) types in
    and_from _ _ t.0 (item_low (log before terminal) item (logs_fit before legal terminal) a.1 t.1)
allowed_host_fits before (Published version rows) legal ok types =
    let a = and_parts (version == length (published before) + 1) (nat_le version 10000) (host_allowed_is before (Published version rows) refl ok) in
    let low : version ≤ 10000 = leb-true version 10000 a.1 in
    and_from _ _ (le-leb version 9999999999 (omega arith)) types
