-- Each captured sale makes a line.
use Rattle.std.proofs.Common.{◌≡◌, ℕ, ◌≤◌, ◌<◌, Bool, true, false, not, List, length, Option, Some, None, sym, ◌∙◌, ap, subst, ⊎_elim, get_or, arith, ltb-true}
use Rattle.std.specs.Prelude.{◌↔◌, ◌⊎◌, Result, Ok, Err, IfOk, nat_lt, slice_get}
use Rattle.cap_answering.specs.declared.fault.HostFault.{HostFault}
use Rattle.cap_host.specs.declared.capture.Captured.{Captured}
use Rattle.std.specs.List.{list_any}
use Rattle.std.proofs.lemmas.Bool.{false≢true, cases_Bool}
use Rattle.std.proofs.lemmas.Bool.Decides.{nat_tests}
use Rattle.std.proofs.lemmas.Option.{none-some, slice_get_within, slice_get_past, slice_get-get_or, get_or_from_slice_get}
use Rattle.std.proofs.lemmas.List.Elements.{filter_passes}
use Rattle.cap_base.specs.declared.item.Item.{Item}
use Rattle.cap_base.specs.declared.item.Item.TheVariants.{Sale, Void, Cancel, Close}
use Rattle.cap_base.specs.Item.{is_cancel, is_sale_where}
use Rattle.cap_base.specs.Captured.{captured}
use Rattle.cap_host.specs.Capture.{line_of}

sale_has_line : (test : ℕ → Bool) (item : Item) → is_sale_where test item ≡ true → line_of (Some item) ≡ None → ⊥
sale_has_line test (Sale n amount account code) is none = none-some _ (sym none)
sale_has_line test (Void n) is none = false≢true is
sale_has_line test (Cancel n amount) is none = false≢true is
sale_has_line test (Close p totals) is none = false≢true is

line_within : (log : List Item) (k : ℕ) (item : Item) → slice_get (captured log) k ≡ Some item → line_of (slice_get (captured log) k) ≡ None → ⊥
line_within log k item at none =
    let test : ℕ → Bool = λ n. not (list_any (is_cancel n) log) in
    let passes = filter_passes (is_sale_where test) log k item (slice_get_within (captured log) k item at) in
    sale_has_line test item (ap (is_sale_where test) (sym (get_or_from_slice_get (captured log) k item item at)) ∙ passes) (ap line_of (sym at) ∙ none)

pub line_none : (log : List Item) (k : ℕ) → (line_of (slice_get (captured log) k) ≡ None) ↔ (length (captured log) ≤ k)
line_none log k =
    ((λ none. past none (cases_Bool (nat_lt k (length (captured log))))), (λ le. ap line_of (slice_get_past (captured log) k le)))
  where
    first : Item
    first = Void 0

    past : line_of (slice_get (captured log) k) ≡ None → ((nat_lt k (length (captured log)) ≡ true) ⊎ (nat_lt k (length (captured log)) ≡ false)) → length (captured log) ≤ k
    past none split =
        ⊎_elim
        (λ within. absurd (line_within log k (get_or (captured log) k first) (slice_get-get_or (captured log) k first (ltb-true k (length (captured log)) within)) none))
        (λ beyond. grind (arith, nat_tests))
        split

pub told_past : (log : List Item) (k : ℕ) (result : Result (Option Captured) HostFault) → IfOk result (λ line. line ≡ line_of (slice_get (captured log) k)) → IfOk result (λ line. (line ≡ None) ↔ (length (captured log) ≤ k))
told_past log k (Ok line) is = subst (λ (o : Option Captured). (o ≡ None) ↔ (length (captured log) ≤ k)) (sym is) (line_none log k)
told_past log k (Err fault) is = tt
