-- The totals of a period that is closed are those of the period that was open.
use Rattle.std.proofs.Common.{◌≡◌, ℕ, ◌+◌, ◌-◌, Bool, true, cond, List, [], ◌∷◌, ◌++◌, refl, sym, ◌∙◌, ap, eq-eqb, eqb-true}
use Rattle.std.specs.Prelude.{◌==◌, ◌&&◌, nat_le, count_by}
use Rattle.std.proofs.lemmas.Bool.{cond-true, and_parts}
use Rattle.cap_base.specs.declared.item.Totals.{Totals}
use Rattle.cap_base.specs.declared.item.Item.{Item}
use Rattle.cap_base.specs.declared.item.Item.TheVariants.{Close}
use Rattle.cap_base.specs.Item.{is_close, is_any_close}
use Rattle.cap_base.specs.Captured.{sums_of, before_close, after_close, period_totals}
use Rattle.cap_base.specs.Fits.{fits}

before_closing : (p : ℕ) (sums : Totals) (log : List Item) → before_close p (log ++ Close p sums ∷ []) ≡ before_close p log
before_closing p sums [] = cond-true (p == p) _ _ (eq-eqb p p refl)
before_closing p sums (item ∷ log) = ap (λ (l : List Item). cond (is_close p item) [] (item ∷ l)) (before_closing p sums log)

pub closing_totals : (p : ℕ) (sums : Totals) (log : List Item) → fits log (Close p sums) ≡ true → period_totals log (count_by is_any_close log + 1) ≡ period_totals (log ++ Close p sums ∷ []) p
closing_totals p sums log fit =
    let next : p ≡ count_by is_any_close log + 1 = eqb-true p (count_by is_any_close log + 1) (and_parts (p == count_by is_any_close log + 1) (nat_le p 250000) fit).0 in
    ap (λ (n : ℕ). period_totals log n) (sym next)
    ∙ sym (ap (λ (l : List Item). sums_of (cond (p == 1) l (after_close (p - 1) l))) (before_closing p sums log))
