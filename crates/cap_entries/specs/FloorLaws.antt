-- The floor of rows that come in parts.
use Rattle.std.proofs.Common.{◌≡◌, cond, ◌||◌, List, [], ◌∷◌, ◌++◌, refl, sym, ◌∙◌, ap, ⊎_elim}
use Rattle.std.specs.List.{list_any}
use Rattle.std.proofs.lemmas.Bool.{cond-true, cond-false, cases_Bool}
use Rattle.cap_base.specs.declared.parameters.Row.{Row}
use Rattle.cap_entries.specs.Floor.{is_floor_row, floor_row}

-- the first rows decide where one of them is a row FLOOR
pub floor_row-append : (rows more : List Row) → floor_row (rows ++ more) ≡ cond (list_any is_floor_row rows) (floor_row rows) (floor_row more)
floor_row-append [] more = refl
floor_row-append (row ∷ rows) more =
    ⊎_elim
    (λ here. cond-true (is_floor_row row) _ _ here ∙ (sym (cond-true (is_floor_row row) _ _ here)
    ∙ sym (ap (λ b. cond (b || list_any is_floor_row rows) (floor_row (row ∷ rows)) (floor_row more)) here)))
    (λ later. cond-false (is_floor_row row) _ _ later ∙ (floor_row-append rows more
    ∙ (ap (λ o. cond (list_any is_floor_row rows) o (floor_row more)) (sym (cond-false (is_floor_row row) _ _ later))
    ∙ sym (ap (λ b. cond (b || list_any is_floor_row rows) (floor_row (row ∷ rows)) (floor_row more)) later))))
    (cases_Bool (is_floor_row row))
