-- How the numbers of pending sales follow the sales.
use Rattle.std.proofs.Common.{◌≡◌, ◌⊎◌, ℕ, ◌+◌, ◌-◌, ◌≤◌, ◌<◌, Bool, true, false, not, ◌&&◌, ◌||◌, List, [], ◌∷◌, ◌++◌, length, refl, sym, ◌∙◌, ap, subst, inl, inr, ⊎_elim, arith, le-leb, leb-true, leb-false, length-append, length-set, slice_index_or, eq-eqb}
use Rattle.std.specs.Prelude.{nat_le, ◌==◌}
use Rattle.std.proofs.lemmas.Bool.{and_from, false≢true, cases_Bool}
use Rattle.std.proofs.lemmas.List.{get_or_append_left}
use Rattle.std.proofs.Math.Seq.{get_or-append_seam}
use Rattle.cap_terminal.specs.declared.pending.Pending.{Pending}
use Rattle.cap_terminal.specs.declared.sale_row.Stage.{Stage}
use Rattle.cap_terminal.specs.declared.sale_row.Stage.TheVariants as stage
use Rattle.cap_terminal.specs.declared.sale_row.SaleRow.{SaleRow}
use Rattle.cap_terminal.specs.Index.{blank_row, row_of, at_stage, staged, is_ended}
use Rattle.cap_terminal.specs.Pending.{notes, Notes, NotesNoneFrom, IsLeastNoted, waits, WaitsNoneFrom, IsLeastWaiting}
use Rattle.cap_terminal.proofs.Ties.{staged_same, staged_other, isnt_same, same_or_not}

or_false : (b : Bool) → (b || false) ≡ b
or_false true = refl
or_false false = refl

and_true : (b : Bool) → (b && true) ≡ b
and_true true = refl
and_true false = refl

and_false : (b : Bool) → (b && false) ≡ false
and_false true = refl
and_false false = refl

pub zero_or : (k : ℕ) → (k ≡ 0) ⊎ (1 ≤ k)
zero_or k = ⊎_elim (λ low. inr (leb-true 1 k low)) (λ zero. inl (⊎_elim (λ is. is) (λ isnt. absurd (false≢true (sym zero ∙ le-leb 1 k (omega (arith, isnt))))) (same_or_not k 0))) (cases_Bool (nat_le 1 k))

-- it has what the row and the number of sales say
abbrev waits_so : (k n : ℕ) (row : SaleRow) → Bool
waits_so k n row = (nat_le 1 k && nat_le k n) && not (is_ended row.stage)

waits_none : (k : ℕ) → k ≡ 0 → (sales : List SaleRow) → waits sales k ≡ false
waits_none k zero sales = subst (λ (k : ℕ). waits sales k ≡ false) (sym zero) refl

waits_past : (sales : List SaleRow) (k : ℕ) → length sales < k → waits sales k ≡ false
waits_past sales k past =
    ⊎_elim
    (λ within. let le : k ≤ length sales = leb-true k (length sales) within in absurd (omega (arith, le, past)))
    (λ beyond. ap (λ b. (nat_le 1 k && b) && not (is_ended (row_of sales k).stage)) beyond ∙ ap (λ b. b && not (is_ended (row_of sales k).stage)) (and_false (nat_le 1 k)))
    (cases_Bool (nat_le k (length sales)))

pub notes_none : (pending : Pending) → ((k : ℕ) → notes pending k ≡ false) → Notes pending []
notes_none pending none = λ k within. none k ∙ sym (waits_none k (omega (arith, within)) [])

module _ (pending : Pending) (sales : List SaleRow) (all : Notes pending sales) where
  -- one number more, past the last sale
  pub noted_next : (new : Pending) → ((k : ℕ) → notes new k ≡ (notes pending k || (length sales + 1 == k))) → Notes new sales
  noted_next new is = λ k within.
      is k ∙ (ap (λ b. notes pending k || b) (isnt_same (length sales + 1) k (λ e. omega (arith, e, within))) ∙ (or_false (notes pending k) ∙ all k within))

  -- a sale that has its end is forgotten
  pub forgotten : (new : Pending) (n : ℕ) (stage : Stage) → 1 ≤ n → n ≤ length sales → is_ended stage ≡ true → ((k : ℕ) → notes new k ≡ (notes pending k && not (n == k))) → Notes new (staged sales n stage)
  forgotten new n stage low high ended is = λ k within. at k (subst (λ (m : ℕ). k ≤ m) same_length within) (same_or_not n k) (zero_or k)
    where
      same_length : length (staged sales n stage) ≡ length sales
      same_length = length-set sales (n - 1) (at_stage (row_of sales n) stage)

      at : (k : ℕ) → k ≤ length sales → (n ≡ k) ⊎ (n ≡ k → ⊥) → (k ≡ 0) ⊎ (1 ≤ k) → notes new k ≡ waits (staged sales n stage) k
      at k within (inl same) zero =
          (is k ∙ (ap (λ b. notes pending k && not b) (eq-eqb n k same) ∙ and_false (notes pending k)))
          ∙ sym
          (ap (λ (m : ℕ). (nat_le 1 k && nat_le k (length (staged sales n stage))) && not (is_ended (row_of (staged sales n stage) m).stage)) (sym same)
          ∙ (ap (λ (r : SaleRow). (nat_le 1 k && nat_le k (length (staged sales n stage))) && not (is_ended r.stage)) (staged_same sales n stage low high)
          ∙ (ap (λ b. (nat_le 1 k && nat_le k (length (staged sales n stage))) && not b) ended
          ∙ and_false (nat_le 1 k && nat_le k (length (staged sales n stage))))))
      at k within (inr other) (inl zero) =
          (is k ∙ (ap (λ b. notes pending k && not b) (isnt_same n k other) ∙ (and_true (notes pending k) ∙ all k within)))
          ∙ (waits_none k zero sales ∙ sym (waits_none k zero (staged sales n stage)))
      at k within (inr other) (inr above) =
          (is k ∙ (ap (λ b. notes pending k && not b) (isnt_same n k other) ∙ (and_true (notes pending k) ∙ all k within)))
          ∙ (ap (λ (m : ℕ). waits_so k m (row_of sales k)) (sym same_length)
          ∙ ap (λ (r : SaleRow). waits_so k (length (staged sales n stage)) r) (sym (staged_other sales n k stage low above (λ e. other (sym e)))))

  -- a further sale is pending
  pub begun : (row : SaleRow) → row.stage ≡ stage.Pending → notes pending (length sales + 1) ≡ true → Notes pending (sales ++ row ∷ [])
  begun row is_pending noted = λ k within. at k (omega (arith, within, longer)) (same_or_not (length sales + 1) k) (zero_or k)
    where
      longer : length (sales ++ row ∷ []) ≡ length sales + 1
      longer = length-append sales (row ∷ [])

      last : row_of (sales ++ row ∷ []) (length sales + 1) ≡ row
      last = (let place : length sales + 1 - 1 ≡ length sales = omega arith in ap (λ (i : ℕ). slice_index_or (sales ++ row ∷ []) i blank_row) place) ∙ get_or-append_seam sales row [] blank_row

      kept : (k : ℕ) → 1 ≤ k → k ≤ length sales → row_of (sales ++ row ∷ []) k ≡ row_of sales k
      kept k above inside = get_or_append_left sales (row ∷ []) blank_row (k - 1) (omega (arith, above, inside))

      not_le : (k : ℕ) → nat_le k (length sales) ≡ false → length sales < k
      not_le k past = leb-false k (length sales) past

      at : (k : ℕ) → k ≤ length sales + 1 → (length sales + 1 ≡ k) ⊎ (length sales + 1 ≡ k → ⊥) → (k ≡ 0) ⊎ (1 ≤ k) → notes pending k ≡ waits (sales ++ row ∷ []) k
      at k within (inl same) zero =
          ap (notes pending) (sym same) ∙ (noted ∙ sym
          (ap (λ (m : ℕ). waits (sales ++ row ∷ []) m) (sym same)
          ∙ and_from (nat_le 1 (length sales + 1) && nat_le (length sales + 1) (length (sales ++ row ∷ []))) (not (is_ended (row_of (sales ++ row ∷ []) (length sales + 1)).stage))
          (and_from (nat_le 1 (length sales + 1)) (nat_le (length sales + 1) (length (sales ++ row ∷ []))) (le-leb 1 (length sales + 1) (omega arith)) (le-leb (length sales + 1) (length (sales ++ row ∷ [])) (omega (arith, longer))))
          (ap (λ (r : SaleRow). not (is_ended r.stage)) last ∙ ap (λ (s : Stage). not (is_ended s)) is_pending)))
      at k within (inr other) (inl zero) = all k (omega (arith, zero)) ∙ (waits_none k zero sales ∙ sym (waits_none k zero (sales ++ row ∷ [])))
      at k within (inr other) (inr above) =
          let inside : k ≤ length sales = ⊎_elim (λ le. leb-true k (length sales) le) (λ past. absurd (other (omega (arith, within, not_le k past)))) (cases_Bool (nat_le k (length sales))) in
          all k inside
          ∙ (ap (λ b. (nat_le 1 k && b) && not (is_ended (row_of sales k).stage)) (le-leb k (length sales) inside ∙ sym (le-leb k (length (sales ++ row ∷ [])) (omega (arith, longer, within))))
          ∙ ap (λ (r : SaleRow). waits_so k (length (sales ++ row ∷ [])) r) (sym (kept k above inside)))

  -- the least number that is noted, where it is that of a sale
  pub waiting_found : (n k : ℕ) → k ≤ length sales → IsLeastNoted pending n k → IsLeastWaiting sales n k
  waiting_found n k within least = record {
    from = least.from;
    pending = sym (all k within) ∙ least.noted;
    least = λ q from below. sym (all q (omega (arith, within, below))) ∙ least.least q from below;
  }

  -- where it is past the last sale, none is pending
  pub waiting_past : (n k : ℕ) → length sales < k → IsLeastNoted pending n k → WaitsNoneFrom sales n
  waiting_past n k past least = λ q from.
      ⊎_elim
      (λ within. let le : q ≤ length sales = leb-true q (length sales) within in sym (all q le) ∙ least.least q from (omega (arith, le, past)))
      (λ beyond. waits_past sales q (leb-false q (length sales) beyond))
      (cases_Bool (nat_le q (length sales)))

  -- where none is noted, none is pending
  pub waiting_none : (n : ℕ) → NotesNoneFrom pending n → WaitsNoneFrom sales n
  waiting_none n none = λ q from.
      ⊎_elim
      (λ within. let le : q ≤ length sales = leb-true q (length sales) within in sym (all q le) ∙ none q from)
      (λ beyond. waits_past sales q (leb-false q (length sales) beyond))
      (cases_Bool (nat_le q (length sales)))
