use Rattle.std.proofs.Common.{◌≡◌, ℕ, ◌+◌, ◌<◌, ◌≤◌, List, [], ◌∷◌, ◌++◌, length, take, drop, get_or, Bool, true, false, nat_lt, if◌then◌else◌, sym, ◌∙◌, ap, arith, append_assoc, length-append, length-take}
use Rattle.std.proofs.Math.ListN.{set}
use Rattle.std.proofs.Math.Seq.{set-append_seam}
use Rattle.std.proofs.lemmas.List.{drop_more, drop_all, append-nil}
use Rattle.std.proofs.lemmas.Bool.Decides.{nat_tests}
use Rattle.cap_disk.specs.Disk.{overwrite}
use Rattle.cap_disk.specs.History.{length_overwrite}

more_of : (old front : List ℕ) (place at b : ℕ) → at ≡ place + length front → (take place old ++ front) ++ (b ∷ drop (at + 1) old) ≡ overwrite old place (front ++ b ∷ [])
more_of old front place at b is =
    sym (append_assoc (take place old ++ front) (b ∷ []) (drop (at + 1) old))
    ∙ ap (λ (l : List ℕ). l ++ drop (at + 1) old) (append_assoc (take place old) front (b ∷ []))
    ∙ ap (λ (k : ℕ). (take place old ++ (front ++ b ∷ [])) ++ drop k old) (omega (arith, length-append front (b ∷ [])))

-- one byte more, inside
pub laid_inside : (old front : List ℕ) (place at b : ℕ) → place ≤ length old → at ≡ place + length front → at < length old → set (overwrite old place front) at b ≡ overwrite old place (front ++ b ∷ [])
laid_inside old front place at b le is lt =
    let size : length (take place old ++ front) ≡ at = omega (arith, length-append (take place old) front, length-take place old) in
    let split : overwrite old place front ≡ (take place old ++ front) ++ (get_or old at 0 ∷ drop (at + 1) old) = ap (λ (k : ℕ). (take place old ++ front) ++ drop k old) (sym is) ∙ ap (λ (l : List ℕ). (take place old ++ front) ++ l) (drop_more old at 0 lt) in
    ap (λ (l : List ℕ). set l at b) split
    ∙ ap (λ (k : ℕ). set ((take place old ++ front) ++ (get_or old at 0 ∷ drop (at + 1) old)) k b) (sym size)
    ∙ set-append_seam (take place old ++ front) (get_or old at 0) (drop (at + 1) old) b
    ∙ more_of old front place at b is

-- one byte more, at the end
pub laid_behind : (old front : List ℕ) (place at b : ℕ) → at ≡ place + length front → length old ≤ at → overwrite old place front ++ b ∷ [] ≡ overwrite old place (front ++ b ∷ [])
laid_behind old front place at b is le =
    ap (λ (l : List ℕ). ((take place old ++ front) ++ l) ++ b ∷ []) (drop_all (place + length front) old (omega (arith, is, le)))
    ∙ ap (λ (l : List ℕ). l ++ b ∷ []) (append-nil (take place old ++ front))
    ∙ ap (λ (l : List ℕ). (take place old ++ front) ++ (b ∷ l)) (sym (drop_all (at + 1) old (omega (arith, le))))
    ∙ more_of old front place at b is

lt_of : (a b : ℕ) → nat_lt a b ≡ true → a < b
lt_of a b test = grind (arith, nat_tests)

le_of : (a b : ℕ) → nat_lt a b ≡ false → b ≤ a
le_of a b test = grind (arith, nat_tests)

pub laid_more : (old front : List ℕ) (place at b : ℕ) → place ≤ length old → at ≡ place + length front → (t : Bool) → nat_lt at (length (overwrite old place front)) ≡ t → (if t then set (overwrite old place front) at b else overwrite old place front ++ b ∷ []) ≡ overwrite old place (front ++ b ∷ [])
laid_more old front place at b le is true test = let lt = lt_of at (length (overwrite old place front)) test in laid_inside old front place at b le is (omega (arith, lt, length_overwrite old place front))
laid_more old front place at b le is false test = let ge = le_of at (length (overwrite old place front)) test in laid_behind old front place at b is (omega (arith, ge, length_overwrite old place front))
