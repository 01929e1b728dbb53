-- Decimal digits: the number that they spell.
use Rattle.std.proofs.Common.{◌≡◌, ℕ, ◌+◌, ◌-◌, ◌*◌, ◌^◌, ◌<◌, ◌≤◌, Bool, true, ◌&&◌, inl, inr, List, [], ◌∷◌, length, take, get_or, refl, ◌∙◌, ap, arith, lit<}
use Rattle.std.proofs.lemmas.Bool.Decides.{nat_tests}
use Rattle.std.proofs.Math.Nat.{pow-le-pow_right}
use Rattle.std.specs.List.{list_all, prefix_len, take_while}
use Rattle.std.specs.Char.{is_ascii_digit, digit_value}
use Rattle.std.specs.Str.Parse.{digits_value}
use Rattle.std.proofs.lemmas.Bool.{cond-true, cond-false, cases_Bool, true_from_ne_false, both_ways}
use Rattle.std.proofs.lemmas.Int.Digits.{digits_value_more}
use Rattle.std.proofs.lemmas.List.{length-take, take_min}
use Rattle.std.proofs.lemmas.List.Sums.{take_while-cons, prefix_len-le-length}
use Rattle.std.proofs.lemmas.List.Folds.{list_all_at, length-prefix_len}
use Rattle.std.proofs.lemmas.Grind.{pow_more}
use Rattle.std.proofs.lemmas.Str.{digit_value_digit}

pub is_digit_range : (c : ℕ) → is_ascii_digit c ≡ true → (48 ≤ c) × (c ≤ 57)
is_digit_range c t = grind (arith, nat_tests)

pub digit_value_of : (c : ℕ) → is_ascii_digit c ≡ true → digit_value c ≡ c - 48
digit_value_of c t = omega (arith, digit_value_digit c (is_digit_range c t), (is_digit_range c t).0)

pub digit_at : (digits : List ℕ) (i : ℕ) → list_all is_ascii_digit digits ≡ true → i < length digits → is_ascii_digit (get_or digits i 0) ≡ true
digit_at digits i t l = true_from_ne_false _ (λ f. both_ways _ (list_all_at is_ascii_digit digits i 0 l f) t)

pub digit_step : (digits : List ℕ) (i n : ℕ) → list_all is_ascii_digit digits ≡ true → i < length digits
    → n ≡ digits_value 10 (take i digits) → n < 10 ^ i
    → (10 * n + (get_or digits i 0 - 48) ≡ digits_value 10 (take (i + 1) digits)) × (10 * n + (get_or digits i 0 - 48) < 10 ^ (i + 1))
digit_step digits i n t l v s =
    let range : (48 ≤ get_or digits i 0) × (get_or digits i 0 ≤ 57) = is_digit_range (get_or digits i 0) (digit_at digits i t l) in
    (omega (arith, digits_value_more 10 digits i l, digit_value_of (get_or digits i 0) (digit_at digits i t l)), omega (arith, pow_more 10 i))

-- another digit has room in a u64
pub digit_room : (n i : ℕ) → n < 10 ^ i → i < 19 → 10 * n + 9 < 2 ^ 64
digit_room n i s l =
    let top : 10 ^ i ≤ 10 ^ 18 = pow-le-pow_right (lit< tt) {j = 18} (omega arith) in
    omega (arith, s, top)

-- hundredths of at most 17 digits have room in a u64
pub hundredths_room : (whole cents most : ℕ) → whole < 10 ^ most → cents < 100 → most ≤ 17 → 100 * whole + cents < 2 ^ 64
hundredths_room whole cents most w s l =
    let top : 10 ^ most ≤ 10 ^ 17 = pow-le-pow_right (lit< tt) {j = 17} (omega arith) in omega (arith, w, s, top)

-- the digits at the front are digits
pub all_take_while : (p : ℕ → Bool) (xs : List ℕ) → list_all p (take_while p xs) ≡ true
all_take_while p [] = refl
all_take_while p (x ∷ xs) = elim (cases_Bool (p x)) [
  | inl passes ↦ ap (list_all p) (take_while-cons p x xs ∙ cond-true (p x) (x ∷ take_while p xs) [] passes)
      ∙ ap (λ (b : Bool). b && list_all p (take_while p xs)) passes ∙ all_take_while p xs
  | inr fails ↦ ap (list_all p) (take_while-cons p x xs ∙ cond-false (p x) (x ∷ take_while p xs) [] fails)
]

-- so many items as stand at the front are those at the front
pub take_front : (p : ℕ → Bool) (xs : List ℕ) → take (length (take_while p xs)) xs ≡ take_while p xs
take_front p xs = rw (length-take (prefix_len p xs) xs) (take_min (prefix_len p xs) xs)

pub all_front : (p : ℕ → Bool) (xs : List ℕ) (n : ℕ) → n ≡ length (take_while p xs) → list_all p (take n xs) ≡ true
all_front p xs n e = ap (λ (k : ℕ). list_all p (take k xs)) e ∙ ap (list_all p) (take_front p xs) ∙ all_take_while p xs

-- fewer digits make a smaller number
pub below_most : (n count most : ℕ) → n < 10 ^ count → count ≤ most → n < 10 ^ most
below_most n count most s l =
    let top : 10 ^ count ≤ 10 ^ most = pow-le-pow_right (lit< tt) {j = most} (omega arith) in omega (arith, s, top)

-- the hundredths of so many digits and two decimals
pub hundredths_fit : (whole cents most : ℕ) → whole < 10 ^ most → cents < 100 → 100 * whole + cents < 10 ^ (most + 2)
hundredths_fit whole cents most w s =
    let same : 10 ^ (most + 2) ≡ 10 ^ (most + 1 + 1) = ap (λ (e : ℕ). 10 ^ e) (let e : most + 2 ≡ most + 1 + 1 = omega arith in e) in
    omega (arith, w, s, same, pow_more 10 most, pow_more 10 (most + 1))

-- those at the front are no more than all
pub few_front : (p : ℕ → Bool) (xs : List ℕ) → length (take_while p xs) ≤ length xs
few_front p xs = omega (arith, length-prefix_len p xs, prefix_len-le-length p xs)
