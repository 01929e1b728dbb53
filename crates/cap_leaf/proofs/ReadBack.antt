-- What the canonical spelling of a leaf reads as.
use Rattle.std.proofs.Common.{◌≡◌, ℕ, ◌+◌, ◌*◌, ◌/◌, ◌%◌, ◌^◌, ◌≤◌, ◌<◌, true, false, List, [], ◌∷◌, ◌++◌, length, drop, refl, ◌∙◌, ap, arith, Some, None, lit<}
use Rattle.std.specs.Prelude.{◌&&◌, nat_le, if◌then◌else◌}
use Rattle.std.specs.List.{list_all, take_while}
use Rattle.std.specs.Char.{is_ascii_digit, digit_value}
use Rattle.std.specs.Fmt.{decimal}
use Rattle.std.specs.Str.Parse.{digits_value, AllDigits}
use Rattle.std.proofs.Math.Nat.{pow-le-pow_right}
use Rattle.std.proofs.lemmas.Bool.Decides.{nat_tests}
use Rattle.std.proofs.lemmas.Bool.{cond-true, cond-false}
use Rattle.std.proofs.lemmas.Fmt.{decimal_is_IsNumeral, decimal_nonempty, length-decimal-le}
use Rattle.std.proofs.lemmas.Grind.{pow_more}
use Rattle.std.proofs.lemmas.Str.{digit_value_digit}
use Rattle.std.proofs.lemmas.List.Sums.{take_while-cons}
use Rattle.cap_base.specs.Number.{number_of}
use Rattle.cap_base.specs.Amount.{IsAmount, whole_of, tail_of, is_tail, cents_of, hundredths_of, is_decimal, decimal_of, amount_of, amount_text}
use Rattle.cap_leaf.proofs.Moments.{both}

-- a byte that writes a digit
pub digit_byte : (x : ℕ) → x < 10 → is_ascii_digit (48 + x) ≡ true
digit_byte x l = grind (arith, nat_tests)

pub digit_is : (x : ℕ) → x < 10 → digit_value (48 + x) ≡ x
digit_is x l = let a : 48 ≤ 48 + x = omega arith in let b : 48 + x ≤ 57 = omega arith in omega (arith, digit_value_digit (48 + x) (a, b))

-- digits as `parse` has them
small_digit : (c : ℕ) → digit_value c < 10 → is_ascii_digit c ≡ true
small_digit c l = grind (arith, nat_tests)

are_digits : (ds : List ℕ) → AllDigits 10 ds → list_all is_ascii_digit ds ≡ true
are_digits [] a = refl
are_digits (d ∷ ds) a = rw (small_digit d a.0) (are_digits ds a.1)

pub decimal_digits : (n : ℕ) → n < 2 ^ 64 → list_all is_ascii_digit (decimal n) ≡ true
decimal_digits n l = are_digits (decimal n) (decimal_is_IsNumeral n l).0.1

at_least : (n m : ℕ) → n ≤ m → nat_le n m ≡ true
at_least n m l = grind (arith, nat_tests)

number_kept : (most n : ℕ) (text : List ℕ) → nat_le 1 (length text) ≡ true → nat_le (length text) most ≡ true → list_all is_ascii_digit text ≡ true
    → digits_value 10 text ≡ n → number_of most text ≡ Some n
number_kept most n text some few digits value = rw (some, few, digits, value) refl

pub number_reads : (most n : ℕ) → 1 ≤ most → most ≤ 10 → n < 10 ^ most → number_of most (decimal n) ≡ Some n
number_reads most n some few l =
    let top : 10 ^ most ≤ 10 ^ 10 = pow-le-pow_right (lit< tt) {j = 10} few in
    let fits : n < 2 ^ 64 = omega (arith, l, top) in
    number_kept most n (decimal n) (at_least 1 _ (decimal_nonempty n fits)) (at_least _ most (length-decimal-le most n some l fits)) (decimal_digits n fits)
    (decimal_is_IsNumeral n fits).1

-- ---- amounts

-- digits at the front, up to a byte that is none
front_digits : (ds rest : List ℕ) (b : ℕ) → list_all is_ascii_digit ds ≡ true → is_ascii_digit b ≡ false → take_while is_ascii_digit (ds ++ b ∷ rest) ≡ ds
front_digits [] rest b e f = take_while-cons is_ascii_digit b rest ∙ cond-false _ _ _ f
front_digits (d ∷ ds) rest b e f =
    let t = both (is_ascii_digit d) (list_all is_ascii_digit ds) e in
    take_while-cons is_ascii_digit d (ds ++ b ∷ rest) ∙ cond-true _ _ _ t.0 ∙ ap (λ l. d ∷ l) (front_digits ds rest b t.1 f)

after_front : (ds rest : List ℕ) → drop (length ds) (ds ++ rest) ≡ rest
after_front [] rest = refl
after_front (d ∷ ds) rest = after_front ds rest

-- the decimals of an amount
abbrev cents : ℕ → List ℕ
cents n = 46 ∷ (48 + n / 10 % 10) ∷ (48 + n % 10) ∷ []

cents_tail : (n : ℕ) → is_tail (cents n) ≡ true
cents_tail n = rw (digit_byte (n / 10 % 10) (omega arith), digit_byte (n % 10) (omega arith)) refl

cents_value : (n : ℕ) → cents_of (cents n) ≡ 10 * (n / 10 % 10) + n % 10
cents_value n = rw (digit_is (n / 10 % 10) (omega arith), digit_is (n % 10) (omega arith)) refl

amount_front : (n : ℕ) → n < 2 ^ 64 → whole_of (amount_text n) ≡ decimal (n / 100)
amount_front n l = front_digits (decimal (n / 100)) _ 46 (decimal_digits (n / 100) (omega arith)) refl

amount_tail : (n : ℕ) → n < 2 ^ 64 → tail_of (amount_text n) ≡ cents n
amount_tail n l = ap (λ w. drop (length w) (amount_text n)) (amount_front n l) ∙ after_front (decimal (n / 100)) (cents n)

amount_value : (n : ℕ) → n < 2 ^ 64 → hundredths_of (amount_text n) ≡ n
amount_value n l =
    let whole : digits_value 10 (whole_of (amount_text n)) ≡ n / 100 = ap (λ w. digits_value 10 w) (amount_front n l) ∙ (decimal_is_IsNumeral (n / 100) (omega arith)).1 in
    let part : cents_of (tail_of (amount_text n)) ≡ 10 * (n / 10 % 10) + n % 10 = ap cents_of (amount_tail n l) ∙ cents_value n in
    ap (λ w. 100 * w + cents_of (tail_of (amount_text n))) whole ∙ (ap (λ w. 100 * (n / 100) + w) part ∙ (omega arith))

amount_decimal : (most n : ℕ) → 1 ≤ most → most ≤ 17 → n < 10 ^ (most + 2) → n < 2 ^ 64 → is_decimal most (amount_text n) ≡ true
amount_decimal most n some few small l =
    let same : 10 ^ (most + 2) ≡ 10 ^ (most + 1 + 1) = ap (λ (e : ℕ). 10 ^ e) (let e : most + 2 ≡ most + 1 + 1 = omega arith in e) in
    let low : n / 100 < 10 ^ most = omega (arith, small, same, pow_more 10 most, pow_more 10 (most + 1)) in
    let a : nat_le 1 (length (whole_of (amount_text n))) ≡ true = rw (amount_front n l) (at_least 1 _ (decimal_nonempty (n / 100) (omega arith))) in
    let b : nat_le (length (whole_of (amount_text n))) most ≡ true = rw (amount_front n l) (at_least _ most (length-decimal-le most (n / 100) some low (omega arith))) in
    let c : is_tail (tail_of (amount_text n)) ≡ true = ap is_tail (amount_tail n l) ∙ cents_tail n in
    rw (a, b, c) refl

decimal_kept : (most n : ℕ) (text : List ℕ) → is_decimal most text ≡ true → hundredths_of text ≡ n → decimal_of most text ≡ Some n
decimal_kept most n text test value = ap (λ b. if b then Some (hundredths_of text) else None) test ∙ ap Some value

pub sum_reads : (n : ℕ) → n < 10 ^ 19 → decimal_of 17 (amount_text n) ≡ Some n
sum_reads n l = let fits : n < 2 ^ 64 = omega arith in decimal_kept 17 n (amount_text n) (amount_decimal 17 n (omega arith) (omega arith) l fits) (amount_value n fits)

pub amount_reads : (n : ℕ) → IsAmount n → amount_of (amount_text n) ≡ Some n
amount_reads n h =
    let low : 1 ≤ n = h.some in
    let high : n ≤ 999999999999 = h.within in
    let fits : n < 2 ^ 64 = omega arith in
    let some : nat_le 1 (hundredths_of (amount_text n)) ≡ true = rw (amount_value n fits) (at_least 1 n low) in
    let test : (is_decimal 10 (amount_text n) && nat_le 1 (hundredths_of (amount_text n))) ≡ true = rw (amount_decimal 10 n (omega arith) (omega arith) (omega arith) fits, some) refl in
    ap (λ b. if b then Some (hundredths_of (amount_text n)) else None) test ∙ ap Some (amount_value n fits)
