-- What a leaf that was read keeps: its kind, its range, and the rules of its type.
use Rattle.std.proofs.Common.{ℕ, suc, ◌+◌, ◌^◌, ◌<◌, ◌≤◌, ◌≡◌, List, [], ◌∷◌, Bool, true, false, length, refl, ◌∙◌, ap, arith, rules, subst, cond, Option, Some, None, inl, inr}
use Rattle.std.specs.Prelude.{◌&&◌, ◌==◌, nat_le, nat_lt, option_map, if◌then◌else◌}
use Rattle.std.specs.List.{list_all}
use Rattle.std.specs.Char.{is_ascii_digit, digit_value}
use Rattle.std.specs.Str.{bytes_eq}
use Rattle.std.specs.Str.Parse.{digits_value, AllDigits}
use Rattle.std.proofs.lemmas.Int.Digits.{digits_value-lt}
use Rattle.std.proofs.lemmas.Bool.Decides.{nat_tests}
use Rattle.cap_base.specs.Text.{is_run, is_ident, is_account, is_code6}
use Rattle.cap_base.specs.Amount.{whole_of, tail_of, is_tail, cents_of, hundredths_of, is_decimal}
use Rattle.cap_base.proofs.Digits.{all_take_while, is_digit_range, digit_value_of, below_most, hundredths_fit}
use Rattle.cap_leaf.specs.declared.zone.Zone.TheVariants.{Local, Utc}
use Rattle.cap_leaf.specs.Date.{is_zone, is_millis, is_date_time}
use Rattle.cap_leaf.specs.DateText.{part, number_at, are_digits, is_moment, is_fraction, millis_of, is_offset, is_zone_text, zone_of, fraction_in, zone_in, is_date, date_of}
use Rattle.cap_leaf.specs.declared.kinds.LeafKind.{LeafKind}
use Rattle.cap_leaf.specs.declared.kinds.LeafKind.TheVariants as kind
use Rattle.cap_leaf.specs.declared.kinds.CodeList.{CodeList}
use Rattle.cap_leaf.specs.declared.leaf.Leaf.{Leaf}
use Rattle.cap_leaf.specs.declared.leaf.Leaf.TheVariants as leaf
use Rattle.cap_leaf.specs.Codes.{codes_of}
use Rattle.cap_leaf.specs.Spelling.{leaf_of, is_kind, is_leaf, IsLeafOf, IsValue, place_in}
use Rattle.cap_leaf.proofs.Moments.{moment_of, all_parts, offset_of, second_of}
use Rattle.cap_text.proofs.Common.{and_true, chosen, some_is}

at_most : (n m : ℕ) → nat_le n m ≡ true → n ≤ m
at_most n m e = search rules

fewer : (n m : ℕ) → n < m → nat_lt n m ≡ true
fewer n m l = grind (arith, nat_tests)

equal : (n m : ℕ) → (n == m) ≡ true → n ≡ m
equal n m e = search rules

kept_is : {A : Type 0} (f : A → Leaf) (test : Bool) (x : A) (y : Leaf) → option_map f (if test then Some x else None) ≡ Some y → (test ≡ true) × (f x ≡ y)
kept_is f true x y e = (refl, some_is (f x) y e)
kept_is f false x y e = cc

digit_small : (c : ℕ) → is_ascii_digit c ≡ true → digit_value c < 10
digit_small c t = let r = is_digit_range c t in omega (arith, digit_value_of c t, r.0, r.1)

all_digits : (ds : List ℕ) → list_all is_ascii_digit ds ≡ true → AllDigits 10 ds
all_digits [] e = tt
all_digits (d ∷ ds) e = let t = and_true (is_ascii_digit d) (list_all is_ascii_digit ds) e in (digit_small d t.0, all_digits ds t.1)

digits_below : (ds : List ℕ) (most : ℕ) → list_all is_ascii_digit ds ≡ true → length ds ≤ most → digits_value 10 ds < 10 ^ most
digits_below ds most e l = below_most (digits_value 10 ds) (length ds) most (digits_value-lt 10 ds (all_digits ds e)) l

cents_small : (t : List ℕ) → is_tail t ≡ true → cents_of t < 100
cents_small [] e = omega arith
cents_small (p ∷ []) e = omega arith
cents_small (p ∷ d ∷ []) e = let s = digit_small d (and_true (p == 46) (is_ascii_digit d) e).1 in omega (arith, s)
cents_small (p ∷ d ∷ f ∷ []) e =
    let t = and_true (p == 46) (is_ascii_digit d && is_ascii_digit f) e in
    let u = and_true (is_ascii_digit d) (is_ascii_digit f) t.1 in
    let s = digit_small d u.0 in let r = digit_small f u.1 in omega (arith, s, r)
cents_small (p ∷ d ∷ f ∷ g ∷ rest) e = cc

hundredths_below : (most : ℕ) (text : List ℕ) → is_decimal most text ≡ true → hundredths_of text < 10 ^ (most + 2)
hundredths_below most text e =
    let t = and_true (nat_le 1 (length (whole_of text)) && nat_le (length (whole_of text)) most) (is_tail (tail_of text)) e in
    let u = and_true (nat_le 1 (length (whole_of text))) (nat_le (length (whole_of text)) most) t.0 in
    hundredths_fit (digits_value 10 (whole_of text)) (cents_of (tail_of text)) most
    (digits_below (whole_of text) most (all_take_while is_ascii_digit text) (at_most (length (whole_of text)) most u.1)) (cents_small (tail_of text) t.1)

place_within : (cs : List (List ℕ)) (at : ℕ) (text : List ℕ) (n : ℕ) → place_in cs at text ≡ Some n → n < at + length cs
place_within [] at text n e = cc
place_within (c ∷ cs) at text n e =
    elim (chosen (bytes_eq c text) (Some at) (place_in cs (suc at) text) (Some n) e) [
      | inl (same, q) ↦ (let s : at ≡ n = some_is at n q in omega (arith, s))
      | inr (other, q) ↦ (let r = place_within cs (suc at) text n q in omega (arith, r))
    ]

code_some : (l : CodeList) (o : Option ℕ) (x : Leaf) → option_map (leaf.Code l) o ≡ Some x → (n : ℕ) × (o ≡ Some n) × (leaf.Code l n ≡ x)
code_some l None x e = cc
code_some l (Some n) x e = (n, refl, some_is (leaf.Code l n) x e)

by_test : {A : Type 0} (P : A → Type 0) (b : Bool) (x y : A) → (b ≡ true → P x) → (b ≡ false → P y) → P (cond b x y)
by_test P true x y f g = f refl
by_test P false x y f g = g refl

-- ---- dates

part_small : (count : ℕ) (text : List ℕ) → are_digits count text ≡ true → digits_value 10 text < 10 ^ count
part_small count text e =
    let t = and_true (length text == count) (list_all is_ascii_digit text) e in
    digits_below text count t.1 (let s : length text ≡ count = equal (length text) count t.0 in omega (arith, s))

millis_small : (t : List ℕ) → is_fraction t ≡ true → is_millis (millis_of t) ≡ true
millis_small [] e = refl
millis_small (p ∷ ds) e = fewer (digits_value 10 ds) 1000 (part_small 3 ds e)

zone_small : (t : List ℕ) → is_zone_text t ≡ true → is_zone (zone_of t) ≡ true
zone_small t e =
    by_test (λ z. is_zone z ≡ true) (bytes_eq t []) Local _ (λ same. refl)
    (λ other. by_test (λ z. is_zone z ≡ true) (bytes_eq t (90 ∷ [])) Utc _ (λ same. refl)
    (λ neither. let o = offset_of t (second_of (bytes_eq t (90 ∷ [])) (is_offset t) (second_of (bytes_eq t []) _ e other) neither) in
    ap (λ b. b && nat_lt (number_at 4 2 t) 60) o.hour ∙ o.minute))

date_holds : (text : List ℕ) → is_date text ≡ true → is_date_time (date_of text) ≡ true
date_holds text e =
    let t = and_true (is_moment text) (is_fraction (fraction_in text) && is_zone_text (zone_in text)) e in
    let u = and_true (is_fraction (fraction_in text)) (is_zone_text (zone_in text)) t.1 in
    let m = moment_of text t.0 in
    all_parts (number_at 0 4 text) (number_at 5 2 text) (number_at 8 2 text) (number_at 11 2 text) (number_at 14 2 text) (number_at 17 2 text) (millis_of (fraction_in text)) (zone_of (zone_in text))
    (part_small 4 (part 0 4 text) m.digits.year) m.ranges.day m.ranges.hour m.ranges.minute m.ranges.second (millis_small (fraction_in text) u.0) (zone_small (zone_in text) u.1)

-- ---- a leaf

pub record Holds (k : LeafKind) (x : Leaf) : Type 0 where
  pub of : IsLeafOf k x
  pub range : is_leaf x ≡ true
  pub value : IsValue x

holds_by : (k : LeafKind) (x y : Leaf) → x ≡ y → Holds k x → Holds k y
holds_by k x y e h = subst (Holds k) e h

pub leaf_holds : (k : LeafKind) (text : List ℕ) (x : Leaf) → is_kind k ≡ true → leaf_of k text ≡ Some x → Holds k x
leaf_holds (kind.Num d) text x i e =
    let t = kept_is leaf.Num (is_run 1 d is_ascii_digit text) (digits_value 10 text) x e in
    let run = and_true (nat_le 1 (length text) && nat_le (length text) d) (list_all is_ascii_digit text) t.0 in
    let few = at_most (length text) d (and_true (nat_le 1 (length text)) (nat_le (length text) d) run.0).1 in
    let ten = at_most d 10 (and_true (nat_le 1 d) (nat_le d 10) i).1 in
    holds_by _ _ x t.1 (record { of = digits_below text d run.1 few; range = fewer _ _ (digits_below text 10 run.1 (omega (arith, few, ten))); value = tt })
leaf_holds kind.Amount text x i e =
    let t = kept_is leaf.Amount (is_decimal 10 text && nat_le 1 (hundredths_of text)) (hundredths_of text) x e in
    let u = and_true (is_decimal 10 text) (nat_le 1 (hundredths_of text)) t.0 in
    let high : hundredths_of text < 10 ^ 12 = hundredths_below 10 text u.0 in
    holds_by _ _ x t.1 (record { of = tt; range = refl; value = record { some = at_most 1 (hundredths_of text) u.1; within = omega (arith, high) } })
leaf_holds kind.Sum text x i e =
    let t = kept_is leaf.Sum (is_decimal 17 text) (hundredths_of text) x e in
    let high : hundredths_of text < 10 ^ 19 = hundredths_below 17 text t.0 in
    holds_by _ _ x t.1 (record { of = tt; range = fewer (hundredths_of text) (10 ^ 19) high; value = tt })
leaf_holds kind.Ident text x i e = let t = kept_is leaf.Ident (is_ident text) text x e in holds_by _ _ x t.1 (record { of = tt; range = refl; value = t.0 })
leaf_holds kind.Account text x i e = let t = kept_is leaf.Account (is_account text) text x e in holds_by _ _ x t.1 (record { of = tt; range = refl; value = t.0 })
leaf_holds kind.Code6 text x i e = let t = kept_is leaf.Code6 (is_code6 text) text x e in holds_by _ _ x t.1 (record { of = tt; range = refl; value = t.0 })
leaf_holds kind.DateTime text x i e = let t = kept_is leaf.DateTime (is_date text) (date_of text) x e in holds_by _ _ x t.1 (record { of = tt; range = refl; value = date_holds text t.0 })
leaf_holds (kind.Code l) text x i e =
    let n = code_some l (place_in (codes_of l) 0 text) x e in
    let within : n.0 < length (codes_of l) = let r = place_within (codes_of l) 0 text n.0 n.1 in omega (arith, r) in
    holds_by _ _ x n.2 (record { of = refl; range = ap (λ b. b && nat_lt n.0 (length (codes_of l))) i ∙ fewer n.0 (length (codes_of l)) within; value = tt })
