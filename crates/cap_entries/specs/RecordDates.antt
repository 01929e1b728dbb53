-- The text of a date and time: it reads as that date and time, and no other text does.
use Rattle.std.proofs.Common.{◌≡◌, ℕ, zero, suc, ◌+◌, ◌*◌, ◌/◌, ◌%◌, ◌≤◌, ◌<◌, Bool, true, false, List, [], ◌∷◌, ◌++◌, length, take, drop, refl, sym, ◌∙◌, ap, subst, arith, rules, Option, Some, None, eqb-true, lt-ltb, le-leb, take-append-drop, append-nil}
use Rattle.std.specs.Prelude.{◌&&◌, ◌||◌, ◌==◌, nat_le, nat_lt, if◌then◌else◌, codes}
use Rattle.std.specs.List.{list_all}
use Rattle.std.specs.Char.{is_ascii_digit, digit_value}
use Rattle.std.specs.Str.{bytes_eq}
use Rattle.std.specs.Str.Parse.{digits_value}
use Rattle.std.proofs.lemmas.List.{drop-drop, drop_all}
use Rattle.std.proofs.lemmas.Bool.{and_parts, and_from, false≢true}
use Rattle.std.proofs.lemmas.Bool.Decides.{nat_tests}
use Rattle.std.proofs.lemmas.Option.{cond_some}
use Rattle.std.proofs.lemmas.Slice.Eq.{bytes_eq-Decides}
use Rattle.std.proofs.lemmas.Str.{digit_value_digit}
use Rattle.cap_leaf.specs.declared.zone.Zone.{Zone}
use Rattle.cap_leaf.specs.declared.zone.Zone.TheVariants.{Local, Utc, Offset}
use Rattle.cap_leaf.specs.Date.{DateParts, is_day, days_in, is_millis, is_zone, is_date_time}
use Rattle.cap_leaf.specs.DateText.{part, number_at, are_digits, has_digits, has_marks, has_ranges, is_moment, fraction_of, is_fraction, millis_of, is_offset, is_zone_text, offset_in, zone_of, fraction_in, zone_in, is_date, date_of, date_time_of}
use Rattle.cap_leaf.specs.Canonical.{moment_text, fraction_text, zone_text, date_text}

both : (a b : Bool) → (a && b) ≡ true → (a ≡ true) × (b ≡ true)
both a b e = and_parts a b e

-- a byte that writes a digit
digit_byte : (x : ℕ) → x < 10 → is_ascii_digit (48 + x) ≡ true
digit_byte x l = grind (arith, nat_tests)

digit_is : (x : ℕ) → x < 10 → digit_value (48 + x) ≡ x
digit_is x l = let a : 48 ≤ 48 + x = omega arith in let b : 48 + x ≤ 57 = omega arith in omega (arith, digit_value_digit (48 + x) (a, b))

-- two digits
two_digits : (n : ℕ) → n < 100 → are_digits 2 ((48 + n / 10) ∷ (48 + n % 10) ∷ []) ≡ true
two_digits n l = rw (digit_byte (n / 10) (omega arith), digit_byte (n % 10) (omega arith)) refl

two_value : (n : ℕ) → n < 100 → digits_value 10 ((48 + n / 10) ∷ (48 + n % 10) ∷ []) ≡ n
two_value n l = rw (digit_is (n / 10) (omega arith), digit_is (n % 10) (omega arith)) (omega arith)

three_digits : (n : ℕ) → n < 1000 → are_digits 3 ((48 + n / 100) ∷ (48 + n / 10 % 10) ∷ (48 + n % 10) ∷ []) ≡ true
three_digits n l = rw (digit_byte (n / 100) (omega arith), digit_byte (n / 10 % 10) (omega arith), digit_byte (n % 10) (omega arith)) refl

three_value : (n : ℕ) → n < 1000 → digits_value 10 ((48 + n / 100) ∷ (48 + n / 10 % 10) ∷ (48 + n % 10) ∷ []) ≡ n
three_value n l = rw (digit_is (n / 100) (omega arith), digit_is (n / 10 % 10) (omega arith), digit_is (n % 10) (omega arith)) (omega arith)

four_digits : (n : ℕ) → n < 10000 → are_digits 4 ((48 + n / 1000) ∷ (48 + n / 100 % 10) ∷ (48 + n / 10 % 10) ∷ (48 + n % 10) ∷ []) ≡ true
four_digits n l = rw (digit_byte (n / 1000) (omega arith), digit_byte (n / 100 % 10) (omega arith), digit_byte (n / 10 % 10) (omega arith), digit_byte (n % 10) (omega arith)) refl

four_value : (n : ℕ) → n < 10000 → digits_value 10 ((48 + n / 1000) ∷ (48 + n / 100 % 10) ∷ (48 + n / 10 % 10) ∷ (48 + n % 10) ∷ []) ≡ n
four_value n l =
    rw (digit_is (n / 1000) (omega arith), digit_is (n / 100 % 10) (omega arith), digit_is (n / 10 % 10) (omega arith), digit_is (n % 10) (omega arith)) (omega arith)

at_most : (n m : ℕ) → nat_le n m ≡ true → n ≤ m
at_most n m e = search rules

below : (n m : ℕ) → nat_lt n m ≡ true → n < m
below n m e = search rules

-- ---- the zone

zone_reads : (z : Zone) → is_zone z ≡ true → (is_zone_text (zone_text z) ≡ true) × (zone_of (zone_text z) ≡ z)
zone_reads Local e = (refl, refl)
zone_reads Utc e = (refl, refl)
zone_reads (Offset true h m) e =
    let t = both (nat_lt h 24) (nat_lt m 60) e in
    let hour : h < 100 = let l = below h 24 t.0 in omega arith in
    let minute : m < 100 = let l = below m 60 t.1 in omega arith in (
      rw (two_digits h hour, two_digits m minute, two_value h hour, two_value m minute, t.0, t.1) refl,
      rw (two_value h hour, two_value m minute) refl,
    )
zone_reads (Offset false h m) e =
    let t = both (nat_lt h 24) (nat_lt m 60) e in
    let hour : h < 100 = let l = below h 24 t.0 in omega arith in
    let minute : m < 100 = let l = below m 60 t.1 in omega arith in (
      rw (two_digits h hour, two_digits m minute, two_value h hour, two_value m minute, t.0, t.1) refl,
      rw (two_value h hour, two_value m minute) refl,
    )

-- ---- the fraction, before a zone

fraction_first : (f : Option ℕ) (z : Zone) → fraction_of (fraction_text f ++ zone_text z) ≡ fraction_text f
fraction_first None Local = refl
fraction_first None Utc = refl
fraction_first None (Offset true h m) = refl
fraction_first None (Offset false h m) = refl
fraction_first (Some n) z = refl

zone_after : (f : Option ℕ) (z : Zone) → drop (length (fraction_text f)) (fraction_text f ++ zone_text z) ≡ zone_text z
zone_after None z = refl
zone_after (Some n) z = refl

fraction_reads : (f : Option ℕ) → is_millis f ≡ true → (is_fraction (fraction_text f) ≡ true) × (millis_of (fraction_text f) ≡ f)
fraction_reads None e = (refl, refl)
fraction_reads (Some n) e = let l : n < 1000 = below n 1000 e in (rw (three_digits n l) refl, ap Some (three_value n l))

-- ---- the moment

if_most : (b : Bool) (x y n : ℕ) → x ≤ n → y ≤ n → (if b then x else y) ≤ n
if_most true x y n p q = p
if_most false x y n p q = q

month_length : (y m : ℕ) → days_in y m ≤ 31
month_length y m =
    if_most (m == 2) _ _ 31 (if_most _ 29 28 31 (omega arith) (omega arith)) (if_most _ 30 31 31 (omega arith) (omega arith))

record Parts (y m d h i s : ℕ) : Type 0 where
  year : y < 10000
  month : m < 100
  day : d < 100
  hour : h < 100
  minute : i < 100
  second : s < 100
  calendar : is_day y m d ≡ true
  hours : nat_lt h 24 ≡ true
  minutes : nat_lt i 60 ≡ true
  seconds : nat_lt s 60 ≡ true

parts_of : (y m d h i s : ℕ) → nat_le y 9999 ≡ true → is_day y m d ≡ true → nat_lt h 24 ≡ true → nat_lt i 60 ≡ true → nat_lt s 60 ≡ true → Parts y m d h i s
parts_of y m d h i s year day hour minute second =
    let a = both (nat_le 1 m && nat_le m 12) (nat_le 1 d && nat_le d (days_in y m)) day in
    let b = both (nat_le 1 m) (nat_le m 12) a.0 in
    let c = both (nat_le 1 d) (nat_le d (days_in y m)) a.1 in
    record {
      year = (let l = at_most y 9999 year in omega arith);
      month = (let l = at_most m 12 b.1 in omega arith);
      day = (let l = at_most d (days_in y m) c.1 in let k = month_length y m in omega arith);
      hour = (let l = below h 24 hour in omega arith);
      minute = (let l = below i 60 minute in omega arith);
      second = (let l = below s 60 second in omega arith);
      calendar = day;
      hours = hour;
      minutes = minute;
      seconds = second;
    }

record Reads (y m d h i s : ℕ) (text : List ℕ) : Type 0 where
  moment : is_moment text ≡ true
  year : number_at 0 4 text ≡ y
  month : number_at 5 2 text ≡ m
  day : number_at 8 2 text ≡ d
  hour : number_at 11 2 text ≡ h
  minute : number_at 14 2 text ≡ i
  second : number_at 17 2 text ≡ s

abbrev clock : ℕ → ℕ → ℕ → ℕ → ℕ → ℕ → DateParts
clock y m d h i s = record { year = y; month = m; day = d; hour = h; minute = i; second = s; millis = None; zone = Local }

moment_reads : (y m d h i s : ℕ) (rest : List ℕ) → Parts y m d h i s → Reads y m d h i s (moment_text (clock y m d h i s) ++ rest)
moment_reads y m d h i s rest p = record {
  moment = rw (four_digits y p.year, two_digits m p.month, two_digits d p.day, two_digits h p.hour, two_digits i p.minute, two_digits s p.second)
      (rw (four_value y p.year, two_value m p.month, two_value d p.day, two_value h p.hour, two_value i p.minute, two_value s p.second)
      (rw (p.calendar, p.hours, p.minutes, p.seconds) refl));
  year = four_value y p.year;
  month = two_value m p.month;
  day = two_value d p.day;
  hour = two_value h p.hour;
  minute = two_value i p.minute;
  second = two_value s p.second;
}

after_moment : (y m d h i s : ℕ) (f : Option ℕ) (z : Zone) → drop 19 (moment_text (clock y m d h i s) ++ (fraction_text f ++ zone_text z)) ≡ fraction_text f ++ zone_text z
after_moment y m d h i s f z = refl

-- ---- the whole

same_parts : (y m d h i s a b c e f g : ℕ) (n k : Option ℕ) (z w : Zone) → a ≡ y → b ≡ m → c ≡ d → e ≡ h → f ≡ i → g ≡ s → k ≡ n → w ≡ z
    → (let x : DateParts = record { year = a; month = b; day = c; hour = e; minute = f; second = g; millis = k; zone = w } in x)
    ≡ (record { year = y; month = m; day = d; hour = h; minute = i; second = s; millis = n; zone = z })
same_parts y m d h i s a b c e f g n k z w p1 p2 p3 p4 p5 p6 p7 p8 = rw (p1, p2, p3, p4, p5, p6, p7, p8) refl

all_three : (a b c : Bool) → a ≡ true → b ≡ true → c ≡ true → (a && (b && c)) ≡ true
all_three a b c p q r = rw (p, q, r) refl

zone_from : (d : DateParts) → drop (19 + length (fraction_text d.millis)) (date_text d) ≡ zone_text d.zone
zone_from d = sym (drop-drop (length (fraction_text d.millis)) 19 (date_text d)) ∙ zone_after d.millis d.zone

pub date_reads : (d : DateParts) → is_date_time d ≡ true → date_time_of (date_text d) ≡ Some d
date_reads d e =
    let a = both (nat_le d.year 9999 && is_day d.year d.month d.day) ((nat_lt d.hour 24 && (nat_lt d.minute 60 && nat_lt d.second 60)) && (is_millis d.millis && is_zone d.zone)) e in
    let b = both (nat_le d.year 9999) (is_day d.year d.month d.day) a.0 in
    let c = both (nat_lt d.hour 24 && (nat_lt d.minute 60 && nat_lt d.second 60)) (is_millis d.millis && is_zone d.zone) a.1 in
    let f = both (nat_lt d.hour 24) (nat_lt d.minute 60 && nat_lt d.second 60) c.0 in
    let g = both (nat_lt d.minute 60) (nat_lt d.second 60) f.1 in
    let h = both (is_millis d.millis) (is_zone d.zone) c.1 in
    let parts = parts_of d.year d.month d.day d.hour d.minute d.second b.0 b.1 f.0 g.0 g.1 in
    let read = moment_reads d.year d.month d.day d.hour d.minute d.second (fraction_text d.millis ++ zone_text d.zone) parts in
    let fraction : fraction_in (date_text d) ≡ fraction_text d.millis = fraction_first d.millis d.zone in
    let zone : zone_in (date_text d) ≡ zone_text d.zone =
    ap (λ t. drop (19 + length t) (date_text d)) fraction ∙ zone_from d in
    let fr = fraction_reads d.millis h.0 in
    let zr = zone_reads d.zone h.1 in
    let test : is_date (date_text d) ≡ true = all_three (is_moment (date_text d)) (is_fraction (fraction_in (date_text d))) (is_zone_text (zone_in (date_text d))) read.moment
    (ap is_fraction fraction ∙ fr.0) (ap is_zone_text zone ∙ zr.0) in
    ap (λ t. if t then Some (date_of (date_text d)) else None) test
    ∙ ap Some (same_parts d.year d.month d.day d.hour d.minute d.second _ _ _ _ _ _ d.millis _ d.zone _ read.year read.month read.day read.hour read.minute read.second
    (ap millis_of fraction ∙ fr.1) (ap zone_of zone ∙ zr.1))

-- ---- what reads as a date and time is its text

record IsDigit (c : ℕ) : Type 0 where
  is : digit_value c + 48 ≡ c
  low : digit_value c < 10

digit_range : (c : ℕ) → is_ascii_digit c ≡ true → (48 ≤ c) × (c ≤ 57)
digit_range c e = (grind (arith, nat_tests), grind (arith, nat_tests))

digit_of : (c : ℕ) → is_ascii_digit c ≡ true → IsDigit c
digit_of c e =
    let r = digit_range c e in
    let low : 48 ≤ c = r.0 in
    let high : c ≤ 57 = r.1 in
    let v : digit_value c + 48 ≡ c = digit_value_digit c (low, high) in
    record { is = v; low = omega (arith, v, high) }

split_two : (n a b x y : ℕ) → n ≡ (0 * 10 + x) * 10 + y → x + 48 ≡ a → y + 48 ≡ b → x < 10 → y < 10 → (((48 + n / 10) ∷ (48 + n % 10) ∷ []) ≡ (a ∷ b ∷ [])) × (n < 100)
split_two n a b x y e p q l m =
    let s : 48 + n / 10 ≡ a = omega arith in
    let t : 48 + n % 10 ≡ b = omega arith in
    (cc, omega arith)

two_again : (p : List ℕ) → are_digits 2 p ≡ true → (((48 + digits_value 10 p / 10) ∷ (48 + digits_value 10 p % 10) ∷ []) ≡ p) × (digits_value 10 p < 100)
two_again [] e = absurd (false≢true e)
two_again (a ∷ []) e = absurd (false≢true e)
two_again (a ∷ b ∷ []) e =
    let pa = and_parts (is_ascii_digit a) (is_ascii_digit b && true) e in
    let pb = and_parts (is_ascii_digit b) true pa.1 in
    let da = digit_of a pa.0 in
    let db = digit_of b pb.0 in
    split_two (digits_value 10 (a ∷ b ∷ [])) a b (digit_value a) (digit_value b) refl da.is db.is da.low db.low
two_again (a ∷ b ∷ c ∷ p) e =
    let n : length (a ∷ b ∷ c ∷ p) ≡ 2 = eqb-true (length (a ∷ b ∷ c ∷ p)) 2 (and_parts (length (a ∷ b ∷ c ∷ p) == 2) (list_all is_ascii_digit (a ∷ b ∷ c ∷ p)) e).0 in
    absurd (omega arith)

split_three : (n a b c x y z : ℕ) → n ≡ ((0 * 10 + x) * 10 + y) * 10 + z → x + 48 ≡ a → y + 48 ≡ b → z + 48 ≡ c → x < 10 → y < 10 → z < 10
    → (((48 + n / 100) ∷ (48 + n / 10 % 10) ∷ (48 + n % 10) ∷ []) ≡ (a ∷ b ∷ c ∷ [])) × (n < 1000)
split_three n a b c x y z e p q r l m k =
    let s : 48 + n / 100 ≡ a = omega arith in
    let t : 48 + n / 10 % 10 ≡ b = omega arith in
    let u : 48 + n % 10 ≡ c = omega arith in
    (cc, omega arith)

three_again : (p : List ℕ) → are_digits 3 p ≡ true → (((48 + digits_value 10 p / 100) ∷ (48 + digits_value 10 p / 10 % 10) ∷ (48 + digits_value 10 p % 10) ∷ []) ≡ p) × (digits_value 10 p < 1000)
three_again [] e = absurd (false≢true e)
three_again (a ∷ []) e = absurd (false≢true e)
three_again (a ∷ b ∷ []) e = absurd (false≢true e)
three_again (a ∷ b ∷ c ∷ []) e =
    let pa = and_parts (is_ascii_digit a) (is_ascii_digit b && (is_ascii_digit c && true)) e in
    let pb = and_parts (is_ascii_digit b) (is_ascii_digit c && true) pa.1 in
    let pc = and_parts (is_ascii_digit c) true pb.1 in
    let da = digit_of a pa.0 in
    let db = digit_of b pb.0 in
    let dc = digit_of c pc.0 in
    split_three (digits_value 10 (a ∷ b ∷ c ∷ [])) a b c (digit_value a) (digit_value b) (digit_value c) refl da.is db.is dc.is da.low db.low dc.low
three_again (a ∷ b ∷ c ∷ d ∷ p) e =
    let n : length (a ∷ b ∷ c ∷ d ∷ p) ≡ 3 = eqb-true (length (a ∷ b ∷ c ∷ d ∷ p)) 3 (and_parts (length (a ∷ b ∷ c ∷ d ∷ p) == 3) (list_all is_ascii_digit (a ∷ b ∷ c ∷ d ∷ p)) e).0 in
    absurd (omega arith)

split_four : (n a b c d x y z w : ℕ) → n ≡ (((0 * 10 + x) * 10 + y) * 10 + z) * 10 + w → x + 48 ≡ a → y + 48 ≡ b → z + 48 ≡ c → w + 48 ≡ d → x < 10 → y < 10 → z < 10 → w < 10
    → (((48 + n / 1000) ∷ (48 + n / 100 % 10) ∷ (48 + n / 10 % 10) ∷ (48 + n % 10) ∷ []) ≡ (a ∷ b ∷ c ∷ d ∷ [])) × (n ≤ 9999)
split_four n a b c d x y z w e p q r s i j k l =
    let t : 48 + n / 1000 ≡ a = omega arith in
    let u : 48 + n / 100 % 10 ≡ b = omega arith in
    let v : 48 + n / 10 % 10 ≡ c = omega arith in
    let o : 48 + n % 10 ≡ d = omega arith in
    (cc, omega arith)

four_again : (p : List ℕ) → are_digits 4 p ≡ true → (((48 + digits_value 10 p / 1000) ∷ (48 + digits_value 10 p / 100 % 10) ∷ (48 + digits_value 10 p / 10 % 10) ∷ (48 + digits_value 10 p % 10) ∷ []) ≡ p) × (digits_value 10 p ≤ 9999)
four_again [] e = absurd (false≢true e)
four_again (a ∷ []) e = absurd (false≢true e)
four_again (a ∷ b ∷ []) e = absurd (false≢true e)
four_again (a ∷ b ∷ c ∷ []) e = absurd (false≢true e)
four_again (a ∷ b ∷ c ∷ d ∷ []) e =
    let pa = and_parts (is_ascii_digit a) (is_ascii_digit b && (is_ascii_digit c && (is_ascii_digit d && true))) e in
    let pb = and_parts (is_ascii_digit b) (is_ascii_digit c && (is_ascii_digit d && true)) pa.1 in
    let pc = and_parts (is_ascii_digit c) (is_ascii_digit d && true) pb.1 in
    let pd = and_parts (is_ascii_digit d) true pc.1 in
    let da = digit_of a pa.0 in
    let db = digit_of b pb.0 in
    let dc = digit_of c pc.0 in
    let dd = digit_of d pd.0 in
    split_four (digits_value 10 (a ∷ b ∷ c ∷ d ∷ [])) a b c d (digit_value a) (digit_value b) (digit_value c) (digit_value d) refl da.is db.is dc.is dd.is da.low db.low dc.low dd.low
four_again (a ∷ b ∷ c ∷ d ∷ f ∷ p) e =
    let n : length (a ∷ b ∷ c ∷ d ∷ f ∷ p) ≡ 4 = eqb-true (length (a ∷ b ∷ c ∷ d ∷ f ∷ p)) 4 (and_parts (length (a ∷ b ∷ c ∷ d ∷ f ∷ p) == 4) (list_all is_ascii_digit (a ∷ b ∷ c ∷ d ∷ f ∷ p)) e).0 in
    absurd (omega arith)

-- a text is cut at a place
cut : (n k : ℕ) (text : List ℕ) → drop n text ≡ part n k text ++ drop (n + k) text
cut n k text = sym (take-append-drop k (drop n text)) ∙ ap (λ (l : List ℕ). take k (drop n text) ++ l) (drop-drop k n text)

before : (p : List ℕ) {a b : List ℕ} → a ≡ b → p ++ a ≡ p ++ b
before p e = ap (λ (l : List ℕ). p ++ l) e

marked : (p q : List ℕ) → bytes_eq p q ≡ true → q ≡ p
marked p q e = sym ((bytes_eq-Decides p q).0 e)

point_first : (p : ℕ) (ds : List ℕ) (n : ℕ) → codes "." ≡ (p ∷ []) → ((48 + n / 100) ∷ (48 + n / 10 % 10) ∷ (48 + n % 10) ∷ []) ≡ ds → (46 ∷ (48 + n / 100) ∷ (48 + n / 10 % 10) ∷ (48 + n % 10) ∷ []) ≡ (p ∷ ds)
point_first p ds n e f = ap (λ (l : List ℕ). l ++ ((48 + n / 100) ∷ (48 + n / 10 % 10) ∷ (48 + n % 10) ∷ [])) e ∙ ap (λ (l : List ℕ). p ∷ l) f

or_left_true : (a : Bool) → (a || false) ≡ true → a ≡ true
or_left_true true e = refl
or_left_true false e = e

five_parts : (a b c d p q r s : List ℕ) → a ≡ p → b ≡ q → c ≡ r → d ≡ s → a ++ (b ++ (c ++ (d ++ []))) ≡ p ++ (q ++ (r ++ (s ++ [])))
five_parts a b c d p q r s e f g h = rw (e, f, g, h) refl

eleven_parts : (a1 b1 a2 b2 a3 b3 a4 b4 a5 b5 a6 p1 q1 p2 q2 p3 q3 p4 q4 p5 q5 p6 rest : List ℕ) → a1 ≡ p1 → b1 ≡ q1 → a2 ≡ p2 → b2 ≡ q2 → a3 ≡ p3 → b3 ≡ q3 → a4 ≡ p4 → b4 ≡ q4 → a5 ≡ p5 → b5 ≡ q5 → a6 ≡ p6
    → a1 ++ (b1 ++ (a2 ++ (b2 ++ (a3 ++ (b3 ++ (a4 ++ (b4 ++ (a5 ++ (b5 ++ (a6 ++ rest)))))))))) ≡ p1 ++ (q1 ++ (p2 ++ (q2 ++ (p3 ++ (q3 ++ (p4 ++ (q4 ++ (p5 ++ (q5 ++ (p6 ++ rest))))))))))
eleven_parts a1 b1 a2 b2 a3 b3 a4 b4 a5 b5 a6 p1 q1 p2 q2 p3 q3 p4 q4 p5 q5 p6 rest e1 e2 e3 e4 e5 e6 e7 e8 e9 e10 e11 = rw (e1, e2, e3, e4, e5, e6, e7, e8, e9, e10, e11) refl

-- ---- the fraction and the zone

fraction_by : (t : Bool) (r : List ℕ) → bytes_eq (take 1 r) (codes ".") ≡ t → is_fraction (if t then take 4 r else []) ≡ true
    → (fraction_text (millis_of (if t then take 4 r else [])) ≡ (if t then take 4 r else [])) × (is_millis (millis_of (if t then take 4 r else [])) ≡ true)
fraction_by false r e f = (refl, refl)
fraction_by true [] e f = absurd (false≢true e)
fraction_by true (p ∷ r) e f =
    let point : codes "." ≡ (p ∷ []) = marked (p ∷ []) (codes ".") e in
    let again = three_again (take 3 r) f in
    (point_first p (take 3 r) (digits_value 10 (take 3 r)) point again.0, lt-ltb (digits_value 10 (take 3 r)) 1000 again.1)

sign_by : (t : Bool) (p : List ℕ) → bytes_eq p (codes "-") ≡ t → (bytes_eq p (codes "+") || t) ≡ true → ((if t then 45 else 43) ∷ []) ≡ p
sign_by true p e f = marked p (codes "-") e
sign_by false p e f = marked p (codes "+") (or_left_true (bytes_eq p (codes "+")) f)

offset_again : (z : List ℕ) → is_offset z ≡ true → (zone_text (offset_in z) ≡ z) × (is_zone (offset_in z) ≡ true)
offset_again z e =
    let a = and_parts (length z == 6) ((bytes_eq (part 0 1 z) (codes "+") || bytes_eq (part 0 1 z) (codes "-")) && ((are_digits 2 (part 1 2 z) && (bytes_eq (part 3 1 z) (codes ":") && are_digits 2 (part 4 2 z))) && (nat_lt (number_at 1 2 z) 24 && nat_lt (number_at 4 2 z) 60))) e in
    let b = and_parts (bytes_eq (part 0 1 z) (codes "+") || bytes_eq (part 0 1 z) (codes "-")) ((are_digits 2 (part 1 2 z) && (bytes_eq (part 3 1 z) (codes ":") && are_digits 2 (part 4 2 z))) && (nat_lt (number_at 1 2 z) 24 && nat_lt (number_at 4 2 z) 60)) a.1 in
    let c = and_parts (are_digits 2 (part 1 2 z) && (bytes_eq (part 3 1 z) (codes ":") && are_digits 2 (part 4 2 z))) (nat_lt (number_at 1 2 z) 24 && nat_lt (number_at 4 2 z) 60) b.1 in
    let d = and_parts (are_digits 2 (part 1 2 z)) (bytes_eq (part 3 1 z) (codes ":") && are_digits 2 (part 4 2 z)) c.0 in
    let f = and_parts (bytes_eq (part 3 1 z) (codes ":")) (are_digits 2 (part 4 2 z)) d.1 in
    let sign = sign_by (bytes_eq (part 0 1 z) (codes "-")) (part 0 1 z) refl b.0 in
    let hours = (two_again (part 1 2 z) d.0).0 in
    let colon = marked (part 3 1 z) (codes ":") f.0 in
    let minutes = (two_again (part 4 2 z) f.1).0 in
    let six : length z ≡ 6 = eqb-true (length z) 6 a.0 in
    let end : part 4 2 z ++ [] ≡ part 4 2 z ++ drop 6 z = before (part 4 2 z) (sym (drop_all 6 z (omega arith))) in (
      five_parts _ _ _ _ _ _ _ _ sign hours colon minutes ∙ (before (part 0 1 z) (before (part 1 2 z) (before (part 3 1 z) end))
          ∙ sym (cut 0 1 z ∙ before (part 0 1 z) (cut 1 2 z ∙ before (part 1 2 z) (cut 3 1 z ∙ before (part 3 1 z) (cut 4 2 z))))),
      c.1,
    )

zone_by : (t u : Bool) (z : List ℕ) → bytes_eq z [] ≡ t → bytes_eq z (codes "Z") ≡ u → (t || (u || is_offset z)) ≡ true
    → (zone_text (if t then Local else if u then Utc else offset_in z) ≡ z) × (is_zone (if t then Local else if u then Utc else offset_in z) ≡ true)
zone_by true u z e f g = (marked z [] e, refl)
zone_by false true z e f g = (marked z (codes "Z") f, refl)
zone_by false false z e f g = offset_again z g

-- ---- the whole

record Marks (text : List ℕ) : Type 0 where
  year : codes "-" ≡ part 4 1 text
  month : codes "-" ≡ part 7 1 text
  day : codes "T" ≡ part 10 1 text
  hour : codes ":" ≡ part 13 1 text
  minute : codes ":" ≡ part 16 1 text

marks_of : (text : List ℕ) → has_marks text ≡ true → Marks text
marks_of text e =
    let m = bytes_eq (part 16 1 text) (codes ":") in
    let h = bytes_eq (part 13 1 text) (codes ":") && m in
    let d = bytes_eq (part 10 1 text) (codes "T") && h in
    let n = bytes_eq (part 7 1 text) (codes "-") && d in
    let a = and_parts (bytes_eq (part 4 1 text) (codes "-")) n e in
    let b = and_parts (bytes_eq (part 7 1 text) (codes "-")) d a.1 in
    let c = and_parts (bytes_eq (part 10 1 text) (codes "T")) h b.1 in
    let f = and_parts (bytes_eq (part 13 1 text) (codes ":")) m c.1 in
    record {
      year = marked (part 4 1 text) (codes "-") a.0;
      month = marked (part 7 1 text) (codes "-") b.0;
      day = marked (part 10 1 text) (codes "T") c.0;
      hour = marked (part 13 1 text) (codes ":") f.0;
      minute = marked (part 16 1 text) (codes ":") f.1;
    }

record Digits (text : List ℕ) : Type 0 where
  year : are_digits 4 (part 0 4 text) ≡ true
  month : are_digits 2 (part 5 2 text) ≡ true
  day : are_digits 2 (part 8 2 text) ≡ true
  hour : are_digits 2 (part 11 2 text) ≡ true
  minute : are_digits 2 (part 14 2 text) ≡ true
  second : are_digits 2 (part 17 2 text) ≡ true

digits_of : (text : List ℕ) → has_digits text ≡ true → Digits text
digits_of text e =
    let s = are_digits 2 (part 17 2 text) in
    let m = are_digits 2 (part 14 2 text) && s in
    let h = are_digits 2 (part 11 2 text) && m in
    let d = are_digits 2 (part 8 2 text) && h in
    let n = are_digits 2 (part 5 2 text) && d in
    let a = and_parts (are_digits 4 (part 0 4 text)) n e in
    let b = and_parts (are_digits 2 (part 5 2 text)) d a.1 in
    let c = and_parts (are_digits 2 (part 8 2 text)) h b.1 in
    let f = and_parts (are_digits 2 (part 11 2 text)) m c.1 in
    let g = and_parts (are_digits 2 (part 14 2 text)) s f.1 in
    record { year = a.0; month = b.0; day = c.0; hour = f.0; minute = g.0; second = g.1 }

moment_again : (text rest : List ℕ) → Digits text → Marks text → moment_text (date_of text) ++ rest
    ≡ part 0 4 text ++ (part 4 1 text ++ (part 5 2 text ++ (part 7 1 text ++ (part 8 2 text ++ (part 10 1 text ++ (part 11 2 text ++ (part 13 1 text ++ (part 14 2 text ++ (part 16 1 text ++ (part 17 2 text ++ rest))))))))))
moment_again text rest d m =
    eleven_parts _ _ _ _ _ _ _ _ _ _ _ _ _ _ _ _ _ _ _ _ _ _ rest (four_again (part 0 4 text) d.year).0 m.year (two_again (part 5 2 text) d.month).0 m.month (two_again (part 8 2 text) d.day).0 m.day
    (two_again (part 11 2 text) d.hour).0 m.hour (two_again (part 14 2 text) d.minute).0 m.minute (two_again (part 17 2 text) d.second).0

whole_text : (text : List ℕ) → text ≡ part 0 4 text ++ (part 4 1 text ++ (part 5 2 text ++ (part 7 1 text ++ (part 8 2 text ++ (part 10 1 text ++ (part 11 2 text ++ (part 13 1 text ++ (part 14 2 text ++ (part 16 1 text ++ (part 17 2 text ++ drop 19 text))))))))))
whole_text text =
    cut 0 4 text ∙ before (part 0 4 text) (cut 4 1 text ∙ before (part 4 1 text) (cut 5 2 text ∙ before (part 5 2 text) (cut 7 1 text ∙ before (part 7 1 text) (cut 8 2 text ∙ before (part 8 2 text)
    (cut 10 1 text ∙ before (part 10 1 text) (cut 11 2 text ∙ before (part 11 2 text) (cut 13 1 text ∙ before (part 13 1 text) (cut 14 2 text ∙ before (part 14 2 text) (cut 16 1 text ∙ before (part 16 1 text) (cut 17 2 text))))))))))

front_of_take : (n : ℕ) (r : List ℕ) → take n r ++ drop (length (take n r)) r ≡ r
front_of_take zero r = refl
front_of_take (suc n) [] = refl
front_of_take (suc n) (x ∷ r) = ap (λ (l : List ℕ). x ∷ l) (front_of_take n r)

fraction_cut : (t : Bool) (r : List ℕ) → is_fraction (if t then take 4 r else []) ≡ true → (if t then take 4 r else []) ++ drop (length (if t then take 4 r else [])) r ≡ r
fraction_cut false r e = refl
fraction_cut true r e = front_of_take 4 r

rest_again : (text : List ℕ) → is_fraction (fraction_in text) ≡ true → is_zone_text (zone_in text) ≡ true → fraction_text (millis_of (fraction_in text)) ++ zone_text (zone_of (zone_in text)) ≡ drop 19 text
rest_again text f z =
    let r : List ℕ = drop 19 text in
    let t : Bool = bytes_eq (take 1 r) (codes ".") in
    let a = (fraction_by t r refl f).0 in
    let b = (zone_by (bytes_eq (zone_in text) []) (bytes_eq (zone_in text) (codes "Z")) (zone_in text) refl refl z).0 in
    ap (λ (l : List ℕ). l ++ zone_text (zone_of (zone_in text))) a ∙ (before (fraction_in text) (b ∙ sym (drop-drop (length (fraction_in text)) 19 text)) ∙ fraction_cut t r f)

date_here : (text : List ℕ) → is_date text ≡ true → (is_date_time (date_of text) ≡ true) × (date_text (date_of text) ≡ text)
date_here text e =
    let a = and_parts (is_moment text) (is_fraction (fraction_in text) && is_zone_text (zone_in text)) e in
    let b = and_parts (has_digits text) (has_marks text && has_ranges text) a.0 in
    let c = and_parts (has_marks text) (has_ranges text) b.1 in
    let z = and_parts (is_fraction (fraction_in text)) (is_zone_text (zone_in text)) a.1 in
    let day = is_day (number_at 0 4 text) (number_at 5 2 text) (number_at 8 2 text) in
    let r = and_parts day (nat_lt (number_at 11 2 text) 24 && (nat_lt (number_at 14 2 text) 60 && nat_lt (number_at 17 2 text) 60)) c.1 in
    let d = digits_of text b.0 in
    let m = marks_of text c.0 in
    let year : nat_le (number_at 0 4 text) 9999 ≡ true = le-leb (number_at 0 4 text) 9999 (four_again (part 0 4 text) d.year).1 in
    let millis = (fraction_by (bytes_eq (take 1 (drop 19 text)) (codes ".")) (drop 19 text) refl z.0).1 in
    let zone = (zone_by (bytes_eq (zone_in text) []) (bytes_eq (zone_in text) (codes "Z")) (zone_in text) refl refl z.1).1 in (
      and_from _ _ (and_from _ _ year r.0) (and_from _ _ r.1 (and_from _ _ millis zone)),
      moment_again text (fraction_text (millis_of (fraction_in text)) ++ zone_text (zone_of (zone_in text))) d m
          ∙ (before (part 0 4 text) (before (part 4 1 text) (before (part 5 2 text) (before (part 7 1 text) (before (part 8 2 text) (before (part 10 1 text) (before (part 11 2 text) (before (part 13 1 text) (before (part 14 2 text) (before (part 16 1 text) (before (part 17 2 text) (rest_again text z.0 z.1)))))))))))
          ∙ sym (whole_text text)),
    )

pub date_only : (text : List ℕ) (d : DateParts) → date_time_of text ≡ Some d → (is_date_time d ≡ true) × (date_text d ≡ text)
date_only text d is =
    let q = cond_some (is_date text) (date_of text) d is in
    subst (λ (e : DateParts). (is_date_time e ≡ true) × (date_text e ≡ text)) q.1 (date_here text q.0)
