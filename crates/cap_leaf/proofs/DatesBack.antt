-- What the canonical spelling of a date and time reads as.
use Rattle.std.proofs.Common.{◌≡◌, ℕ, ◌+◌, ◌/◌, ◌%◌, ◌≤◌, ◌<◌, Bool, true, false, List, [], ◌∷◌, ◌++◌, length, drop, refl, sym, ◌∙◌, ap, arith, rules, Option, Some, None}
use Rattle.std.specs.Prelude.{◌&&◌, ◌==◌, nat_le, nat_lt, if◌then◌else◌}
use Rattle.std.specs.Str.Parse.{digits_value}
use Rattle.std.proofs.lemmas.List.{drop-drop}
use Rattle.cap_leaf.specs.declared.zone.Zone.{Zone}
use Rattle.cap_leaf.specs.declared.zone.Zone.TheVariants.{Local, Utc, Offset}
use Rattle.cap_leaf.specs.Date.{DateParts, is_day, days_in, is_millis, is_zone, is_date_time}
use Rattle.cap_leaf.specs.DateText.{number_at, are_digits, is_moment, fraction_of, is_fraction, millis_of, is_zone_text, zone_of, fraction_in, zone_in, is_date, date_of, date_time_of}
use Rattle.cap_leaf.specs.Canonical.{moment_text, fraction_text, zone_text, date_text}
use Rattle.cap_leaf.proofs.Moments.{both}
use Rattle.cap_leaf.proofs.ReadBack.{digit_byte, digit_is}

-- two digits
two_digits : (n : ℕ) → n < 100 → are_digits 2 ((48 + n / 10) ∷ (48 + n % 10) ∷ []) ≡ true
two_digits n l = rw (digit_byte (n / 10) (omega arith), digit_byte (n % 10) (omega arith)) refl

two_value : (n : ℕ) → n < 100 → digits_value 10 ((48 + n / 10) ∷ (48 + n % 10) ∷ []) ≡ n
two_value n l = rw (digit_is (n / 10) (omega arith), digit_is (n % 10) (omega arith)) (omega arith)

three_digits : (n : ℕ) → n < 1000 → are_digits 3 ((48 + n / 100) ∷ (48 + n / 10 % 10) ∷ (48 + n % 10) ∷ []) ≡ true
three_digits n l = rw (digit_byte (n / 100) (omega arith), digit_byte (n / 10 % 10) (omega arith), digit_byte (n % 10) (omega arith)) refl

three_value : (n : ℕ) → n < 1000 → digits_value 10 ((48 + n / 100) ∷ (48 + n / 10 % 10) ∷ (48 + n % 10) ∷ []) ≡ n
three_value n l = rw (digit_is (n / 100) (omega arith), digit_is (n / 10 % 10) (omega arith), digit_is (n % 10) (omega arith)) (omega arith)

four_digits : (n : ℕ) → n < 10000 → are_digits 4 ((48 + n / 1000) ∷ (48 + n / 100 % 10) ∷ (48 + n / 10 % 10) ∷ (48 + n % 10) ∷ []) ≡ true
four_digits n l = rw (digit_byte (n / 1000) (omega arith), digit_byte (n / 100 % 10) (omega arith), digit_byte (n / 10 % 10) (omega arith), digit_byte (n % 10) (omega arith)) refl

four_value : (n : ℕ) → n < 10000 → digits_value 10 ((48 + n / 1000) ∷ (48 + n / 100 % 10) ∷ (48 + n / 10 % 10) ∷ (48 + n % 10) ∷ []) ≡ n
four_value n l =
    rw (digit_is (n / 1000) (omega arith), digit_is (n / 100 % 10) (omega arith), digit_is (n / 10 % 10) (omega arith), digit_is (n % 10) (omega arith)) (omega arith)

at_most : (n m : ℕ) → nat_le n m ≡ true → n ≤ m
at_most n m e = search rules

below : (n m : ℕ) → nat_lt n m ≡ true → n < m
below n m e = search rules

-- ---- the zone

zone_reads : (z : Zone) → is_zone z ≡ true → (is_zone_text (zone_text z) ≡ true) × (zone_of (zone_text z) ≡ z)
zone_reads Local e = (refl, refl)
zone_reads Utc e = (refl, refl)
zone_reads (Offset true h m) e =
    let t = both (nat_lt h 24) (nat_lt m 60) e in
    let hour : h < 100 = let l = below h 24 t.0 in omega arith in
    let minute : m < 100 = let l = below m 60 t.1 in omega arith in (
      rw (two_digits h hour, two_digits m minute, two_value h hour, two_value m minute, t.0, t.1) refl,
      rw (two_value h hour, two_value m minute) refl,
    )
zone_reads (Offset false h m) e =
    let t = both (nat_lt h 24) (nat_lt m 60) e in
    let hour : h < 100 = let l = below h 24 t.0 in omega arith in
    let minute : m < 100 = let l = below m 60 t.1 in omega arith in (
      rw (two_digits h hour, two_digits m minute, two_value h hour, two_value m minute, t.0, t.1) refl,
      rw (two_value h hour, two_value m minute) refl,
    )

-- ---- the fraction, before a zone

fraction_first : (f : Option ℕ) (z : Zone) → fraction_of (fraction_text f ++ zone_text z) ≡ fraction_text f
fraction_first None Local = refl
fraction_first None Utc = refl
fraction_first None (Offset true h m) = refl
fraction_first None (Offset false h m) = refl
fraction_first (Some n) z = refl

zone_after : (f : Option ℕ) (z : Zone) → drop (length (fraction_text f)) (fraction_text f ++ zone_text z) ≡ zone_text z
zone_after None z = refl
zone_after (Some n) z = refl

fraction_reads : (f : Option ℕ) → is_millis f ≡ true → (is_fraction (fraction_text f) ≡ true) × (millis_of (fraction_text f) ≡ f)
fraction_reads None e = (refl, refl)
fraction_reads (Some n) e = let l : n < 1000 = below n 1000 e in (rw (three_digits n l) refl, ap Some (three_value n l))

-- ---- the moment

if_most : (b : Bool) (x y n : ℕ) → x ≤ n → y ≤ n → (if b then x else y) ≤ n
if_most true x y n p q = p
if_most false x y n p q = q

month_length : (y m : ℕ) → days_in y m ≤ 31
month_length y m =
    if_most (m == 2) _ _ 31 (if_most _ 29 28 31 (omega arith) (omega arith)) (if_most _ 30 31 31 (omega arith) (omega arith))

record Parts (y m d h i s : ℕ) : Type 0 where
  year : y < 10000
  month : m < 100
  day : d < 100
  hour : h < 100
  minute : i < 100
  second : s < 100
  calendar : is_day y m d ≡ true
  hours : nat_lt h 24 ≡ true
  minutes : nat_lt i 60 ≡ true
  seconds : nat_lt s 60 ≡ true

parts_of : (y m d h i s : ℕ) → nat_le y 9999 ≡ true → is_day y m d ≡ true → nat_lt h 24 ≡ true → nat_lt i 60 ≡ true → nat_lt s 60 ≡ true → Parts y m d h i s
parts_of y m d h i s year day hour minute second =
    let a = both (nat_le 1 m && nat_le m 12) (nat_le 1 d && nat_le d (days_in y m)) day in
    let b = both (nat_le 1 m) (nat_le m 12) a.0 in
    let c = both (nat_le 1 d) (nat_le d (days_in y m)) a.1 in
    record {
      year = (let l = at_most y 9999 year in omega arith);
      month = (let l = at_most m 12 b.1 in omega arith);
      day = (let l = at_most d (days_in y m) c.1 in let k = month_length y m in omega arith);
      hour = (let l = below h 24 hour in omega arith);
      minute = (let l = below i 60 minute in omega arith);
      second = (let l = below s 60 second in omega arith);
      calendar = day;
      hours = hour;
      minutes = minute;
      seconds = second;
    }

record Reads (y m d h i s : ℕ) (text : List ℕ) : Type 0 where
  moment : is_moment text ≡ true
  year : number_at 0 4 text ≡ y
  month : number_at 5 2 text ≡ m
  day : number_at 8 2 text ≡ d
  hour : number_at 11 2 text ≡ h
  minute : number_at 14 2 text ≡ i
  second : number_at 17 2 text ≡ s

abbrev clock : ℕ → ℕ → ℕ → ℕ → ℕ → ℕ → DateParts
clock y m d h i s = record { year = y; month = m; day = d; hour = h; minute = i; second = s; millis = None; zone = Local }

moment_reads : (y m d h i s : ℕ) (rest : List ℕ) → Parts y m d h i s → Reads y m d h i s (moment_text (clock y m d h i s) ++ rest)
moment_reads y m d h i s rest p = record {
  moment = rw (four_digits y p.year, two_digits m p.month, two_digits d p.day, two_digits h p.hour, two_digits i p.minute, two_digits s p.second)
      (rw (four_value y p.year, two_value m p.month, two_value d p.day, two_value h p.hour, two_value i p.minute, two_value s p.second)
      (rw (p.calendar, p.hours, p.minutes, p.seconds) refl));
  year = four_value y p.year;
  month = two_value m p.month;
  day = two_value d p.day;
  hour = two_value h p.hour;
  minute = two_value i p.minute;
  second = two_value s p.second;
}

after_moment : (y m d h i s : ℕ) (f : Option ℕ) (z : Zone) → drop 19 (moment_text (clock y m d h i s) ++ (fraction_text f ++ zone_text z)) ≡ fraction_text f ++ zone_text z
after_moment y m d h i s f z = refl

-- ---- the whole

same_parts : (y m d h i s a b c e f g : ℕ) (n k : Option ℕ) (z w : Zone) → a ≡ y → b ≡ m → c ≡ d → e ≡ h → f ≡ i → g ≡ s → k ≡ n → w ≡ z
    → (let x : DateParts = record { year = a; month = b; day = c; hour = e; minute = f; second = g; millis = k; zone = w } in x)
    ≡ (record { year = y; month = m; day = d; hour = h; minute = i; second = s; millis = n; zone = z })
same_parts y m d h i s a b c e f g n k z w p1 p2 p3 p4 p5 p6 p7 p8 = rw (p1, p2, p3, p4, p5, p6, p7, p8) refl

all_three : (a b c : Bool) → a ≡ true → b ≡ true → c ≡ true → (a && (b && c)) ≡ true
all_three a b c p q r = rw (p, q, r) refl

zone_from : (d : DateParts) → drop (19 + length (fraction_text d.millis)) (date_text d) ≡ zone_text d.zone
zone_from d = sym (drop-drop (length (fraction_text d.millis)) 19 (date_text d)) ∙ zone_after d.millis d.zone

pub date_reads : (d : DateParts) → is_date_time d ≡ true → date_time_of (date_text d) ≡ Some d
date_reads d e =
    let a = both (nat_le d.year 9999 && is_day d.year d.month d.day) ((nat_lt d.hour 24 && (nat_lt d.minute 60 && nat_lt d.second 60)) && (is_millis d.millis && is_zone d.zone)) e in
    let b = both (nat_le d.year 9999) (is_day d.year d.month d.day) a.0 in
    let c = both (nat_lt d.hour 24 && (nat_lt d.minute 60 && nat_lt d.second 60)) (is_millis d.millis && is_zone d.zone) a.1 in
    let f = both (nat_lt d.hour 24) (nat_lt d.minute 60 && nat_lt d.second 60) c.0 in
    let g = both (nat_lt d.minute 60) (nat_lt d.second 60) f.1 in
    let h = both (is_millis d.millis) (is_zone d.zone) c.1 in
    let parts = parts_of d.year d.month d.day d.hour d.minute d.second b.0 b.1 f.0 g.0 g.1 in
    let read = moment_reads d.year d.month d.day d.hour d.minute d.second (fraction_text d.millis ++ zone_text d.zone) parts in
    let fraction : fraction_in (date_text d) ≡ fraction_text d.millis = fraction_first d.millis d.zone in
    let zone : zone_in (date_text d) ≡ zone_text d.zone =
    ap (λ t. drop (19 + length t) (date_text d)) fraction ∙ zone_from d in
    let fr = fraction_reads d.millis h.0 in
    let zr = zone_reads d.zone h.1 in
    let test : is_date (date_text d) ≡ true = all_three (is_moment (date_text d)) (is_fraction (fraction_in (date_text d))) (is_zone_text (zone_in (date_text d))) read.moment
    (ap is_fraction fraction ∙ fr.0) (ap is_zone_text zone ∙ zr.0) in
    ap (λ t. if t then Some (date_of (date_text d)) else None) test
    ∙ ap Some (same_parts d.year d.month d.day d.hour d.minute d.second _ _ _ _ _ _ d.millis _ d.zone _ read.year read.month read.day read.hour read.minute read.second
    (ap millis_of fraction ∙ fr.1) (ap zone_of zone ∙ zr.1))
