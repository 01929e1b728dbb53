-- The parts of a moment's spelling.
use Rattle.std.proofs.Common.{◌≡◌, ℕ, ◌<◌, Bool, true, false, List, refl, Option, arith}
use Rattle.std.specs.Prelude.{◌&&◌, ◌||◌, nat_lt, nat_le, codes}
use Rattle.std.specs.Str.{bytes_eq}
use Rattle.std.proofs.lemmas.Bool.Decides.{nat_tests}
use Rattle.cap_leaf.specs.declared.zone.Zone.{Zone}
use Rattle.cap_leaf.specs.Date.{is_day, is_millis, is_zone, is_date_time}
use Rattle.cap_leaf.specs.DateText.{part, number_at, are_digits, has_digits, has_marks, has_ranges, is_moment, is_offset, is_zone_text}

pub both : (a b : Bool) → (a && b) ≡ true → (a ≡ true) × (b ≡ true)
both true true e = (refl, refl)
both true false e = (refl, e)
both false b e = (e, let no : false ≡ true = e in cc)

pub second_of : (a b : Bool) → (a || b) ≡ true → a ≡ false → b ≡ true
second_of true b e f = cc
second_of false b e f = e

-- the six numbers of a moment
pub record AreDigits (text : List ℕ) : Type 0 where
  pub year : are_digits 4 (part 0 4 text) ≡ true
  pub month : are_digits 2 (part 5 2 text) ≡ true
  pub day : are_digits 2 (part 8 2 text) ≡ true
  pub hour : are_digits 2 (part 11 2 text) ≡ true
  pub minute : are_digits 2 (part 14 2 text) ≡ true
  pub second : are_digits 2 (part 17 2 text) ≡ true

pub digits_of : (text : List ℕ) → has_digits text ≡ true → AreDigits text
digits_of text e =
    let rest5 = are_digits 2 (part 17 2 text) in
    let rest4 = are_digits 2 (part 14 2 text) && rest5 in
    let rest3 = are_digits 2 (part 11 2 text) && rest4 in
    let rest2 = are_digits 2 (part 8 2 text) && rest3 in
    let rest1 = are_digits 2 (part 5 2 text) && rest2 in
    let a = both (are_digits 4 (part 0 4 text)) rest1 e in
    let b = both (are_digits 2 (part 5 2 text)) rest2 a.1 in
    let c = both (are_digits 2 (part 8 2 text)) rest3 b.1 in
    let d = both (are_digits 2 (part 11 2 text)) rest4 c.1 in
    let f = both (are_digits 2 (part 14 2 text)) rest5 d.1 in
    record { year = a.0; month = b.0; day = c.0; hour = d.0; minute = f.0; second = f.1 }

-- its ranges
pub record InRanges (text : List ℕ) : Type 0 where
  pub day : is_day (number_at 0 4 text) (number_at 5 2 text) (number_at 8 2 text) ≡ true
  pub hour : nat_lt (number_at 11 2 text) 24 ≡ true
  pub minute : nat_lt (number_at 14 2 text) 60 ≡ true
  pub second : nat_lt (number_at 17 2 text) 60 ≡ true

pub ranges_of : (text : List ℕ) → has_ranges text ≡ true → InRanges text
ranges_of text e =
    let low = nat_lt (number_at 14 2 text) 60 && nat_lt (number_at 17 2 text) 60 in
    let a = both (is_day (number_at 0 4 text) (number_at 5 2 text) (number_at 8 2 text)) (nat_lt (number_at 11 2 text) 24 && low) e in
    let b = both (nat_lt (number_at 11 2 text) 24) low a.1 in
    let c = both (nat_lt (number_at 14 2 text) 60) (nat_lt (number_at 17 2 text) 60) b.1 in
    record { day = a.0; hour = b.0; minute = c.0; second = c.1 }

pub record IsMoment (text : List ℕ) : Type 0 where
  pub digits : AreDigits text
  pub marks : has_marks text ≡ true
  pub ranges : InRanges text

pub moment_of : (text : List ℕ) → is_moment text ≡ true → IsMoment text
moment_of text e =
    let a = both (has_digits text) (has_marks text && has_ranges text) e in
    let b = both (has_marks text) (has_ranges text) a.1 in
    record { digits = digits_of text a.0; marks = b.0; ranges = ranges_of text b.1 }

-- an offset's numbers
pub record IsOffset (text : List ℕ) : Type 0 where
  pub hours : are_digits 2 (part 1 2 text) ≡ true
  pub minutes : are_digits 2 (part 4 2 text) ≡ true
  pub hour : nat_lt (number_at 1 2 text) 24 ≡ true
  pub minute : nat_lt (number_at 4 2 text) 60 ≡ true

pub offset_of : (text : List ℕ) → is_offset text ≡ true → IsOffset text
offset_of text e =
    let sign = bytes_eq (part 0 1 text) (codes "+") || bytes_eq (part 0 1 text) (codes "-") in
    let digits = are_digits 2 (part 1 2 text) && (bytes_eq (part 3 1 text) (codes ":") && are_digits 2 (part 4 2 text)) in
    let low = nat_lt (number_at 1 2 text) 24 && nat_lt (number_at 4 2 text) 60 in
    let a = both _ (sign && (digits && low)) e in
    let b = both sign (digits && low) a.1 in
    let c = both digits low b.1 in
    let d = both (are_digits 2 (part 1 2 text)) (bytes_eq (part 3 1 text) (codes ":") && are_digits 2 (part 4 2 text)) c.0 in
    let f = both (bytes_eq (part 3 1 text) (codes ":")) (are_digits 2 (part 4 2 text)) d.1 in
    let g = both (nat_lt (number_at 1 2 text) 24) (nat_lt (number_at 4 2 text) 60) c.1 in
    record { hours = d.0; minutes = f.1; hour = g.0; minute = g.1 }

pub other_zone : (text : List ℕ) → is_zone_text text ≡ true → bytes_eq text (codes "") ≡ false → bytes_eq text (codes "Z") ≡ false → is_offset text ≡ true
other_zone text e f g = (second_of (bytes_eq text (codes "Z")) (is_offset text) (second_of (bytes_eq text (codes "")) (bytes_eq text (codes "Z") || is_offset text) e f) g)

-- the parts of a date and time, each in its range
pub all_parts : (y m d h i s : ℕ) (f : Option ℕ) (z : Zone) → y < 10000 → is_day y m d ≡ true → nat_lt h 24 ≡ true → nat_lt i 60 ≡ true → nat_lt s 60 ≡ true
    → is_millis f ≡ true → is_zone z ≡ true → is_date_time (record { year = y; month = m; day = d; hour = h; minute = i; second = s; millis = f; zone = z }) ≡ true
all_parts y m d h i s f z year day hour minute second millis zone =
    let low : nat_le y 9999 ≡ true = grind (arith, nat_tests) in rw (low, day, hour, minute, second, millis, zone) refl
