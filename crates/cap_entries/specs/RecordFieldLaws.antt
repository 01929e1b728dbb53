-- What the fields of records keep, by the types of their values.
use Rattle.std.proofs.Common.{◌≡◌, ℕ, ◌+◌, ◌^◌, ◌≤◌, ◌<◌, true, List, [], ◌++◌, length, refl, sym, ◌∙◌, ap, subst, arith, lt-ltb, ltb-true, le-leb, leb-true, eqb-true, eq-eqb, Some, None, Option, length-append}
use Rattle.std.specs.Prelude.{◌&&◌, ◌==◌, nat_le, Bool}
use Rattle.std.specs.List.{list_all}
use Rattle.std.specs.Char.{is_ascii_digit}
use Rattle.std.proofs.lemmas.Bool.{and_parts, and_from}
use Rattle.cap_base.specs.Text.{is_run, is_ident_byte, is_code_byte, is_ident, is_account, is_code6}
use Rattle.cap_base.specs.declared.parameters.Row.{Row}
use Rattle.cap_leaf.specs.Date.{DateParts, is_date_time}
use Rattle.cap_leaf.specs.DateText.{date_time_of}
use Rattle.cap_leaf.specs.Canonical.{moment_text, fraction_text, zone_text, date_text}
use Rattle.cap_leaf.specs.declared.zone.Zone.{Zone}
use Rattle.cap_leaf.specs.declared.zone.Zone.TheVariants.{Local, Utc, Offset}
use Rattle.cap_entries.specs.Lists.{is_prefix}
use Rattle.cap_entries.specs.RecordParts.{FieldAt, read_as, is_byte, is_number, bytes_at, small_at, number_at, text_at, pair_at, small_bytes, number_bytes, text_bytes}
use Rattle.cap_entries.specs.RecordPartsLaws.{IsField, pair_field, read_field, test_field, made_field, bytes_field, small_field, number_field, is_text, text_field}
use Rattle.cap_entries.specs.RecordField.{is_count, is_amount, is_share, is_block, is_row, count_at, amount_at, share_at, ident_at, account_at, date_at, code_at, prefix_at, row_at, row_of, date_bytes, six_bytes, row_bytes}
use Rattle.cap_entries.specs.RecordDates.{date_reads, date_only}

-- a test that bounds a number keeps it within eight bytes, or within one
within_number : (n most : ℕ) → most < 2 ^ 64 → n ≤ most → is_number n ≡ true
within_number n most low h = lt-ltb n (2 ^ 64) (omega arith)

within_byte : (n most : ℕ) → most < 256 → n ≤ most → is_byte n ≡ true
within_byte n most low h = lt-ltb n 256 (omega arith)

pub count_field : IsField count_at is_count number_bytes
unfolding count_at
count_field = test_field number_at is_number number_bytes number_field is_count is_count (λ n good. (within_number n 9999999999 (omega arith) (leb-true n 9999999999 good), good)) (λ n fit good. good)

amount_most : (n : ℕ) → is_amount n ≡ true → n ≤ 999999999999
amount_most n good = leb-true n 999999999999 (and_parts (nat_le 1 n) (nat_le n 999999999999) good).1

pub amount_field : IsField amount_at is_amount number_bytes
unfolding amount_at
amount_field = test_field number_at is_number number_bytes number_field is_amount is_amount (λ n good. (within_number n 999999999999 (omega arith) (amount_most n good), good)) (λ n fit good. good)

share_most : (n : ℕ) → is_share n ≡ true → n ≤ 16
share_most n good = leb-true n 16 (and_parts (nat_le 1 n) (nat_le n 16) good).1

pub share_field : IsField share_at is_share small_bytes
unfolding share_at
share_field = test_field small_at is_byte small_bytes small_field is_share is_share (λ n good. (within_byte n 16 (omega arith) (share_most n good), good)) (λ n fit good. good)

run_length : (least most : ℕ) (test : ℕ → Bool) (text : List ℕ) → is_run least most test text ≡ true → (least ≤ length text) × (length text ≤ most)
run_length least most test text run =
    let ends = and_parts (nat_le least (length text)) (nat_le (length text) most) (and_parts (nat_le least (length text) && nat_le (length text) most) (list_all test text) run).0 in
    (leb-true least (length text) ends.0, leb-true (length text) most ends.1)

pub ident_most : (text : List ℕ) → is_ident text ≡ true → length text ≤ 35
ident_most text good = (run_length 1 35 is_ident_byte text good).1

pub account_most : (text : List ℕ) → is_account text ≡ true → length text ≤ 19
account_most text good = (run_length 8 19 is_ascii_digit text good).1

pub code_six : (text : List ℕ) → is_code6 text ≡ true → length text ≡ 6
code_six text good = let ends = run_length 6 6 is_code_byte text good in omega (arith, ends.0, ends.1)

pub ident_field : IsField ident_at is_ident text_bytes
unfolding ident_at
ident_field = test_field text_at is_text text_bytes text_field is_ident is_ident (λ text good. (within_byte (length text) 35 (omega arith) (ident_most text good), good)) (λ text fit good. good)

pub account_field : IsField account_at is_account text_bytes
unfolding account_at
account_field = test_field text_at is_text text_bytes text_field is_account is_account (λ text good. (within_byte (length text) 19 (omega arith) (account_most text good), good)) (λ text fit good. good)

pub code_field : IsField code_at is_code6 six_bytes
unfolding code_at
code_field = test_field (bytes_at 6) (λ (text : List ℕ). length text == 6) six_bytes (bytes_field 6) is_code6 is_code6 (λ text good. (eq-eqb (length text) 6 (code_six text good), good)) (λ text fit good. good)

pub prefix_field : IsField prefix_at is_block six_bytes
unfolding prefix_at
prefix_field = test_field (bytes_at 6) (λ (text : List ℕ). length text == 6) six_bytes (bytes_field 6) is_prefix is_block (λ text good. and_parts (length text == 6) (is_prefix text) good) (λ text fit good. and_from (length text == 6) (is_prefix text) fit good)

-- a date's text has 19 to 29 bytes
fraction_most : (f : Option ℕ) → length (fraction_text f) ≤ 4
fraction_most None = omega arith
fraction_most (Some n) = omega arith

zone_most : (z : Zone) → length (zone_text z) ≤ 6
zone_most Local = omega arith
zone_most Utc = omega arith
zone_most (Offset minus hours minutes) = omega arith

length_date : (d : DateParts) → length (date_text d) ≡ 19 + (length (fraction_text d.millis) + length (zone_text d.zone))
length_date d = omega (arith, length-append (moment_text d) (fraction_text d.millis ++ zone_text d.zone), length-append (fraction_text d.millis) (zone_text d.zone))

pub date_most : (d : DateParts) → length (date_text d) ≤ 29
date_most d = omega (arith, length_date d, fraction_most d.millis, zone_most d.zone)

pub date_field : IsField date_at is_date_time date_bytes
unfolding date_at
date_field =
    read_field text_at is_text text_bytes text_field date_time_of date_text is_date_time date_bytes
    (record {
      there = λ d good. (within_byte (length (date_text d)) 29 (omega arith) (date_most d), date_reads d good, refl);
      here = λ text d fit is. date_only text d is;
    })

row_spelt : Row → List ℕ × List ℕ
row_spelt row = (row.key, row.value)

pub row_field : IsField row_at is_row row_bytes
unfolding row_at row_spelt
row_field =
    made_field (pair_at ident_at ident_at) (λ (p : List ℕ × List ℕ). is_ident p.0 && is_ident p.1) (λ (p : List ℕ × List ℕ). text_bytes p.0 ++ text_bytes p.1)
    (pair_field ident_at ident_at is_ident is_ident text_bytes text_bytes ident_field ident_field) row_of row_spelt is_row row_bytes
    (λ row good. (good, refl, refl)) (λ p good. (good, refl))
