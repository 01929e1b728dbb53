-- The fields of records, by the types of their values.
use Rattle.std.specs.Prelude.{ℕ, Bool, ◌&&◌, ◌==◌, nat_le, List, ◌++◌, length, Option, Some, None}
use Rattle.cap_base.specs.Text.{is_ident, ident_of, account_of, code6_of}
use Rattle.cap_base.specs.declared.parameters.Row.{Row}
use Rattle.cap_leaf.specs.declared.leaf.Leaf.{Leaf}
use Rattle.cap_leaf.specs.declared.leaf.Leaf.TheVariants as leaf
use Rattle.cap_leaf.specs.Date.{DateParts}
use Rattle.cap_leaf.specs.DateText.{date_time_of}
use Rattle.cap_leaf.specs.Canonical.{date_text}
use Rattle.cap_entries.specs.Lists.{is_prefix}
use Rattle.cap_entries.specs.RecordParts.{FieldAt, read_as, as_at, pair_at, if_test, bytes_at, small_at, number_at, text_at, text_bytes}

-- the number of a sale, a period, an item or a version: at most ten digits
abbrev pub is_count : ℕ → Bool
is_count n = nat_le n 9999999999

abbrev pub is_amount : ℕ → Bool
is_amount n = nat_le 1 n && nat_le n 999999999999

-- the number of a part, or of the parts, of a parameter set
abbrev pub is_share : ℕ → Bool
is_share n = nat_le 1 n && nat_le n 16

-- six digits
abbrev pub is_block : List ℕ → Bool
is_block prefix = (length prefix == 6) && is_prefix prefix

abbrev pub is_row : Row → Bool
is_row row = is_ident row.key && is_ident row.value

unfoldable pub count_at : FieldAt ℕ
count_at bytes at = read_as (if_test is_count) number_at bytes at

-- an amount: the number of its hundredths
unfoldable pub amount_at : FieldAt ℕ
amount_at bytes at = read_as (if_test is_amount) number_at bytes at

unfoldable pub share_at : FieldAt ℕ
share_at bytes at = read_as (if_test is_share) small_at bytes at

unfoldable pub ident_at : FieldAt (List ℕ)
ident_at bytes at = read_as ident_of text_at bytes at

unfoldable pub account_at : FieldAt (List ℕ)
account_at bytes at = read_as account_of text_at bytes at

-- a date and time: its text
unfoldable pub date_at : FieldAt DateParts
date_at bytes at = read_as date_time_of text_at bytes at

-- the date and time that a leaf is
abbrev pub dated : Leaf → ℕ → Option (DateParts × ℕ)
dated (leaf.DateTime date) end = Some (date, end)
dated _ end = None

abbrev pub date_bytes : DateParts → List ℕ
date_bytes date = text_bytes (date_text date)

-- a code: its six bytes
unfoldable pub code_at : FieldAt (List ℕ)
code_at bytes at = read_as code6_of (bytes_at 6) bytes at

unfoldable pub prefix_at : FieldAt (List ℕ)
prefix_at bytes at = read_as (if_test is_prefix) (bytes_at 6) bytes at

-- six bytes are written as they are
abbrev pub six_bytes : List ℕ → List ℕ
six_bytes six = six

abbrev pub row_of : List ℕ × List ℕ → Row
row_of texts = record { key = texts.0; value = texts.1 }

-- a row: its key and its value
unfoldable pub row_at : FieldAt Row
row_at bytes at = as_at row_of (pair_at ident_at ident_at) bytes at

abbrev pub row_bytes : Row → List ℕ
row_bytes row = text_bytes row.key ++ text_bytes row.value
