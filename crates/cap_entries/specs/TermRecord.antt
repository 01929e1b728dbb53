-- The record of each entry of a terminal's journal.
use Rattle.std.specs.Prelude.{ℕ, Bool, true, false, ◌&&◌, nat_le, if◌then◌else◌, List, ◌∷◌, ◌++◌, length, Option, Some, None}
use Rattle.std.specs.List.{list_all}
use Rattle.cap_base.specs.Text.{is_ident, is_account, is_code6}
use Rattle.cap_base.specs.declared.parameters.Row.{Row}
use Rattle.cap_base.specs.declared.parameters.ConfigPart.{ConfigPart}
use Rattle.cap_entries.specs.Settings.{TerminalSettings, is_terminal_settings}
use Rattle.cap_entries.specs.declared.terminal.TermEntry.{TermEntry}
use Rattle.cap_entries.specs.declared.terminal.TermEntry.TheVariants.{Setup, Begin, Declined, Completed, Voided, Cancelled, Closed, Acked, Part}
use Rattle.cap_entries.specs.RecordParts.{FieldAt, and_next, read_as, as_at, pair_at, choose, nothing_at, small_at, number_at, list_at, number_bytes, text_bytes, list_bytes}
use Rattle.cap_entries.specs.RecordField.{is_count, is_amount, is_share, is_row, count_at, amount_at, share_at, ident_at, account_at, code_at, row_at, six_bytes, row_bytes}

abbrev pub is_settings_field : TerminalSettings → Bool
is_settings_field s = (is_ident s.terminal && is_ident s.host) && is_terminal_settings s

-- 1 to 16 rows
abbrev pub are_part_rows : List Row → Bool
are_part_rows rows = (nat_le 1 (length rows) && nat_le (length rows) 16) && list_all is_row rows

abbrev pub is_part : ConfigPart → Bool
is_part part = is_count part.version && (is_share part.part && (is_share part.parts && are_part_rows part.rows))

-- what the types of its fields say of an entry
abbrev pub has_term_types : TermEntry → Bool
has_term_types (Setup settings) = is_settings_field settings
has_term_types (Begin n amount account) = is_amount amount && is_account account
has_term_types (Completed n code) = is_code6 code
has_term_types (Part part) = are_part_rows part.rows
has_term_types _ = true

-- whether an entry fits its record
abbrev pub term_fits : TermEntry → Bool
term_fits (Setup settings) = is_settings_field settings
term_fits (Begin n amount account) = is_count n && (is_amount amount && is_account account)
term_fits (Declined n) = is_count n
term_fits (Completed n code) = is_count n && is_code6 code
term_fits (Voided n) = is_count n
term_fits (Cancelled n) = is_count n
term_fits (Closed p) = is_count p
term_fits (Acked m) = is_count m
term_fits (Part part) = is_part part

-- neither a set-up nor a part of a parameter set
abbrev pub is_small_term : TermEntry → Bool
is_small_term (Setup settings) = false
is_small_term (Part part) = false
is_small_term _ = true

-- the version of a part has at most ten digits; of every other entry nothing is said
abbrev pub has_version : TermEntry → Bool
has_version (Part part) = is_count part.version
has_version _ = true

-- the first byte of its record
abbrev pub term_tag : TermEntry → ℕ
term_tag (Setup settings) = 1
term_tag (Begin n amount account) = 2
term_tag (Declined n) = 3
term_tag (Completed n code) = 4
term_tag (Voided n) = 5
term_tag (Cancelled n) = 6
term_tag (Closed p) = 7
term_tag (Acked m) = 8
term_tag (Part part) = 9

-- what stands behind it
abbrev pub term_body : TermEntry → List ℕ
term_body (Setup settings) = text_bytes settings.terminal ++ (text_bytes settings.host ++ (number_bytes settings.max ++ number_bytes settings.floor))
term_body (Begin n amount account) = number_bytes n ++ (number_bytes amount ++ text_bytes account)
term_body (Declined n) = number_bytes n
term_body (Completed n code) = number_bytes n ++ six_bytes code
term_body (Voided n) = number_bytes n
term_body (Cancelled n) = number_bytes n
term_body (Closed p) = number_bytes p
term_body (Acked m) = number_bytes m
term_body (Part part) = number_bytes part.version ++ (part.part ∷ part.parts ∷ list_bytes 0 row_bytes part.rows)

abbrev pub term_record : TermEntry → List ℕ
term_record entry = term_tag entry ∷ term_body entry

-- ---- what reads

abbrev pub settings_of : List ℕ × (List ℕ × (ℕ × ℕ)) → TerminalSettings
settings_of f = record { terminal = f.0; host = f.1.0; max = f.1.1.0; floor = f.1.1.1 }

abbrev pub setup_if : List ℕ × (List ℕ × (ℕ × ℕ)) → Option TermEntry
setup_if f = if is_terminal_settings (settings_of f) then Some (Setup (settings_of f)) else None

abbrev pub setup_at : FieldAt TermEntry
setup_at bytes at = read_as setup_if (pair_at ident_at (pair_at ident_at (pair_at number_at number_at))) bytes at

abbrev pub begin_of : ℕ × (ℕ × List ℕ) → TermEntry
begin_of f = Begin f.0 f.1.0 f.1.1

abbrev pub begin_at : FieldAt TermEntry
begin_at bytes at = as_at begin_of (pair_at count_at (pair_at amount_at account_at)) bytes at

abbrev pub completed_of : ℕ × List ℕ → TermEntry
completed_of f = Completed f.0 f.1

abbrev pub completed_at : FieldAt TermEntry
completed_at bytes at = as_at completed_of (pair_at count_at code_at) bytes at

abbrev pub part_of : ℕ × (ℕ × (ℕ × List Row)) → ConfigPart
part_of f = record { version = f.0; part = f.1.0; parts = f.1.1.0; rows = f.1.1.1 }

abbrev pub part_if : ℕ × (ℕ × (ℕ × List Row)) → Option TermEntry
part_if f = if nat_le 1 (length f.1.1.1) && nat_le (length f.1.1.1) 16 then Some (Part (part_of f)) else None

abbrev pub part_at : FieldAt TermEntry
part_at bytes at = read_as part_if (pair_at count_at (pair_at share_at (pair_at share_at (list_at 0 row_at)))) bytes at

-- what stands behind a first byte
abbrev pub term_behind : ℕ → FieldAt TermEntry
term_behind first =
    choose first 1 setup_at (choose first 2 begin_at (choose first 3 (as_at Declined count_at) (choose first 4 completed_at (choose first 5 (as_at Voided count_at)
    (choose first 6 (as_at Cancelled count_at) (choose first 7 (as_at Closed count_at) (choose first 8 (as_at Acked count_at) (choose first 9 part_at nothing_at))))))))

abbrev pub term_at : FieldAt TermEntry
term_at bytes at = and_next (small_at bytes at) (λ first next. term_behind first bytes next)

-- the entry whose record stands at the head of some bytes, and its number of bytes
unfoldable pub term_reading : List ℕ → Option (TermEntry × ℕ)
term_reading bytes = term_at bytes 0
