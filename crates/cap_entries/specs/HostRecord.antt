-- The record of each entry of a host's journal.
use Rattle.std.specs.Prelude.{ℕ, Bool, true, false, ◌&&◌, if◌then◌else◌, List, ◌∷◌, ◌++◌, Option, Some, None}
use Rattle.std.specs.List.{list_all}
use Rattle.cap_base.specs.Text.{is_ident, is_account, is_code6}
use Rattle.cap_base.specs.declared.parameters.Row.{Row}
use Rattle.cap_base.specs.declared.item.Totals.{Totals}
use Rattle.cap_base.specs.declared.item.Item.{Item}
use Rattle.cap_base.specs.declared.item.Item.TheVariants.{Sale, Void, Cancel, Close}
use Rattle.cap_leaf.specs.Date.{DateParts, is_date_time}
use Rattle.cap_entries.specs.Rows.{is_row_set}
use Rattle.cap_entries.specs.Settings.{HostSettings, is_host_settings}
use Rattle.cap_entries.specs.declared.host.HostEntry.{HostEntry}
use Rattle.cap_entries.specs.declared.host.HostEntry.TheVariants.{Setup, Took, Published}
use Rattle.cap_entries.specs.RecordParts.{FieldAt, and_next, read_as, as_at, pair_at, choose, nothing_at, is_byte, is_number, small_at, number_at, list_at, number_bytes, text_bytes, list_bytes}
use Rattle.cap_entries.specs.RecordField.{is_count, is_amount, is_block, is_row, count_at, amount_at, ident_at, account_at, date_at, code_at, prefix_at, row_at, date_bytes, six_bytes, row_bytes}

abbrev pub is_totals : Totals → Bool
is_totals t = is_number t.sales && (is_number t.sales_sum && (is_number t.cancels && is_number t.cancels_sum))

abbrev pub is_host_field : HostSettings → Bool
is_host_field s =
    (is_ident s.host && (is_amount s.limit && (list_all is_block s.blocked && (is_date_time s.start && list_all is_ident s.terminals)))) && is_host_settings s

-- what the types of the fields say of an item, and of an entry
abbrev pub has_item_types : Item → Bool
has_item_types (Sale n amount account code) = is_amount amount && (is_account account && is_code6 code)
has_item_types (Void n) = true
has_item_types (Cancel n amount) = is_amount amount
has_item_types (Close p totals) = is_totals totals

abbrev pub are_set_rows : List Row → Bool
are_set_rows rows = is_row_set rows && list_all is_row rows

abbrev pub has_host_types : HostEntry → Bool
has_host_types (Setup settings) = is_host_field settings
has_host_types (Took terminal item) = is_byte terminal && has_item_types item
has_host_types (Published version rows) = are_set_rows rows

abbrev pub item_fits : Item → Bool
item_fits (Sale n amount account code) = is_count n && (is_amount amount && (is_account account && is_code6 code))
item_fits (Void n) = is_count n
item_fits (Cancel n amount) = is_count n && is_amount amount
item_fits (Close p totals) = is_count p && is_totals totals

-- whether an entry fits its record
abbrev pub host_fits : HostEntry → Bool
host_fits (Setup settings) = is_host_field settings
host_fits (Took terminal item) = is_byte terminal && item_fits item
host_fits (Published version rows) = is_count version && are_set_rows rows

-- neither a set-up nor a parameter set
abbrev pub is_took : HostEntry → Bool
is_took (Took terminal item) = true
is_took _ = false

abbrev pub totals_bytes : Totals → List ℕ
totals_bytes t = number_bytes t.sales ++ (number_bytes t.sales_sum ++ (number_bytes t.cancels ++ number_bytes t.cancels_sum))

-- the first byte of an item, and what stands behind it
abbrev pub item_tag : Item → ℕ
item_tag (Sale n amount account code) = 1
item_tag (Void n) = 2
item_tag (Cancel n amount) = 3
item_tag (Close p totals) = 4

abbrev pub item_body : Item → List ℕ
item_body (Sale n amount account code) = number_bytes n ++ (number_bytes amount ++ (text_bytes account ++ six_bytes code))
item_body (Void n) = number_bytes n
item_body (Cancel n amount) = number_bytes n ++ number_bytes amount
item_body (Close p totals) = number_bytes p ++ totals_bytes totals

abbrev pub item_bytes : Item → List ℕ
item_bytes item = item_tag item ∷ item_body item

abbrev pub settings_bytes : HostSettings → List ℕ
settings_bytes s =
    text_bytes s.host ++ (number_bytes s.limit ++ (list_bytes 0 six_bytes s.blocked ++ (number_bytes s.poll ++ (date_bytes s.start ++ list_bytes 0 text_bytes s.terminals))))

-- the first byte of the record of an entry, and what stands behind it
abbrev pub host_tag : HostEntry → ℕ
host_tag (Setup settings) = 65
host_tag (Took terminal item) = 66
host_tag (Published version rows) = 67

abbrev pub host_body : HostEntry → List ℕ
host_body (Setup settings) = settings_bytes settings
host_body (Took terminal item) = terminal ∷ item_bytes item
host_body (Published version rows) = number_bytes version ++ list_bytes 1 row_bytes rows

abbrev pub host_record : HostEntry → List ℕ
host_record entry = host_tag entry ∷ host_body entry

-- ---- what reads

abbrev pub HostFields : Type 0
HostFields = List ℕ × (ℕ × (List (List ℕ) × (ℕ × (DateParts × List (List ℕ)))))

abbrev pub host_settings_of : HostFields → HostSettings
host_settings_of f = record { host = f.0; limit = f.1.0; blocked = f.1.1.0; poll = f.1.1.1.0; start = f.1.1.1.1.0; terminals = f.1.1.1.1.1 }

abbrev pub host_setup_if : HostFields → Option HostEntry
host_setup_if f = if is_host_settings (host_settings_of f) then Some (Setup (host_settings_of f)) else None

abbrev pub host_setup_at : FieldAt HostEntry
host_setup_at bytes at = read_as host_setup_if (pair_at ident_at (pair_at amount_at (pair_at (list_at 0 prefix_at) (pair_at number_at (pair_at date_at (list_at 0 ident_at)))))) bytes at

abbrev pub sale_of : ℕ × (ℕ × (List ℕ × List ℕ)) → Item
sale_of f = Sale f.0 f.1.0 f.1.1.0 f.1.1.1

abbrev pub sale_at : FieldAt Item
sale_at bytes at = as_at sale_of (pair_at count_at (pair_at amount_at (pair_at account_at code_at))) bytes at

abbrev pub cancel_of : ℕ × ℕ → Item
cancel_of f = Cancel f.0 f.1

abbrev pub cancel_at : FieldAt Item
cancel_at bytes at = as_at cancel_of (pair_at count_at amount_at) bytes at

abbrev pub totals_of : ℕ × (ℕ × (ℕ × ℕ)) → Totals
totals_of f = record { sales = f.0; sales_sum = f.1.0; cancels = f.1.1.0; cancels_sum = f.1.1.1 }

abbrev pub close_of : ℕ × (ℕ × (ℕ × (ℕ × ℕ))) → Item
close_of f = Close f.0 (totals_of f.1)

abbrev pub close_at : FieldAt Item
close_at bytes at = as_at close_of (pair_at count_at (pair_at number_at (pair_at number_at (pair_at number_at number_at)))) bytes at

abbrev pub item_behind : ℕ → FieldAt Item
item_behind first = choose first 1 sale_at (choose first 2 (as_at Void count_at) (choose first 3 cancel_at (choose first 4 close_at nothing_at)))

unfoldable pub item_at : FieldAt Item
item_at bytes at = and_next (small_at bytes at) (λ first next. item_behind first bytes next)

abbrev pub took_of : ℕ × Item → HostEntry
took_of f = Took f.0 f.1

abbrev pub took_at : FieldAt HostEntry
took_at bytes at = as_at took_of (pair_at small_at item_at) bytes at

abbrev pub published_if : ℕ × List Row → Option HostEntry
published_if f = if is_row_set f.1 then Some (Published f.0 f.1) else None

abbrev pub published_at : FieldAt HostEntry
published_at bytes at = read_as published_if (pair_at count_at (list_at 1 row_at)) bytes at

-- what stands behind a first byte
abbrev pub host_behind : ℕ → FieldAt HostEntry
host_behind first = choose first 65 host_setup_at (choose first 66 took_at (choose first 67 published_at nothing_at))

abbrev pub host_at : FieldAt HostEntry
host_at bytes at = and_next (small_at bytes at) (λ first next. host_behind first bytes next)

-- the entry whose record stands at the head of some bytes, and its number of bytes
unfoldable pub host_reading : List ℕ → Option (HostEntry × ℕ)
host_reading bytes = host_at bytes 0
