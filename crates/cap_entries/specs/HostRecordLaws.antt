-- What the records of a host's entries keep.
use Rattle.std.proofs.Common.{◌≡◌, ℕ, zero, suc, ◌+◌, ◌*◌, ◌^◌, ◌≤◌, ◌<◌, Bool, true, false, List, [], ◌∷◌, ◌++◌, length, map, take, Some, None, Option, refl, sym, ◌∙◌, ap, subst, arith, lt-ltb, ltb-true, le-leb, leb-true, eqb-true, length-append}
use Rattle.std.specs.Prelude.{◌&&◌, ◌||◌, ◌==◌, nat_le, nat_lt, not, bytes_eq, sum}
use Rattle.std.specs.List.{list_all, list_any, flat_map}
use Rattle.std.proofs.lemmas.List.{take_at}
use Rattle.std.proofs.lemmas.List.Sums.{sum_by_from}
use Rattle.std.proofs.lemmas.Bool.{and_parts, and_from, false≢true, cond-true}
use Rattle.std.proofs.lemmas.Option.{cond_some}
use Rattle.cap_base.specs.Text.{is_ident, is_account, is_code6}
use Rattle.cap_base.specs.Fits.{is_number as is_sale_number, fits}
use Rattle.cap_base.specs.declared.parameters.Row.{Row}
use Rattle.cap_base.specs.declared.item.Totals.{Totals}
use Rattle.cap_base.specs.declared.item.Item.{Item}
use Rattle.cap_base.specs.declared.item.Item.TheVariants.{Sale, Void, Cancel, Close}
use Rattle.cap_leaf.specs.Date.{DateParts, is_date_time}
use Rattle.cap_leaf.specs.declared.zone.Zone.TheVariants.{Local}
use Rattle.cap_leaf.specs.Canonical.{date_text}
use Rattle.cap_entries.specs.Lists.{is_idents, is_blocks, is_prefix, are_distinct}
use Rattle.cap_entries.specs.Rows.{is_row_set, first_repeated, is_none}
use Rattle.cap_entries.specs.Settings.{HostSettings, is_host_settings}
use Rattle.cap_entries.specs.declared.host.HostEntry.{HostEntry}
use Rattle.cap_entries.specs.declared.host.HostEntry.TheVariants.{Setup, Took, Published}
use Rattle.cap_entries.specs.Log.{log, published, setup_of}
use Rattle.cap_entries.specs.HostAllowed.{host_allowed_after, host_allowed, all_host_allowed}
use Rattle.cap_entries.specs.HostAllowedLaws.{host_allowed_is}
use Rattle.cap_entries.specs.RecordParts.{FieldAt, choose, nothing_at, as_at, is_byte, is_number, small_at, number_at, list_at, pair_at, small_bytes, number_bytes, text_bytes, list_bytes}
use Rattle.cap_entries.specs.RecordPartsLaws.{IsField, IsBehind, pair_field, read_field, made_field, small_field, number_field, list_field, nothing_behind, choose_behind, tagged_field, length-number_bytes}
use Rattle.cap_entries.specs.RecordField.{is_count, is_amount, is_block, is_row, count_at, amount_at, ident_at, account_at, date_at, code_at, prefix_at, row_at, date_bytes, six_bytes, row_bytes}
use Rattle.cap_entries.specs.RecordFieldLaws.{count_field, amount_field, ident_field, account_field, date_field, code_field, prefix_field, row_field, ident_most, account_most, code_six, date_most}
use Rattle.cap_entries.specs.RecordSizes.{each_most, row_most}
use Rattle.cap_entries.specs.HostRecord.{is_took, is_totals, is_host_field, has_item_types, are_set_rows, has_host_types, item_fits, host_fits, totals_bytes, item_tag, item_body, item_bytes, settings_bytes, host_tag, host_body, host_record, HostFields, host_settings_of, host_setup_if, host_setup_at, sale_of, sale_at, cancel_of, cancel_at, totals_of, close_of, close_at, item_behind, item_at, took_of, took_at, published_if, published_at, host_behind, host_at, host_reading}

-- ---- items

abbrev item_fits_at : ℕ → Item → Bool
item_fits_at byte item = (item_tag item == byte) && item_fits item

abbrev sale_spelt : Item → ℕ × (ℕ × (List ℕ × List ℕ))
sale_spelt (Sale n amount account code) = (n, (amount, (account, code)))
sale_spelt _ = (0, (0, ([], [])))

abbrev sale_fits : ℕ × (ℕ × (List ℕ × List ℕ)) → Bool
sale_fits f = is_count f.0 && (is_amount f.1.0 && (is_account f.1.1.0 && is_code6 f.1.1.1))

abbrev sale_bytes : ℕ × (ℕ × (List ℕ × List ℕ)) → List ℕ
sale_bytes f = number_bytes f.0 ++ (number_bytes f.1.0 ++ (text_bytes f.1.1.0 ++ six_bytes f.1.1.1))

sale_there : (item : Item) → item_fits_at 1 item ≡ true → (sale_fits (sale_spelt item) ≡ true) × (sale_of (sale_spelt item) ≡ item) × (item_body item ≡ sale_bytes (sale_spelt item))
sale_there (Sale n amount account code) good = (good, refl, refl)
sale_there _ good = absurd (false≢true good)

sale_field : IsField sale_at (item_fits_at 1) item_body
sale_field =
    made_field (pair_at count_at (pair_at amount_at (pair_at account_at code_at))) sale_fits sale_bytes
    (pair_field _ _ _ _ _ _ count_field (pair_field _ _ _ _ _ _ amount_field (pair_field _ _ _ _ _ _ account_field code_field)))
    sale_of sale_spelt (item_fits_at 1) item_body sale_there (λ f good. (good, refl))

abbrev void_spelt : Item → ℕ
void_spelt (Void n) = n
void_spelt _ = 0

void_there : (item : Item) → item_fits_at 2 item ≡ true → (is_count (void_spelt item) ≡ true) × (Void (void_spelt item) ≡ item) × (item_body item ≡ number_bytes (void_spelt item))
void_there (Void n) good = (good, refl, refl)
void_there _ good = absurd (false≢true good)

void_field : IsField (as_at Void count_at) (item_fits_at 2) item_body
void_field = made_field count_at is_count number_bytes count_field Void void_spelt (item_fits_at 2) item_body void_there (λ n good. (good, refl))

abbrev cancel_spelt : Item → ℕ × ℕ
cancel_spelt (Cancel n amount) = (n, amount)
cancel_spelt _ = (0, 0)

abbrev cancel_fits : ℕ × ℕ → Bool
cancel_fits f = is_count f.0 && is_amount f.1

abbrev cancel_bytes : ℕ × ℕ → List ℕ
cancel_bytes f = number_bytes f.0 ++ number_bytes f.1

cancel_there : (item : Item) → item_fits_at 3 item ≡ true → (cancel_fits (cancel_spelt item) ≡ true) × (cancel_of (cancel_spelt item) ≡ item) × (item_body item ≡ cancel_bytes (cancel_spelt item))
cancel_there (Cancel n amount) good = (good, refl, refl)
cancel_there _ good = absurd (false≢true good)

cancel_field : IsField cancel_at (item_fits_at 3) item_body
cancel_field =
    made_field (pair_at count_at amount_at) cancel_fits cancel_bytes (pair_field _ _ _ _ _ _ count_field amount_field)
    cancel_of cancel_spelt (item_fits_at 3) item_body cancel_there (λ f good. (good, refl))

abbrev CloseFields : Type 0
CloseFields = ℕ × (ℕ × (ℕ × (ℕ × ℕ)))

abbrev close_spelt : Item → CloseFields
close_spelt (Close p t) = (p, (t.sales, (t.sales_sum, (t.cancels, t.cancels_sum))))
close_spelt _ = (0, (0, (0, (0, 0))))

abbrev close_fits : CloseFields → Bool
close_fits f = is_count f.0 && (is_number f.1.0 && (is_number f.1.1.0 && (is_number f.1.1.1.0 && is_number f.1.1.1.1)))

abbrev close_bytes : CloseFields → List ℕ
close_bytes f = number_bytes f.0 ++ (number_bytes f.1.0 ++ (number_bytes f.1.1.0 ++ (number_bytes f.1.1.1.0 ++ number_bytes f.1.1.1.1)))

close_there : (item : Item) → item_fits_at 4 item ≡ true → (close_fits (close_spelt item) ≡ true) × (close_of (close_spelt item) ≡ item) × (item_body item ≡ close_bytes (close_spelt item))
close_there (Close p t) good = (good, refl, refl)
close_there _ good = absurd (false≢true good)

close_field : IsField close_at (item_fits_at 4) item_body
close_field =
    made_field (pair_at count_at (pair_at number_at (pair_at number_at (pair_at number_at number_at)))) close_fits close_bytes
    (pair_field _ _ _ _ _ _ count_field (pair_field _ _ _ _ _ _ number_field (pair_field _ _ _ _ _ _ number_field (pair_field _ _ _ _ _ _ number_field number_field))))
    close_of close_spelt (item_fits_at 4) item_body close_there (λ f good. (good, refl))

abbrev IR4 : ℕ → FieldAt Item
IR4 first = choose first 4 close_at nothing_at

abbrev IR3 : ℕ → FieldAt Item
IR3 first = choose first 3 cancel_at (IR4 first)

abbrev IR2 : ℕ → FieldAt Item
IR2 first = choose first 2 (as_at Void count_at) (IR3 first)

abbrev IM4 : ℕ → Bool
IM4 first = (first == 4) || false

abbrev IM3 : ℕ → Bool
IM3 first = (first == 3) || IM4 first

abbrev IM2 : ℕ → Bool
IM2 first = (first == 2) || IM3 first

abbrev IM1 : ℕ → Bool
IM1 first = (first == 1) || IM2 first

i_behind4 : IsBehind IR4 IM4 item_tag item_fits item_body
i_behind4 = choose_behind item_tag item_fits item_body 4 close_at close_field (λ (first : ℕ). nothing_at) (λ (first : ℕ). false) (nothing_behind item_tag item_fits item_body)

i_behind3 : IsBehind IR3 IM3 item_tag item_fits item_body
i_behind3 = choose_behind item_tag item_fits item_body 3 cancel_at cancel_field IR4 IM4 i_behind4

i_behind2 : IsBehind IR2 IM2 item_tag item_fits item_body
i_behind2 = choose_behind item_tag item_fits item_body 2 (as_at Void count_at) void_field IR3 IM3 i_behind3

i_behind1 : IsBehind item_behind IM1 item_tag item_fits item_body
i_behind1 = choose_behind item_tag item_fits item_body 1 sale_at sale_field IR2 IM2 i_behind2

item_known : (item : Item) → (IM1 (item_tag item) ≡ true) × (is_byte (item_tag item) ≡ true)
item_known (Sale n amount account code) = (refl, refl)
item_known (Void n) = (refl, refl)
item_known (Cancel n amount) = (refl, refl)
item_known (Close p totals) = (refl, refl)

item_field : IsField item_at item_fits item_bytes
unfolding item_at
item_field = tagged_field item_tag item_fits item_body item_behind IM1 i_behind1 item_known

-- ---- each record

abbrev fits_at : ℕ → HostEntry → Bool
fits_at byte entry = (host_tag entry == byte) && host_fits entry

abbrev no_date : DateParts
no_date = record { year = 0; month = 0; day = 0; hour = 0; minute = 0; second = 0; millis = None; zone = Local }

abbrev setup_spelt : HostEntry → HostFields
setup_spelt (Setup s) = (s.host, (s.limit, (s.blocked, (s.poll, (s.start, s.terminals)))))
setup_spelt _ = ([], (0, ([], (0, (no_date, [])))))

abbrev listed : {A : Type 0} → (A → Bool) → ℕ → List A → Bool
listed test more list = (nat_le more (length list) && nat_lt (length list) (256 + more)) && list_all test list

abbrev setup_fits : HostFields → Bool
setup_fits f = is_ident f.0 && (is_amount f.1.0 && (listed is_block 0 f.1.1.0 && (is_number f.1.1.1.0 && (is_date_time f.1.1.1.1.0 && listed is_ident 0 f.1.1.1.1.1))))

abbrev setup_bytes : HostFields → List ℕ
setup_bytes f = text_bytes f.0 ++ (number_bytes f.1.0 ++ (list_bytes 0 six_bytes f.1.1.0 ++ (number_bytes f.1.1.1.0 ++ (date_bytes f.1.1.1.1.0 ++ list_bytes 0 text_bytes f.1.1.1.1.1))))

record SettingsLow (s : HostSettings) : Type 0 where
  poll : s.poll ≤ 525600
  blocked : length s.blocked ≤ 64
  terminals : length s.terminals ≤ 16

settings_low : (s : HostSettings) → is_host_settings s ≡ true → SettingsLow s
settings_low s good =
    let a = and_parts (is_idents s.terminals && is_blocks s.blocked) (nat_le s.poll 525600 && not (list_any (bytes_eq s.host) s.terminals)) good in
    let b = and_parts (is_idents s.terminals) (is_blocks s.blocked) a.0 in
    let c = and_parts (nat_le s.poll 525600) (not (list_any (bytes_eq s.host) s.terminals)) a.1 in
    let d = and_parts (nat_le 1 (length s.terminals) && nat_le (length s.terminals) 16) (are_distinct s.terminals) b.0 in
    let e = and_parts (nat_le 1 (length s.terminals)) (nat_le (length s.terminals) 16) d.0 in
    let g = and_parts (nat_le (length s.blocked) 64) (list_all is_prefix s.blocked) b.1 in
    record { poll = leb-true s.poll 525600 c.0; blocked = leb-true (length s.blocked) 64 g.0; terminals = leb-true (length s.terminals) 16 e.1 }

listed_all : {A : Type 0} (test : A → Bool) (list : List A) → length list < 256 → list_all test list ≡ true → listed test 0 list ≡ true
listed_all test list few all = and_from _ _ (and_from _ _ (le-leb 0 (length list) (omega arith)) (lt-ltb (length list) 256 few)) all

record HostFieldParts (s : HostSettings) : Type 0 where
  host : is_ident s.host ≡ true
  limit : is_amount s.limit ≡ true
  blocked : list_all is_block s.blocked ≡ true
  start : is_date_time s.start ≡ true
  terminals : list_all is_ident s.terminals ≡ true
  rule : is_host_settings s ≡ true

host_parts : (s : HostSettings) → is_host_field s ≡ true → HostFieldParts s
host_parts s good =
    let t = list_all is_ident s.terminals in
    let d = is_date_time s.start && t in
    let b = list_all is_block s.blocked && d in
    let l = is_amount s.limit && b in
    let a = and_parts (is_ident s.host && l) (is_host_settings s) good in
    let c = and_parts (is_ident s.host) l a.0 in
    let e = and_parts (is_amount s.limit) b c.1 in
    let f = and_parts (list_all is_block s.blocked) d e.1 in
    let g = and_parts (is_date_time s.start) t f.1 in
    record { host = c.0; limit = e.0; blocked = f.0; start = g.0; terminals = g.1; rule = a.1 }

setup_there : (entry : HostEntry) → fits_at 65 entry ≡ true → (setup_fits (setup_spelt entry) ≡ true) × (host_setup_if (setup_spelt entry) ≡ Some entry) × (host_body entry ≡ setup_bytes (setup_spelt entry))
setup_there (Setup s) good =
    let p = host_parts s good in
    let low = settings_low s p.rule in
    let polled : is_number s.poll ≡ true = lt-ltb s.poll (2 ^ 64) (omega (arith, low.poll)) in
    let blocks = listed_all is_block s.blocked (omega (arith, low.blocked)) p.blocked in
    let names = listed_all is_ident s.terminals (omega (arith, low.terminals)) p.terminals in (
      and_from _ _ p.host (and_from _ _ p.limit (and_from _ _ blocks (and_from _ _ polled (and_from _ _ p.start names)))),
      cond-true (is_host_settings s) (Some (Setup s)) None p.rule,
      refl,
    )
setup_there _ good = absurd (false≢true good)

setup_here : (f : HostFields) (entry : HostEntry) → setup_fits f ≡ true → host_setup_if f ≡ Some entry → (fits_at 65 entry ≡ true) × (setup_spelt entry ≡ f)
setup_here f entry fit is =
    let q = cond_some (is_host_settings (host_settings_of f)) (Setup (host_settings_of f)) entry is in
    let blocked = f.1.1.0 in
    let names = f.1.1.1.1.1 in
    let t = listed is_ident 0 names in
    let d = is_date_time f.1.1.1.1.0 && t in
    let n = is_number f.1.1.1.0 && d in
    let b = listed is_block 0 blocked && n in
    let l = is_amount f.1.0 && b in
    let a = and_parts (is_ident f.0) l fit in
    let c = and_parts (is_amount f.1.0) b a.1 in
    let e = and_parts (listed is_block 0 blocked) n c.1 in
    let g = and_parts (is_number f.1.1.1.0) d e.1 in
    let h = and_parts (is_date_time f.1.1.1.1.0) t g.1 in
    let blocks = (and_parts (nat_le 0 (length blocked) && nat_lt (length blocked) (256 + 0)) (list_all is_block blocked) e.0).1 in
    let idents = (and_parts (nat_le 0 (length names) && nat_lt (length names) (256 + 0)) (list_all is_ident names) h.1).1 in
    (subst (λ (v : HostEntry). fits_at 65 v ≡ true) q.1 (and_from _ _ (and_from _ _ a.0 (and_from _ _ c.0 (and_from _ _ blocks (and_from _ _ h.0 idents)))) q.0), ap setup_spelt (sym q.1))

setup_field : IsField host_setup_at (fits_at 65) host_body
setup_field =
    read_field (pair_at ident_at (pair_at amount_at (pair_at (list_at 0 prefix_at) (pair_at number_at (pair_at date_at (list_at 0 ident_at)))))) setup_fits setup_bytes
    (pair_field _ _ _ _ _ _ ident_field (pair_field _ _ _ _ _ _ amount_field (pair_field _ _ _ _ _ _ (list_field prefix_at is_block six_bytes prefix_field 0)
    (pair_field _ _ _ _ _ _ number_field (pair_field _ _ _ _ _ _ date_field (list_field ident_at is_ident text_bytes ident_field 0))))))
    host_setup_if setup_spelt (fits_at 65) host_body (record { there = setup_there; here = setup_here })

abbrev took_spelt : HostEntry → ℕ × Item
took_spelt (Took terminal item) = (terminal, item)
took_spelt _ = (0, Void 0)

abbrev took_fits : ℕ × Item → Bool
took_fits f = is_byte f.0 && item_fits f.1

abbrev took_bytes : ℕ × Item → List ℕ
took_bytes f = small_bytes f.0 ++ item_bytes f.1

took_there : (entry : HostEntry) → fits_at 66 entry ≡ true → (took_fits (took_spelt entry) ≡ true) × (took_of (took_spelt entry) ≡ entry) × (host_body entry ≡ took_bytes (took_spelt entry))
took_there (Took terminal item) good = (good, refl, refl)
took_there _ good = absurd (false≢true good)

took_field : IsField took_at (fits_at 66) host_body
took_field =
    made_field (pair_at small_at item_at) took_fits took_bytes (pair_field _ _ _ _ _ _ small_field item_field)
    took_of took_spelt (fits_at 66) host_body took_there (λ f good. (good, refl))

abbrev published_spelt : HostEntry → ℕ × List Row
published_spelt (Published version rows) = (version, rows)
published_spelt _ = (0, [])

abbrev published_fits : ℕ × List Row → Bool
published_fits f = is_count f.0 && listed is_row 1 f.1

abbrev published_bytes : ℕ × List Row → List ℕ
published_bytes f = number_bytes f.0 ++ list_bytes 1 row_bytes f.1

set_length : (rows : List Row) → is_row_set rows ≡ true → (1 ≤ length rows) × (length rows ≤ 256)
set_length rows good =
    let a = and_parts (nat_le 1 (length rows) && nat_le (length rows) 256) (is_none (first_repeated rows)) good in
    let b = and_parts (nat_le 1 (length rows)) (nat_le (length rows) 256) a.0 in
    (leb-true 1 (length rows) b.0, leb-true (length rows) 256 b.1)

published_there : (entry : HostEntry) → fits_at 67 entry ≡ true → (published_fits (published_spelt entry) ≡ true) × (published_if (published_spelt entry) ≡ Some entry) × (host_body entry ≡ published_bytes (published_spelt entry))
published_there (Published version rows) good =
    let a = and_parts (is_count version) (are_set_rows rows) good in
    let b = and_parts (is_row_set rows) (list_all is_row rows) a.1 in
    let ends = set_length rows b.0 in
    let low : 1 ≤ length rows = ends.0 in
    let high : length rows ≤ 256 = ends.1 in (
      and_from _ _ a.0 (and_from _ _ (and_from _ _ (le-leb 1 (length rows) low) (lt-ltb (length rows) 257 (omega arith))) b.1),
      cond-true (is_row_set rows) (Some (Published version rows)) None b.0,
      refl,
    )
published_there _ good = absurd (false≢true good)

published_here : (f : ℕ × List Row) (entry : HostEntry) → published_fits f ≡ true → published_if f ≡ Some entry → (fits_at 67 entry ≡ true) × (published_spelt entry ≡ f)
published_here f entry fit is =
    let q = cond_some (is_row_set f.1) (Published f.0 f.1) entry is in
    let a = and_parts (is_count f.0) (listed is_row 1 f.1) fit in
    let b = and_parts (nat_le 1 (length f.1) && nat_lt (length f.1) (256 + 1)) (list_all is_row f.1) a.1 in
    (subst (λ (v : HostEntry). fits_at 67 v ≡ true) q.1 (and_from _ _ a.0 (and_from _ _ q.0 b.1)), ap published_spelt (sym q.1))

published_field : IsField published_at (fits_at 67) host_body
published_field =
    read_field (pair_at count_at (list_at 1 row_at)) published_fits published_bytes (pair_field _ _ _ _ _ _ count_field (list_field row_at is_row row_bytes row_field 1))
    published_if published_spelt (fits_at 67) host_body (record { there = published_there; here = published_here })

abbrev HR67 : ℕ → FieldAt HostEntry
HR67 first = choose first 67 published_at nothing_at

abbrev HR66 : ℕ → FieldAt HostEntry
HR66 first = choose first 66 took_at (HR67 first)

abbrev HM67 : ℕ → Bool
HM67 first = (first == 67) || false

abbrev HM66 : ℕ → Bool
HM66 first = (first == 66) || HM67 first

abbrev HM65 : ℕ → Bool
HM65 first = (first == 65) || HM66 first

h_behind67 : IsBehind HR67 HM67 host_tag host_fits host_body
h_behind67 = choose_behind host_tag host_fits host_body 67 published_at published_field (λ (first : ℕ). nothing_at) (λ (first : ℕ). false) (nothing_behind host_tag host_fits host_body)

h_behind66 : IsBehind HR66 HM66 host_tag host_fits host_body
h_behind66 = choose_behind host_tag host_fits host_body 66 took_at took_field HR67 HM67 h_behind67

h_behind65 : IsBehind host_behind HM65 host_tag host_fits host_body
h_behind65 = choose_behind host_tag host_fits host_body 65 host_setup_at setup_field HR66 HM66 h_behind66

host_known : (entry : HostEntry) → (HM65 (host_tag entry) ≡ true) × (is_byte (host_tag entry) ≡ true)
host_known (Setup settings) = (refl, refl)
host_known (Took terminal item) = (refl, refl)
host_known (Published version rows) = (refl, refl)

host_field : IsField host_at host_fits host_record
host_field = tagged_field host_tag host_fits host_body host_behind HM65 h_behind65 host_known

pub host_reads_back : (value : HostEntry) (rest : List ℕ) → host_fits value ≡ true → host_reading (host_record value ++ rest) ≡ Some (value, length (host_record value))
unfolding host_reading
host_reads_back value rest fits =
    host_field.back (host_record value ++ rest) 0 value fits (take_at (host_record value) rest (length (host_record value)) refl)
    ∙ ap (λ (n : ℕ). (let o : Option (HostEntry × ℕ) = Some (value, n) in o)) (let e : 0 + length (host_record value) ≡ length (host_record value) = omega arith in e)

pub host_reads_only : (value : HostEntry) (size : ℕ) (bytes : List ℕ) → host_reading bytes ≡ Some (value, size) → (host_fits value ≡ true) × (size ≡ length (host_record value)) × (take size bytes ≡ host_record value)
unfolding host_reading
host_reads_only value size bytes is =
    let r = host_field.only bytes 0 value size is in
    let e : size ≡ length (host_record value) = omega (arith, r.size) in
    (r.good, e, ap (λ (n : ℕ). take n bytes) e ∙ r.stands)

-- ---- sizes

pub host_record_low : (value : HostEntry) → 1 ≤ length (host_record value)
host_record_low value = omega arith

item_small : (item : Item) → item_fits item ≡ true → length (item_bytes item) ≤ 70
item_small (Sale n amount account code) fits =
    let a = and_parts (is_count n) (is_amount amount && (is_account account && is_code6 code)) fits in
    let b = and_parts (is_amount amount) (is_account account && is_code6 code) a.1 in
    let c = and_parts (is_account account) (is_code6 code) b.1 in
    omega (
      arith,
      account_most account c.0,
      code_six code c.1,
      length-number_bytes n,
      length-number_bytes amount,
      length-append (number_bytes n) (number_bytes amount ++ (text_bytes account ++ code)),
      length-append (number_bytes amount) (text_bytes account ++ code),
      length-append (text_bytes account) code,
    )
item_small (Void n) fits = omega (arith, length-number_bytes n)
item_small (Cancel n amount) fits = omega (arith, length-number_bytes n, length-number_bytes amount, length-append (number_bytes n) (number_bytes amount))
item_small (Close p t) fits =
    let back : List ℕ = number_bytes t.cancels ++ number_bytes t.cancels_sum in
    omega (
      arith,
      length-number_bytes p,
      length-number_bytes t.sales,
      length-number_bytes t.sales_sum,
      length-number_bytes t.cancels,
      length-number_bytes t.cancels_sum,
      length-append (number_bytes p) (totals_bytes t),
      length-append (number_bytes t.sales) (number_bytes t.sales_sum ++ back),
      length-append (number_bytes t.sales_sum) back,
      length-append (number_bytes t.cancels) (number_bytes t.cancels_sum),
    )

pub took_record_small : (value : HostEntry) → is_took value ≡ true → host_fits value ≡ true → length (host_record value) ≤ 72
took_record_small (Setup settings) took fits = absurd (false≢true took)
took_record_small (Took terminal item) took fits =
    let a = and_parts (is_byte terminal) (item_fits item) fits in
    omega (arith, item_small item a.1)
took_record_small (Published version rows) took fits = absurd (false≢true took)

-- entries of so many bytes at most, together
took_sum : (added : List HostEntry) → list_all is_took added ≡ true → list_all host_fits added ≡ true → sum (map (λ entry. length (host_record entry)) added) ≤ 72 * length added
took_sum [] took fits = omega arith
took_sum (entry ∷ added) took fits =
    let a = and_parts (is_took entry) (list_all is_took added) took in
    let b = and_parts (host_fits entry) (list_all host_fits added) fits in
    let sizes : List ℕ = map (λ (e : HostEntry). length (host_record e)) added in
    omega (arith, took_record_small entry a.0 b.0, took_sum added a.1 b.1, sum_by_from (λ (n : ℕ). n) (0 + length (host_record entry)) sizes)

-- up to 100 of them are one group
pub took_group_size : (added : List HostEntry) → list_all is_took added ≡ true → list_all host_fits added ≡ true → length added ≤ 100 → sum (map (λ entry. length (host_record entry)) added) ≤ 65536
took_group_size added took fits few = omega (arith, took_sum added took fits)

block_most : (prefix : List ℕ) → is_block prefix ≡ true → length (six_bytes prefix) ≤ 72
block_most prefix good = omega (arith, eqb-true (length prefix) 6 (and_parts (length prefix == 6) (is_prefix prefix) good).0)

name_most : (name : List ℕ) → is_ident name ≡ true → length (text_bytes name) ≤ 72
name_most name good = omega (arith, ident_most name good)

setup_high : (s : HostSettings) → is_host_field s ≡ true → length (host_record (Setup s)) ≤ 65536
setup_high s good =
    let p = host_parts s good in
    let low = settings_low s p.rule in
    let b : length (flat_map six_bytes s.blocked) ≤ 72 * length s.blocked = each_most six_bytes is_block block_most s.blocked p.blocked in
    let t : length (flat_map text_bytes s.terminals) ≤ 72 * length s.terminals = each_most text_bytes is_ident name_most s.terminals p.terminals in
    let names : List ℕ = list_bytes 0 text_bytes s.terminals in
    let dated : List ℕ = date_bytes s.start ++ names in
    let polled : List ℕ = number_bytes s.poll ++ dated in
    let blocks : List ℕ = list_bytes 0 six_bytes s.blocked ++ polled in
    omega (
      arith,
      b,
      t,
      low.blocked,
      low.terminals,
      ident_most s.host p.host,
      date_most s.start,
      length-number_bytes s.limit,
      length-number_bytes s.poll,
      length-append (text_bytes s.host) (number_bytes s.limit ++ blocks),
      length-append (number_bytes s.limit) blocks,
      length-append (list_bytes 0 six_bytes s.blocked) polled,
      length-append (number_bytes s.poll) dated,
      length-append (date_bytes s.start) names,
    )

published_high : (version : ℕ) (rows : List Row) → host_fits (Published version rows) ≡ true → length (host_record (Published version rows)) ≤ 65536
published_high version rows good =
    let a = and_parts (is_count version) (are_set_rows rows) good in
    let b = and_parts (is_row_set rows) (list_all is_row rows) a.1 in
    let most : length rows ≤ 256 = (set_length rows b.0).1 in
    let each : length (flat_map row_bytes rows) ≤ 72 * length rows = each_most row_bytes is_row row_most rows b.1 in
    omega (arith, most, each, length-number_bytes version, length-append (number_bytes version) (list_bytes 1 row_bytes rows))

pub host_record_high : (value : HostEntry) → host_fits value ≡ true → length (host_record value) ≤ 65536
host_record_high (Setup settings) fits = setup_high settings fits
host_record_high (Took terminal item) fits = let low : length (host_record (Took terminal item)) ≤ 72 = took_record_small (Took terminal item) refl fits in omega arith
host_record_high (Published version rows) fits = published_high version rows fits
