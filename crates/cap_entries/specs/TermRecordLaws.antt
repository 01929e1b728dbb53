-- What the records of a terminal's entries keep.
use Rattle.std.proofs.Common.{◌≡◌, ℕ, zero, suc, ◌+◌, ◌*◌, ◌^◌, ◌≤◌, ◌<◌, Bool, true, false, List, [], ◌∷◌, ◌++◌, length, take, Some, None, Option, refl, sym, ◌∙◌, ap, subst, arith, lt-ltb, le-leb, leb-true, length-append}
use Rattle.std.specs.Prelude.{◌&&◌, ◌||◌, ◌==◌, nat_le, nat_lt, not, bytes_eq}
use Rattle.std.specs.List.{list_all, flat_map}
use Rattle.std.proofs.lemmas.List.{take_at}
use Rattle.std.proofs.lemmas.Bool.{and_parts, and_from, false≢true, cond-true}
use Rattle.std.proofs.lemmas.Option.{cond_some, slice_get_within}
use Rattle.cap_base.specs.Text.{is_ident, is_account, is_code6}
use Rattle.cap_base.specs.declared.parameters.Row.{Row}
use Rattle.cap_base.specs.declared.parameters.ConfigPart.{ConfigPart}
use Rattle.cap_entries.specs.Settings.{TerminalSettings, is_terminal_settings}
use Rattle.cap_entries.specs.declared.stage.Stage.{Stage}
use Rattle.cap_entries.specs.declared.terminal.TermEntry.{TermEntry}
use Rattle.cap_entries.specs.declared.terminal.TermEntry.TheVariants.{Setup, Begin, Declined, Completed, Voided, Cancelled, Closed, Acked, Part}
use Rattle.cap_entries.specs.Stage.{stage_of}
use Rattle.cap_entries.specs.StageLaws.{ends_pending, cancels_completed}
use Rattle.cap_entries.specs.InForce.{version_in_force, staged_from, staged_version, continues}
use Rattle.cap_entries.specs.Allowed.{allowed_after, allowed, all_allowed}
use Rattle.cap_entries.specs.AllowedLaws.{allowed_is}
use Rattle.cap_entries.specs.Summary.{Summary, summary, follows, IsSummary}
use Rattle.cap_entries.specs.SummaryLaws.{summarises, follows_is}
use Rattle.cap_entries.specs.SummaryKept.{few_items, kept_along}
use Rattle.cap_entries.specs.RecordParts.{FieldAt, choose, nothing_at, as_at, is_byte, is_number, small_at, number_at, list_at, pair_at, small_bytes, number_bytes, text_bytes, list_bytes}
use Rattle.cap_entries.specs.RecordPartsLaws.{IsField, IsBehind, pair_field, read_field, made_field, small_field, number_field, list_field, nothing_behind, choose_behind, tagged_field, length-number_bytes}
use Rattle.cap_entries.specs.RecordField.{is_count, is_amount, is_share, is_row, count_at, amount_at, share_at, ident_at, account_at, code_at, row_at, six_bytes, row_bytes}
use Rattle.cap_entries.specs.RecordFieldLaws.{count_field, amount_field, share_field, ident_field, account_field, code_field, row_field, ident_most, account_most, code_six}
use Rattle.cap_entries.specs.RecordSizes.{each_most, row_most}
use Rattle.cap_entries.specs.TermRecord.{is_small_term, is_settings_field, are_part_rows, is_part, has_term_types, term_fits, term_tag, term_body, term_record, settings_of, setup_if, setup_at, begin_of, begin_at, completed_of, completed_at, part_of, part_if, part_at, term_behind, term_at, term_reading}

-- ---- each record

abbrev fits_at : ℕ → TermEntry → Bool
fits_at byte entry = (term_tag entry == byte) && term_fits entry

abbrev setup_spelt : TermEntry → List ℕ × (List ℕ × (ℕ × ℕ))
setup_spelt (Setup s) = (s.terminal, (s.host, (s.max, s.floor)))
setup_spelt _ = ([], ([], (0, 0)))

abbrev setup_texts : List ℕ × (List ℕ × (ℕ × ℕ)) → Bool
setup_texts f = is_ident f.0 && (is_ident f.1.0 && (is_number f.1.1.0 && is_number f.1.1.1))

abbrev setup_bytes : List ℕ × (List ℕ × (ℕ × ℕ)) → List ℕ
setup_bytes f = text_bytes f.0 ++ (text_bytes f.1.0 ++ (number_bytes f.1.1.0 ++ number_bytes f.1.1.1))

settings_small : (s : TerminalSettings) → is_terminal_settings s ≡ true → (is_number s.max ≡ true) × (is_number s.floor ≡ true)
settings_small s good =
    let a = and_parts (nat_le 1 s.max && nat_le s.max 250000) (nat_le s.floor 999999999999 && not (bytes_eq s.terminal s.host)) good in
    let b = and_parts (nat_le 1 s.max) (nat_le s.max 250000) a.0 in
    let c = and_parts (nat_le s.floor 999999999999) (not (bytes_eq s.terminal s.host)) a.1 in
    let max : s.max ≤ 250000 = leb-true s.max 250000 b.1 in
    let floor : s.floor ≤ 999999999999 = leb-true s.floor 999999999999 c.0 in
    (lt-ltb s.max (2 ^ 64) (omega arith), lt-ltb s.floor (2 ^ 64) (omega arith))

setup_there : (entry : TermEntry) → fits_at 1 entry ≡ true → (setup_texts (setup_spelt entry) ≡ true) × (setup_if (setup_spelt entry) ≡ Some entry) × (term_body entry ≡ setup_bytes (setup_spelt entry))
setup_there (Setup s) good =
    let a = and_parts (is_ident s.terminal && is_ident s.host) (is_terminal_settings s) good in
    let b = and_parts (is_ident s.terminal) (is_ident s.host) a.0 in
    let n = settings_small s a.1 in
    (and_from _ _ b.0 (and_from _ _ b.1 (and_from _ _ n.0 n.1)), cond-true (is_terminal_settings s) (Some (Setup s)) None a.1, refl)
setup_there _ good = absurd (false≢true good)

setup_here : (f : List ℕ × (List ℕ × (ℕ × ℕ))) (entry : TermEntry) → setup_texts f ≡ true → setup_if f ≡ Some entry → (fits_at 1 entry ≡ true) × (setup_spelt entry ≡ f)
setup_here f entry fit is =
    let q = cond_some (is_terminal_settings (settings_of f)) (Setup (settings_of f)) entry is in
    let a = and_parts (is_ident f.0) (is_ident f.1.0 && (is_number f.1.1.0 && is_number f.1.1.1)) fit in
    let b = and_parts (is_ident f.1.0) (is_number f.1.1.0 && is_number f.1.1.1) a.1 in
    (subst (λ (e : TermEntry). fits_at 1 e ≡ true) q.1 (and_from _ _ (and_from _ _ a.0 b.0) q.0), ap setup_spelt (sym q.1))

setup_field : IsField setup_at (fits_at 1) term_body
setup_field =
    read_field (pair_at ident_at (pair_at ident_at (pair_at number_at number_at))) setup_texts setup_bytes
    (pair_field _ _ _ _ _ _ ident_field (pair_field _ _ _ _ _ _ ident_field (pair_field _ _ _ _ _ _ number_field number_field)))
    setup_if setup_spelt (fits_at 1) term_body (record { there = setup_there; here = setup_here })

abbrev begin_spelt : TermEntry → ℕ × (ℕ × List ℕ)
begin_spelt (Begin n amount account) = (n, (amount, account))
begin_spelt _ = (0, (0, []))

abbrev begin_fits : ℕ × (ℕ × List ℕ) → Bool
begin_fits f = is_count f.0 && (is_amount f.1.0 && is_account f.1.1)

abbrev begin_bytes : ℕ × (ℕ × List ℕ) → List ℕ
begin_bytes f = number_bytes f.0 ++ (number_bytes f.1.0 ++ text_bytes f.1.1)

begin_there : (entry : TermEntry) → fits_at 2 entry ≡ true → (begin_fits (begin_spelt entry) ≡ true) × (begin_of (begin_spelt entry) ≡ entry) × (term_body entry ≡ begin_bytes (begin_spelt entry))
begin_there (Begin n amount account) good = (good, refl, refl)
begin_there _ good = absurd (false≢true good)

begin_field : IsField begin_at (fits_at 2) term_body
begin_field =
    made_field (pair_at count_at (pair_at amount_at account_at)) begin_fits begin_bytes
    (pair_field _ _ _ _ _ _ count_field (pair_field _ _ _ _ _ _ amount_field account_field))
    begin_of begin_spelt (fits_at 2) term_body begin_there (λ f good. (good, refl))

abbrev completed_spelt : TermEntry → ℕ × List ℕ
completed_spelt (Completed n code) = (n, code)
completed_spelt _ = (0, [])

abbrev completed_fits : ℕ × List ℕ → Bool
completed_fits f = is_count f.0 && is_code6 f.1

abbrev completed_bytes : ℕ × List ℕ → List ℕ
completed_bytes f = number_bytes f.0 ++ six_bytes f.1

completed_there : (entry : TermEntry) → fits_at 4 entry ≡ true → (completed_fits (completed_spelt entry) ≡ true) × (completed_of (completed_spelt entry) ≡ entry) × (term_body entry ≡ completed_bytes (completed_spelt entry))
completed_there (Completed n code) good = (good, refl, refl)
completed_there _ good = absurd (false≢true good)

completed_field : IsField completed_at (fits_at 4) term_body
completed_field =
    made_field (pair_at count_at code_at) completed_fits completed_bytes (pair_field _ _ _ _ _ _ count_field code_field)
    completed_of completed_spelt (fits_at 4) term_body completed_there (λ f good. (good, refl))

-- an entry of one number
abbrev counted : TermEntry → ℕ
counted (Declined n) = n
counted (Voided n) = n
counted (Cancelled n) = n
counted (Closed p) = p
counted (Acked m) = m
counted _ = 0

declined_there : (entry : TermEntry) → fits_at 3 entry ≡ true → (is_count (counted entry) ≡ true) × (Declined (counted entry) ≡ entry) × (term_body entry ≡ number_bytes (counted entry))
declined_there (Declined n) good = (good, refl, refl)
declined_there _ good = absurd (false≢true good)

voided_there : (entry : TermEntry) → fits_at 5 entry ≡ true → (is_count (counted entry) ≡ true) × (Voided (counted entry) ≡ entry) × (term_body entry ≡ number_bytes (counted entry))
voided_there (Voided n) good = (good, refl, refl)
voided_there _ good = absurd (false≢true good)

cancelled_there : (entry : TermEntry) → fits_at 6 entry ≡ true → (is_count (counted entry) ≡ true) × (Cancelled (counted entry) ≡ entry) × (term_body entry ≡ number_bytes (counted entry))
cancelled_there (Cancelled n) good = (good, refl, refl)
cancelled_there _ good = absurd (false≢true good)

closed_there : (entry : TermEntry) → fits_at 7 entry ≡ true → (is_count (counted entry) ≡ true) × (Closed (counted entry) ≡ entry) × (term_body entry ≡ number_bytes (counted entry))
closed_there (Closed p) good = (good, refl, refl)
closed_there _ good = absurd (false≢true good)

acked_there : (entry : TermEntry) → fits_at 8 entry ≡ true → (is_count (counted entry) ≡ true) × (Acked (counted entry) ≡ entry) × (term_body entry ≡ number_bytes (counted entry))
acked_there (Acked m) good = (good, refl, refl)
acked_there _ good = absurd (false≢true good)

declined_field : IsField (as_at Declined count_at) (fits_at 3) term_body
declined_field = made_field count_at is_count number_bytes count_field Declined counted (fits_at 3) term_body declined_there (λ n good. (good, refl))

voided_field : IsField (as_at Voided count_at) (fits_at 5) term_body
voided_field = made_field count_at is_count number_bytes count_field Voided counted (fits_at 5) term_body voided_there (λ n good. (good, refl))

cancelled_field : IsField (as_at Cancelled count_at) (fits_at 6) term_body
cancelled_field = made_field count_at is_count number_bytes count_field Cancelled counted (fits_at 6) term_body cancelled_there (λ n good. (good, refl))

closed_field : IsField (as_at Closed count_at) (fits_at 7) term_body
closed_field = made_field count_at is_count number_bytes count_field Closed counted (fits_at 7) term_body closed_there (λ n good. (good, refl))

acked_field : IsField (as_at Acked count_at) (fits_at 8) term_body
acked_field = made_field count_at is_count number_bytes count_field Acked counted (fits_at 8) term_body acked_there (λ n good. (good, refl))

abbrev part_spelt : TermEntry → ℕ × (ℕ × (ℕ × List Row))
part_spelt (Part p) = (p.version, (p.part, (p.parts, p.rows)))
part_spelt _ = (0, (0, (0, [])))

abbrev part_fits : ℕ × (ℕ × (ℕ × List Row)) → Bool
part_fits f = is_count f.0 && (is_share f.1.0 && (is_share f.1.1.0 && ((nat_le 0 (length f.1.1.1) && nat_lt (length f.1.1.1) (256 + 0)) && list_all is_row f.1.1.1)))

abbrev part_bytes : ℕ × (ℕ × (ℕ × List Row)) → List ℕ
part_bytes f = number_bytes f.0 ++ (small_bytes f.1.0 ++ (small_bytes f.1.1.0 ++ list_bytes 0 row_bytes f.1.1.1))

part_there : (entry : TermEntry) → fits_at 9 entry ≡ true → (part_fits (part_spelt entry) ≡ true) × (part_if (part_spelt entry) ≡ Some entry) × (term_body entry ≡ part_bytes (part_spelt entry))
part_there (Part p) good =
    let a = and_parts (is_count p.version) (is_share p.part && (is_share p.parts && are_part_rows p.rows)) good in
    let b = and_parts (is_share p.part) (is_share p.parts && are_part_rows p.rows) a.1 in
    let c = and_parts (is_share p.parts) (are_part_rows p.rows) b.1 in
    let d = and_parts (nat_le 1 (length p.rows) && nat_le (length p.rows) 16) (list_all is_row p.rows) c.1 in
    let e = and_parts (nat_le 1 (length p.rows)) (nat_le (length p.rows) 16) d.0 in
    let most : length p.rows ≤ 16 = leb-true (length p.rows) 16 e.1 in (
      and_from _ _ a.0 (and_from _ _ b.0 (and_from _ _ c.0 (and_from _ _ (and_from _ _ (le-leb 0 (length p.rows) (omega arith)) (lt-ltb (length p.rows) 256 (omega arith))) d.1))),
      cond-true (nat_le 1 (length p.rows) && nat_le (length p.rows) 16) (Some (Part p)) None d.0,
      refl,
    )
part_there _ good = absurd (false≢true good)

part_here : (f : ℕ × (ℕ × (ℕ × List Row))) (entry : TermEntry) → part_fits f ≡ true → part_if f ≡ Some entry → (fits_at 9 entry ≡ true) × (part_spelt entry ≡ f)
part_here f entry fit is =
    let rows : List Row = f.1.1.1 in
    let q = cond_some (nat_le 1 (length rows) && nat_le (length rows) 16) (Part (part_of f)) entry is in
    let listed : Bool = (nat_le 0 (length rows) && nat_lt (length rows) (256 + 0)) && list_all is_row rows in
    let a = and_parts (is_count f.0) (is_share f.1.0 && (is_share f.1.1.0 && listed)) fit in
    let b = and_parts (is_share f.1.0) (is_share f.1.1.0 && listed) a.1 in
    let c = and_parts (is_share f.1.1.0) listed b.1 in
    let d = and_parts (nat_le 0 (length rows) && nat_lt (length rows) (256 + 0)) (list_all is_row rows) c.1 in
    (subst (λ (e : TermEntry). fits_at 9 e ≡ true) q.1 (and_from _ _ a.0 (and_from _ _ b.0 (and_from _ _ c.0 (and_from _ _ q.0 d.1)))), ap part_spelt (sym q.1))

part_field : IsField part_at (fits_at 9) term_body
part_field =
    read_field (pair_at count_at (pair_at share_at (pair_at share_at (list_at 0 row_at)))) part_fits part_bytes
    (pair_field _ _ _ _ _ _ count_field (pair_field _ _ _ _ _ _ share_field (pair_field _ _ _ _ _ _ share_field (list_field row_at is_row row_bytes row_field 0))))
    part_if part_spelt (fits_at 9) term_body (record { there = part_there; here = part_here })

-- ---- the choice

abbrev read_from_part : ℕ → FieldAt TermEntry
read_from_part first = choose first 9 part_at nothing_at

abbrev read_from_acked : ℕ → FieldAt TermEntry
read_from_acked first = choose first 8 (as_at Acked count_at) (read_from_part first)

abbrev read_from_closed : ℕ → FieldAt TermEntry
read_from_closed first = choose first 7 (as_at Closed count_at) (read_from_acked first)

abbrev read_from_cancelled : ℕ → FieldAt TermEntry
read_from_cancelled first = choose first 6 (as_at Cancelled count_at) (read_from_closed first)

abbrev read_from_voided : ℕ → FieldAt TermEntry
read_from_voided first = choose first 5 (as_at Voided count_at) (read_from_cancelled first)

abbrev read_from_completed : ℕ → FieldAt TermEntry
read_from_completed first = choose first 4 completed_at (read_from_voided first)

abbrev read_from_declined : ℕ → FieldAt TermEntry
read_from_declined first = choose first 3 (as_at Declined count_at) (read_from_completed first)

abbrev read_from_begin : ℕ → FieldAt TermEntry
read_from_begin first = choose first 2 begin_at (read_from_declined first)

abbrev tag_from_part : ℕ → Bool
tag_from_part first = (first == 9) || false

abbrev tag_from_acked : ℕ → Bool
tag_from_acked first = (first == 8) || tag_from_part first

abbrev tag_from_closed : ℕ → Bool
tag_from_closed first = (first == 7) || tag_from_acked first

abbrev tag_from_cancelled : ℕ → Bool
tag_from_cancelled first = (first == 6) || tag_from_closed first

abbrev tag_from_voided : ℕ → Bool
tag_from_voided first = (first == 5) || tag_from_cancelled first

abbrev tag_from_completed : ℕ → Bool
tag_from_completed first = (first == 4) || tag_from_voided first

abbrev tag_from_declined : ℕ → Bool
tag_from_declined first = (first == 3) || tag_from_completed first

abbrev tag_from_begin : ℕ → Bool
tag_from_begin first = (first == 2) || tag_from_declined first

abbrev tag_from_setup : ℕ → Bool
tag_from_setup first = (first == 1) || tag_from_begin first

behind9 : IsBehind read_from_part tag_from_part term_tag term_fits term_body
behind9 = choose_behind term_tag term_fits term_body 9 part_at part_field (λ (first : ℕ). nothing_at) (λ (first : ℕ). false) (nothing_behind term_tag term_fits term_body)

behind8 : IsBehind read_from_acked tag_from_acked term_tag term_fits term_body
behind8 = choose_behind term_tag term_fits term_body 8 (as_at Acked count_at) acked_field read_from_part tag_from_part behind9

behind7 : IsBehind read_from_closed tag_from_closed term_tag term_fits term_body
behind7 = choose_behind term_tag term_fits term_body 7 (as_at Closed count_at) closed_field read_from_acked tag_from_acked behind8

behind6 : IsBehind read_from_cancelled tag_from_cancelled term_tag term_fits term_body
behind6 = choose_behind term_tag term_fits term_body 6 (as_at Cancelled count_at) cancelled_field read_from_closed tag_from_closed behind7

behind5 : IsBehind read_from_voided tag_from_voided term_tag term_fits term_body
behind5 = choose_behind term_tag term_fits term_body 5 (as_at Voided count_at) voided_field read_from_cancelled tag_from_cancelled behind6

behind4 : IsBehind read_from_completed tag_from_completed term_tag term_fits term_body
behind4 = choose_behind term_tag term_fits term_body 4 completed_at completed_field read_from_voided tag_from_voided behind5

behind3 : IsBehind read_from_declined tag_from_declined term_tag term_fits term_body
behind3 = choose_behind term_tag term_fits term_body 3 (as_at Declined count_at) declined_field read_from_completed tag_from_completed behind4

behind2 : IsBehind read_from_begin tag_from_begin term_tag term_fits term_body
behind2 = choose_behind term_tag term_fits term_body 2 begin_at begin_field read_from_declined tag_from_declined behind3

behind1 : IsBehind term_behind tag_from_setup term_tag term_fits term_body
behind1 = choose_behind term_tag term_fits term_body 1 setup_at setup_field read_from_begin tag_from_begin behind2

known : (entry : TermEntry) → (tag_from_setup (term_tag entry) ≡ true) × (is_byte (term_tag entry) ≡ true)
known (Setup settings) = (refl, refl)
known (Begin n amount account) = (refl, refl)
known (Declined n) = (refl, refl)
known (Completed n code) = (refl, refl)
known (Voided n) = (refl, refl)
known (Cancelled n) = (refl, refl)
known (Closed p) = (refl, refl)
known (Acked m) = (refl, refl)
known (Part part) = (refl, refl)

term_field : IsField term_at term_fits term_record
term_field = tagged_field term_tag term_fits term_body term_behind tag_from_setup behind1 known

pub term_reads_back : (value : TermEntry) (rest : List ℕ) → term_fits value ≡ true → term_reading (term_record value ++ rest) ≡ Some (value, length (term_record value))
unfolding term_reading
term_reads_back value rest fits =
    term_field.back (term_record value ++ rest) 0 value fits (take_at (term_record value) rest (length (term_record value)) refl)
    ∙ ap (λ (n : ℕ). (let o : Option (TermEntry × ℕ) = Some (value, n) in o)) (let e : 0 + length (term_record value) ≡ length (term_record value) = omega arith in e)

pub term_reads_only : (value : TermEntry) (size : ℕ) (bytes : List ℕ) → term_reading bytes ≡ Some (value, size) → (term_fits value ≡ true) × (size ≡ length (term_record value)) × (take size bytes ≡ term_record value)
unfolding term_reading
term_reads_only value size bytes is =
    let r = term_field.only bytes 0 value size is in
    let e : size ≡ length (term_record value) = omega (arith, r.size) in
    (r.good, e, ap (λ (n : ℕ). take n bytes) e ∙ r.stands)

-- ---- sizes

pub term_record_low : (value : TermEntry) → 1 ≤ length (term_record value)
term_record_low value = omega arith

pub term_record_small : (value : TermEntry) → is_small_term value ≡ true → term_fits value ≡ true → length (term_record value) ≤ 72
term_record_small (Setup settings) small fits = absurd (false≢true small)
term_record_small (Begin n amount account) small fits =
    let a = and_parts (is_count n) (is_amount amount && is_account account) fits in
    let b = and_parts (is_amount amount) (is_account account) a.1 in
    omega (arith, account_most account b.1, length-number_bytes n, length-number_bytes amount, length-append (number_bytes n) (number_bytes amount ++ text_bytes account), length-append (number_bytes amount) (text_bytes account))
term_record_small (Declined n) small fits = omega (arith, length-number_bytes n)
term_record_small (Completed n code) small fits =
    let a = and_parts (is_count n) (is_code6 code) fits in
    omega (arith, code_six code a.1, length-number_bytes n, length-append (number_bytes n) code)
term_record_small (Voided n) small fits = omega (arith, length-number_bytes n)
term_record_small (Cancelled n) small fits = omega (arith, length-number_bytes n)
term_record_small (Closed p) small fits = omega (arith, length-number_bytes p)
term_record_small (Acked m) small fits = omega (arith, length-number_bytes m)
term_record_small (Part part) small fits = absurd (false≢true small)

setup_high : (s : TerminalSettings) → is_settings_field s ≡ true → length (term_record (Setup s)) ≤ 65536
setup_high s fits =
    let a = and_parts (is_ident s.terminal && is_ident s.host) (is_terminal_settings s) fits in
    let b = and_parts (is_ident s.terminal) (is_ident s.host) a.0 in
    let back : List ℕ = number_bytes s.max ++ number_bytes s.floor in
    omega (
      arith,
      ident_most s.terminal b.0,
      ident_most s.host b.1,
      length-number_bytes s.max,
      length-number_bytes s.floor,
      length-append (text_bytes s.terminal) (text_bytes s.host ++ back),
      length-append (text_bytes s.host) back,
      length-append (number_bytes s.max) (number_bytes s.floor),
    )

part_high : (p : ConfigPart) → is_part p ≡ true → length (term_record (Part p)) ≤ 65536
part_high p fits =
    let a = and_parts (is_count p.version) (is_share p.part && (is_share p.parts && are_part_rows p.rows)) fits in
    let b = and_parts (is_share p.part) (is_share p.parts && are_part_rows p.rows) a.1 in
    let c = and_parts (is_share p.parts) (are_part_rows p.rows) b.1 in
    let d = and_parts (nat_le 1 (length p.rows) && nat_le (length p.rows) 16) (list_all is_row p.rows) c.1 in
    let e = and_parts (nat_le 1 (length p.rows)) (nat_le (length p.rows) 16) d.0 in
    let most : length p.rows ≤ 16 = leb-true (length p.rows) 16 e.1 in
    let rows : length (flat_map row_bytes p.rows) ≤ 72 * length p.rows = each_most row_bytes is_row row_most p.rows d.1 in
    omega (arith, most, rows, length-number_bytes p.version, length-append (number_bytes p.version) (p.part ∷ p.parts ∷ list_bytes 0 row_bytes p.rows))

small_high : (value : TermEntry) → is_small_term value ≡ true → term_fits value ≡ true → length (term_record value) ≤ 65536
small_high value small fits = let low : length (term_record value) ≤ 72 = term_record_small value small fits in omega arith

pub term_record_high : (value : TermEntry) → term_fits value ≡ true → length (term_record value) ≤ 65536
term_record_high (Setup settings) fits = setup_high settings fits
term_record_high (Begin n amount account) fits = small_high (Begin n amount account) refl fits
term_record_high (Declined n) fits = small_high (Declined n) refl fits
term_record_high (Completed n code) fits = small_high (Completed n code) refl fits
term_record_high (Voided n) fits = small_high (Voided n) refl fits
term_record_high (Cancelled n) fits = small_high (Cancelled n) refl fits
term_record_high (Closed p) fits = small_high (Closed p) refl fits
term_record_high (Acked m) fits = small_high (Acked m) refl fits
term_record_high (Part part) fits = part_high part fits
