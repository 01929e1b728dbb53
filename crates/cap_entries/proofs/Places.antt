-- What stands at a place of some bytes, as the code finds it.
use Rattle.std.proofs.Common.{◌≡◌, ℕ, zero, suc, ◌+◌, ◌-◌, ◌≤◌, ◌<◌, Bool, true, false, List, [], ◌∷◌, ◌++◌, length, take, drop, get_or, Option, Some, None, refl, sym, ◌∙◌, ap, subst, ⊎_elim, arith, append_assoc, append-nil, lt-ltb, eq-eqb, length-drop, length-take, length-append}
use Rattle.std.specs.Prelude.{◌==◌, if◌then◌else◌, min, option_map}
use Rattle.std.specs.Int.{w64, from_be_bytes}
use Rattle.std.specs.List.{list_all}
use Rattle.std.proofs.lemmas.List.{drop_more, drop_all, length-take-le}
use Rattle.std.proofs.lemmas.Bool.{and_from, cond-true, cond-false, ne_eqb, cases_eq}
use Rattle.std.proofs.lemmas.Option.{cond_some, same_Some}
use Rattle.cap_base.specs.Text.{is_code6, code6_of}
use Rattle.cap_base.specs.declared.item.Totals.{Totals}
use Rattle.cap_base.specs.declared.item.Item.TheVariants.{Sale, Void, Cancel, Close}
use Rattle.cap_leaf.specs.Date.{DateParts}
use Rattle.cap_leaf.specs.DateText.{date_time_of}
use Rattle.cap_leaf.specs.declared.leaf.Leaf.{Leaf}
use Rattle.cap_leaf.specs.declared.leaf.Leaf.TheVariants as kinds
use Rattle.cap_entries.specs.Settings.{TerminalSettings, HostSettings}
use Rattle.cap_entries.specs.declared.terminal.TermEntry.TheVariants.{Setup, Begin, Completed, Part}
use Rattle.cap_entries.specs.declared.terminal.TermEntry.{TermEntry}
use Rattle.cap_entries.specs.declared.host.HostEntry.{HostEntry}
use Rattle.cap_entries.specs.declared.host.HostEntry.TheVariants.{Published, Setup as HostSetup}
use Rattle.cap_base.specs.declared.parameters.Row.{Row}
use Rattle.cap_base.specs.declared.parameters.ConfigPart.{ConfigPart}
use Rattle.cap_entries.specs.Lists.{is_prefix}
use Rattle.cap_entries.specs.RecordParts.{FieldAt, and_next, placed, times_end, times_at, if_test, is_byte, bytes_at, small_of, number_of, small_at, number_at, text_at, number_bytes, text_bytes, list_bytes}
use Rattle.cap_entries.specs.RecordPartsLaws.{length-number_bytes}
use Rattle.cap_entries.specs.TermRecord.{term_record, term_behind, term_reading}
use Rattle.cap_entries.specs.HostRecord.{item_bytes, totals_bytes, host_record, host_behind, host_reading}
use Rattle.cap_entries.specs.RecordField.{code_at, prefix_at, date_at, dated, six_bytes, row_bytes, date_bytes}
use Rattle.cap_entries.specs.RecordFieldLaws.{code_six}

-- so many bytes stand there, or fewer
pub part_in : (n : ℕ) (bytes : List ℕ) (at : ℕ) (field : List ℕ) → field ≡ take n (drop at bytes) → length field ≡ n → at ≤ length bytes → at + n ≤ length bytes
part_in n bytes at field is size low =
    let e : length field ≡ min n (length (drop at bytes)) = ap length is ∙ length-take n (drop at bytes) in
    omega (arith, e, size, length-drop at bytes)

part_is : (n : ℕ) (bytes : List ℕ) (at : ℕ) (field : List ℕ) → field ≡ take n (drop at bytes) → length field ≡ n → bytes_at n bytes at ≡ Some (field, at + n)
part_is n bytes at field is size =
    ap (λ (l : List ℕ). if length l == n then (let o : Option (List ℕ × ℕ) = Some (l, at + n) in o) else None) (sym is) ∙ cond-true (length field == n) (Some (field, at + n)) None (eq-eqb (length field) n size)

part_none : (n : ℕ) (bytes : List ℕ) (at : ℕ) (field : List ℕ) → field ≡ take n (drop at bytes) → (length field ≡ n → ⊥) → bytes_at n bytes at ≡ None
part_none n bytes at field is size =
    ap (λ (l : List ℕ). if length l == n then (let o : Option (List ℕ × ℕ) = Some (l, at + n) in o) else None) (sym is) ∙ cond-false (length field == n) (Some (field, at + n)) None (ne_eqb (length field) n size)

abbrev byte_next : List ℕ → ℕ → Option (ℕ × ℕ)
byte_next text end = placed (small_of text) end

pub small_there : (bytes : List ℕ) (at : ℕ) → at < length bytes → get_or bytes at 0 < 256 → (let o : Option (ℕ × ℕ) = Some (get_or bytes at 0, at + 1) in o) ≡ small_at bytes at
unfolding small_at
small_there bytes at low byte =
    let b : ℕ = get_or bytes at 0 in
    let front : (b ∷ []) ≡ take 1 (drop at bytes) = sym (ap (take 1) (drop_more bytes at 0 low)) in
    sym (ap (λ (o : Option (List ℕ × ℕ)). and_next o byte_next) (part_is 1 bytes at (b ∷ []) front refl)
    ∙ ap (λ (o : Option ℕ). placed o (at + 1)) (cond-true (is_byte b) (Some b) None (lt-ltb b 256 byte)))

pub small_none : (bytes : List ℕ) (at : ℕ) → length bytes ≤ at → None ≡ small_at bytes at
unfolding small_at
small_none bytes at high =
    let front : [] ≡ take 1 (drop at bytes) = sym (ap (take 1) (drop_all at bytes high)) in
    sym (ap (λ (o : Option (List ℕ × ℕ)). and_next o byte_next) (part_none 1 bytes at [] front (λ e. absurd (omega arith))))

all_low : (text : List ℕ) → ((i : ℕ) → get_or text i 0 < 256) → list_all is_byte text ≡ true
all_low [] low = refl
all_low (b ∷ text) low = and_from (is_byte b) (list_all is_byte text) (lt-ltb b 256 (low 0)) (all_low text (λ i. low (suc i)))

abbrev number_next : List ℕ → ℕ → Option (ℕ × ℕ)
number_next text end = placed (number_of text) end

pub number_some : (bytes : List ℕ) (at : ℕ) (field eight : List ℕ) → field ≡ take 8 (drop at bytes) → length field ≡ 8 → eight ≡ field → ((i : ℕ) → get_or field i 0 < 256) → (let o : Option (ℕ × ℕ) = Some (from_be_bytes w64 eight, at + 8) in o) ≡ number_at bytes at
unfolding number_at
number_some bytes at field eight is size same low =
    sym (ap (λ (o : Option (List ℕ × ℕ)). and_next o number_next) (part_is 8 bytes at field is size)
    ∙ ap (λ (o : Option ℕ). placed o (at + 8)) (cond-true (list_all is_byte field) (Some (from_be_bytes w64 field)) None (all_low field low) ∙ ap (λ (l : List ℕ). (let o : Option ℕ = Some (from_be_bytes w64 l) in o)) (sym same)))

pub number_none : (bytes : List ℕ) (at : ℕ) (field : List ℕ) → field ≡ take 8 (drop at bytes) → (length field ≡ 8 → ⊥) → None ≡ number_at bytes at
unfolding number_at
number_none bytes at field is size = sym (ap (λ (o : Option (List ℕ × ℕ)). and_next o number_next) (part_none 8 bytes at field is size))

abbrev text_next : List ℕ → ℕ → ℕ → Option (List ℕ × ℕ)
text_next bytes size next = bytes_at size bytes next

pub text_some : (bytes : List ℕ) (at size from : ℕ) (field : List ℕ) → (let o : Option (ℕ × ℕ) = Some (size, from) in o) ≡ small_at bytes at → field ≡ take size (drop from bytes) → length field ≡ size → (let o : Option (List ℕ × ℕ) = Some (field, from + size) in o) ≡ text_at bytes at
unfolding text_at
text_some bytes at size from field first is long = sym (ap (λ (o : Option (ℕ × ℕ)). and_next o (text_next bytes)) (sym first) ∙ part_is size bytes from field is long)

pub text_short : (bytes : List ℕ) (at size from : ℕ) (field : List ℕ) → (let o : Option (ℕ × ℕ) = Some (size, from) in o) ≡ small_at bytes at → field ≡ take size (drop from bytes) → (length field ≡ size → ⊥) → None ≡ text_at bytes at
unfolding text_at
text_short bytes at size from field first is long = sym (ap (λ (o : Option (ℕ × ℕ)). and_next o (text_next bytes)) (sym first) ∙ part_none size bytes from field is long)

pub text_none : (bytes : List ℕ) (at : ℕ) → None ≡ small_at bytes at → None ≡ text_at bytes at
unfolding text_at
text_none bytes at first = sym (ap (λ (o : Option (ℕ × ℕ)). and_next o (text_next bytes)) (sym first))

-- ---- codes

abbrev code_next : List ℕ → ℕ → Option (List ℕ × ℕ)
code_next text end = placed (code6_of text) end

code_is : (field code : List ℕ) → Some code ≡ code6_of field → (length field ≡ 6) × (code ≡ field)
code_is field code is = let q = cond_some (is_code6 field) field code (sym is) in (code_six field q.0, sym q.1)

pub code_some : (bytes : List ℕ) (at : ℕ) (field code : List ℕ) → field ≡ take 6 (drop at bytes) → Some code ≡ code6_of field → (let o : Option (List ℕ × ℕ) = Some (code, at + 6) in o) ≡ code_at bytes at
unfolding code_at
code_some bytes at field code is read =
    sym (ap (λ (o : Option (List ℕ × ℕ)). and_next o code_next) (part_is 6 bytes at field is (code_is field code read).0) ∙ ap (λ (o : Option (List ℕ)). placed o (at + 6)) (sym read))

pub code_none : (bytes : List ℕ) (at : ℕ) (field : List ℕ) → field ≡ take 6 (drop at bytes) → None ≡ code6_of field → None ≡ code_at bytes at
unfolding code_at
code_none bytes at field is read =
    ⊎_elim
    (λ six. sym (ap (λ (o : Option (List ℕ × ℕ)). and_next o code_next) (part_is 6 bytes at field is six) ∙ ap (λ (o : Option (List ℕ)). placed o (at + 6)) (sym read)))
    (λ other. sym (ap (λ (o : Option (List ℕ × ℕ)). and_next o code_next) (part_none 6 bytes at field is other)))
    (cases_eq (length field) 6)

pub code_in : (bytes : List ℕ) (at : ℕ) (field code : List ℕ) → field ≡ take 6 (drop at bytes) → Some code ≡ code6_of field → at ≤ length bytes → at + 6 ≤ length bytes
code_in bytes at field code is read low = part_in 6 bytes at field is (code_is field code read).0 low

abbrev prefix_next : List ℕ → ℕ → Option (List ℕ × ℕ)
prefix_next text end = placed (if_test is_prefix text) end

pub prefix_some : (bytes : List ℕ) (at : ℕ) (field six : List ℕ) → field ≡ take 6 (drop at bytes) → length field ≡ 6 → is_prefix field ≡ true → six ≡ field → (let o : Option (List ℕ × ℕ) = Some (six, at + 6) in o) ≡ prefix_at bytes at
unfolding prefix_at
prefix_some bytes at field six is size good same =
    sym (ap (λ (o : Option (List ℕ × ℕ)). and_next o prefix_next) (part_is 6 bytes at field is size)
    ∙ ap (λ (o : Option (List ℕ)). placed o (at + 6)) (cond-true (is_prefix field) (Some field) None good ∙ ap Some (sym same)))

pub prefix_none : (bytes : List ℕ) (at : ℕ) (field : List ℕ) → field ≡ take 6 (drop at bytes) → length field ≡ 6 → is_prefix field ≡ false → None ≡ prefix_at bytes at
unfolding prefix_at
prefix_none bytes at field is size bad =
    sym (ap (λ (o : Option (List ℕ × ℕ)). and_next o prefix_next) (part_is 6 bytes at field is size)
    ∙ ap (λ (o : Option (List ℕ)). placed o (at + 6)) (cond-false (is_prefix field) (Some field) None bad))

pub prefix_short : (bytes : List ℕ) (at : ℕ) (field : List ℕ) → field ≡ take 6 (drop at bytes) → (length field ≡ 6 → ⊥) → None ≡ prefix_at bytes at
unfolding prefix_at
prefix_short bytes at field is size = sym (ap (λ (o : Option (List ℕ × ℕ)). and_next o prefix_next) (part_none 6 bytes at field is size))

-- ---- dates

some_dated : (date : Option DateParts) (leaf : Leaf) (end : ℕ) → Some leaf ≡ option_map kinds.DateTime date → dated leaf end ≡ placed date end
some_dated None leaf end is = cc
some_dated (Some d) leaf end is = ap (λ (l : Leaf). dated l end) (same_Some leaf (kinds.DateTime d) is)

none_dated : (date : Option DateParts) (end : ℕ) → None ≡ option_map kinds.DateTime date → None ≡ placed date end
none_dated None end is = refl
none_dated (Some d) end is = cc

abbrev date_next : List ℕ → ℕ → Option (DateParts × ℕ)
date_next text end = placed (date_time_of text) end

pub date_some : (bytes : List ℕ) (at end : ℕ) (field : List ℕ) (leaf : Leaf) → (let o : Option (List ℕ × ℕ) = Some (field, end) in o) ≡ text_at bytes at → Some leaf ≡ option_map kinds.DateTime (date_time_of field) → dated leaf end ≡ date_at bytes at
unfolding date_at
date_some bytes at end field leaf there is = some_dated (date_time_of field) leaf end is ∙ ap (λ (o : Option (List ℕ × ℕ)). and_next o date_next) there

pub date_none : (bytes : List ℕ) (at end : ℕ) (field : List ℕ) → (let o : Option (List ℕ × ℕ) = Some (field, end) in o) ≡ text_at bytes at → None ≡ option_map kinds.DateTime (date_time_of field) → None ≡ date_at bytes at
unfolding date_at
date_none bytes at end field there is = none_dated (date_time_of field) end is ∙ ap (λ (o : Option (List ℕ × ℕ)). and_next o date_next) there

-- ---- lists

-- values before those that read
abbrev pub with_front : {A : Type 0} → List A → Option (List A × ℕ) → Option (List A × ℕ)
with_front front None = None
with_front front (Some found) = Some (front ++ found.0, found.1)

pub no_front : {A : Type 0} (read : Option (List A × ℕ)) → with_front [] read ≡ read
no_front None = refl
no_front (Some found) = refl

moved : {A : Type 0} (front : List A) (value : A) (read : Option (List A × ℕ)) → with_front front (and_next read (times_end value)) ≡ with_front (front ++ value ∷ []) read
moved front value None = refl
moved {A} front value (Some found) = ap (λ (l : List A). (let o : Option (List A × ℕ) = Some (l, found.1) in o)) (sym (append_assoc front (value ∷ []) found.0))

abbrev times_next : {A : Type 0} → FieldAt A → ℕ → List ℕ → A → ℕ → Option (List A × ℕ)
times_next field n bytes a next = and_next (times_at field n bytes next) (times_end a)

pub one_front : {A : Type 0} (field : FieldAt A) (bytes : List ℕ) (at next n m : ℕ) (value : A) (front : List A) → (let o : Option (A × ℕ) = Some (value, next) in o) ≡ field bytes at → n ≡ suc m
    → with_front front (times_at field n bytes at) ≡ with_front (front ++ value ∷ []) (times_at field m bytes next)
one_front {A} field bytes at next n m value front is more =
    ap (λ (k : ℕ). with_front front (times_at field k bytes at)) more
    ∙ (ap (λ (o : Option (A × ℕ)). with_front front (and_next o (times_next field m bytes))) (sym is)
    ∙ moved front value (times_at field m bytes next))

pub front_stops : {A : Type 0} (field : FieldAt A) (bytes : List ℕ) (at n m : ℕ) (front : List A) → None ≡ field bytes at → n ≡ suc m → with_front front (times_at field n bytes at) ≡ None
front_stops {A} field bytes at n m front is more =
    ap (λ (k : ℕ). with_front front (times_at field k bytes at)) more
    ∙ ap (λ (o : Option (A × ℕ)). with_front front (and_next o (times_next field m bytes))) (sym is)

pub front_ends : {A : Type 0} (field : FieldAt A) (bytes : List ℕ) (at n : ℕ) (front : List A) → n ≡ 0 → with_front front (times_at field n bytes at) ≡ Some (front, at)
front_ends {A} field bytes at n front none =
    ap (λ (k : ℕ). with_front front (times_at field k bytes at)) none ∙ ap (λ (l : List A). (let o : Option (List A × ℕ) = Some (l, at) in o)) (append-nil front)

-- ---- sizes

pub size_of_front : (n : ℕ) (bytes text : List ℕ) → take n bytes ≡ text → n ≤ length bytes → length text ≡ n
size_of_front n bytes text is low = sym (ap length is) ∙ length-take-le n bytes low

pub sale_size : (n amount : ℕ) (account code : List ℕ) → 18 + length account + length code ≡ length (item_bytes (Sale n amount account code))
sale_size n amount account code =
    omega (arith, length-number_bytes n, length-number_bytes amount, length-append (number_bytes n) (number_bytes amount ++ (text_bytes account ++ code)), length-append (number_bytes amount) (text_bytes account ++ code), length-append (text_bytes account) code)

pub void_size : (n : ℕ) → 9 ≡ length (item_bytes (Void n))
void_size n = omega (arith, length-number_bytes n)

pub cancel_size : (n amount : ℕ) → 17 ≡ length (item_bytes (Cancel n amount))
cancel_size n amount = omega (arith, length-number_bytes n, length-number_bytes amount, length-append (number_bytes n) (number_bytes amount))

pub close_size : (p : ℕ) (t : Totals) → 41 ≡ length (item_bytes (Close p t))
close_size p t =
    let back : List ℕ = number_bytes t.cancels ++ number_bytes t.cancels_sum in
    omega (
      arith,
      length-number_bytes p,
      length-number_bytes t.sales,
      length-number_bytes t.sales_sum,
      length-number_bytes t.cancels,
      length-number_bytes t.cancels_sum,
      length-append (number_bytes p) (totals_bytes t),
      length-append (number_bytes t.sales) (number_bytes t.sales_sum ++ back),
      length-append (number_bytes t.sales_sum) back,
      length-append (number_bytes t.cancels) (number_bytes t.cancels_sum),
    )

pub terminal_size : (s : TerminalSettings) → 19 + length s.terminal + length s.host ≡ length (term_record (Setup s))
terminal_size s =
    let back : List ℕ = number_bytes s.max ++ number_bytes s.floor in
    omega (arith, length-number_bytes s.max, length-number_bytes s.floor, length-append (text_bytes s.terminal) (text_bytes s.host ++ back), length-append (text_bytes s.host) back, length-append (number_bytes s.max) (number_bytes s.floor))

pub begin_size : (n amount : ℕ) (account : List ℕ) → 18 + length account ≡ length (term_record (Begin n amount account))
begin_size n amount account = omega (arith, length-number_bytes n, length-number_bytes amount, length-append (number_bytes n) (number_bytes amount ++ text_bytes account), length-append (number_bytes amount) (text_bytes account))

completed_len : (n : ℕ) (code : List ℕ) → 9 + length code ≡ length (term_record (Completed n code))
completed_len n code = omega (arith, length-number_bytes n, length-append (number_bytes n) code)

pub completed_size : (entry : TermEntry) (n : ℕ) (code : List ℕ) → entry ≡ Completed n code → 9 + length code ≡ length (term_record entry)
completed_size entry n code is = completed_len n code ∙ ap (λ (e : TermEntry). length (term_record e)) (sym is)

part_len : (p : ConfigPart) → 11 + length (list_bytes 0 row_bytes p.rows) ≡ length (term_record (Part p))
part_len p = omega (arith, length-number_bytes p.version, length-append (number_bytes p.version) (p.part ∷ p.parts ∷ list_bytes 0 row_bytes p.rows))

pub part_size : (entry : TermEntry) (p : ConfigPart) → entry ≡ Part p → 11 + length (list_bytes 0 row_bytes p.rows) ≡ length (term_record entry)
part_size entry p is = part_len p ∙ ap (λ (e : TermEntry). length (term_record e)) (sym is)

published_len : (version : ℕ) (rows : List Row) → 9 + length (list_bytes 1 row_bytes rows) ≡ length (host_record (Published version rows))
published_len version rows = omega (arith, length-number_bytes version, length-append (number_bytes version) (list_bytes 1 row_bytes rows))

pub published_size : (entry : HostEntry) (version : ℕ) (rows : List Row) → entry ≡ Published version rows → 9 + length (list_bytes 1 row_bytes rows) ≡ length (host_record entry)
published_size entry version rows is = published_len version rows ∙ ap (λ (e : HostEntry). length (host_record e)) (sym is)

pub host_size : (s : HostSettings) → 18 + length s.host + length (list_bytes 0 six_bytes s.blocked) + length (date_bytes s.start) + length (list_bytes 0 text_bytes s.terminals) ≡ length (host_record (HostSetup s))
host_size s =
    let names : List ℕ = list_bytes 0 text_bytes s.terminals in
    let after : List ℕ = date_bytes s.start ++ names in
    let polled : List ℕ = number_bytes s.poll ++ after in
    let blocks : List ℕ = list_bytes 0 six_bytes s.blocked ++ polled in
    omega (
      arith,
      length-number_bytes s.limit,
      length-number_bytes s.poll,
      length-append (text_bytes s.host) (number_bytes s.limit ++ blocks),
      length-append (number_bytes s.limit) blocks,
      length-append (list_bytes 0 six_bytes s.blocked) polled,
      length-append (number_bytes s.poll) after,
      length-append (date_bytes s.start) names,
    )

-- ---- whole records

pub term_read : (bytes : List ℕ) (first at : ℕ) → (let o : Option (ℕ × ℕ) = Some (first, at) in o) ≡ small_at bytes 0 → term_behind first bytes at ≡ term_reading bytes
unfolding term_reading
term_read bytes first at there = ap (λ (o : Option (ℕ × ℕ)). and_next o (λ (f n : ℕ). term_behind f bytes n)) there

pub term_unread : (bytes : List ℕ) → None ≡ small_at bytes 0 → None ≡ term_reading bytes
unfolding term_reading
term_unread bytes there = ap (λ (o : Option (ℕ × ℕ)). and_next o (λ (f n : ℕ). term_behind f bytes n)) there

pub host_read : (bytes : List ℕ) (first at : ℕ) → (let o : Option (ℕ × ℕ) = Some (first, at) in o) ≡ small_at bytes 0 → host_behind first bytes at ≡ host_reading bytes
unfolding host_reading
host_read bytes first at there = ap (λ (o : Option (ℕ × ℕ)). and_next o (λ (f n : ℕ). host_behind f bytes n)) there

pub host_unread : (bytes : List ℕ) → None ≡ small_at bytes 0 → None ≡ host_reading bytes
unfolding host_reading
host_unread bytes there = ap (λ (o : Option (ℕ × ℕ)). and_next o (λ (f n : ℕ). host_behind f bytes n)) there

regroup : (o a b c d e f g : List ℕ) → ((((((o ++ a) ++ b) ++ c) ++ d) ++ e) ++ f) ++ g ≡ o ++ (a ++ (b ++ (c ++ (d ++ (e ++ (f ++ g))))))
regroup o a b c d e f g = simp append_assoc

joined : (o a b c d e f g x1 x2 x3 x4 x5 x6 x7 : List ℕ) → x1 ≡ o ++ a → x2 ≡ x1 ++ b → x3 ≡ x2 ++ c → x4 ≡ x3 ++ d → x5 ≡ x4 ++ e → x6 ≡ x5 ++ f → x7 ≡ x6 ++ g → x7 ≡ o ++ (a ++ (b ++ (c ++ (d ++ (e ++ (f ++ g))))))
joined o a b c d e f g x1 x2 x3 x4 x5 x6 x7 e1 e2 e3 e4 e5 e6 e7 =
    e7 ∙ (ap (λ (l : List ℕ). l ++ g) (e6 ∙ ap (λ (l : List ℕ). l ++ f) (e5 ∙ ap (λ (l : List ℕ). l ++ e) (e4 ∙ ap (λ (l : List ℕ). l ++ d) (e3 ∙ ap (λ (l : List ℕ). l ++ c) (e2 ∙ ap (λ (l : List ℕ). l ++ b) e1)))))
    ∙ regroup o a b c d e f g)

pub setup_written : (o x1 x2 x3 x4 x5 x6 x7 : List ℕ) (s : HostSettings) (host : List ℕ) (limit : ℕ) (blocked : List (List ℕ)) (poll : ℕ) (start : DateParts) (terminals : List (List ℕ))
    → host ≡ s.host → limit ≡ s.limit → blocked ≡ s.blocked → poll ≡ s.poll → start ≡ s.start → terminals ≡ s.terminals
    → x1 ≡ o ++ 65 ∷ [] → x2 ≡ x1 ++ text_bytes host → x3 ≡ x2 ++ number_bytes limit → x4 ≡ x3 ++ list_bytes 0 six_bytes blocked → x5 ≡ x4 ++ number_bytes poll → x6 ≡ x5 ++ date_bytes start → x7 ≡ x6 ++ list_bytes 0 text_bytes terminals
    → x7 ≡ o ++ host_record (HostSetup s)
setup_written o x1 x2 x3 x4 x5 x6 x7 s host limit blocked poll start terminals h l b p d t e1 e2 e3 e4 e5 e6 e7 =
    joined o (65 ∷ []) (text_bytes s.host) (number_bytes s.limit) (list_bytes 0 six_bytes s.blocked) (number_bytes s.poll) (date_bytes s.start) (list_bytes 0 text_bytes s.terminals) x1 x2 x3 x4 x5 x6 x7
    e1
    (e2 ∙ ap (λ (v : List ℕ). x1 ++ text_bytes v) h)
    (e3 ∙ ap (λ (v : ℕ). x2 ++ number_bytes v) l)
    (e4 ∙ ap (λ (v : List (List ℕ)). x3 ++ list_bytes 0 six_bytes v) b)
    (e5 ∙ ap (λ (v : ℕ). x4 ++ number_bytes v) p)
    (e6 ∙ ap (λ (v : DateParts). x5 ++ date_bytes v) d)
    (e7 ∙ ap (λ (v : List (List ℕ)). x6 ++ list_bytes 0 text_bytes v) t)
