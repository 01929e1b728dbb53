-- What fields keep: just the bytes that a value is written as read as it.
use Rattle.std.proofs.Common.{◌≡◌, ◌⊎◌, ℕ, zero, suc, ◌+◌, ◌-◌, ◌^◌, ◌≤◌, ◌<◌, Bool, true, false, List, [], ◌∷◌, ◌++◌, length, take, drop, get_or, Option, Some, None, refl, sym, ◌∙◌, ap, subst, ⊎_elim, arith, length-append, take-append-drop, lt-ltb, ltb-true, le-leb, leb-true, eqb-true, eq-eqb}
use Rattle.std.specs.Prelude.{◌&&◌, ◌||◌, ◌==◌, nat_le, nat_lt, if◌then◌else◌}
use Rattle.std.specs.Int.{w64, to_be_bytes, from_be_bytes, byte_at, bytes_high_first}
use Rattle.std.specs.List.{list_all, flat_map}
use Rattle.std.proofs.lemmas.List.{take-take, take_at, drop_at, drop-drop, drop-take}
use Rattle.std.proofs.lemmas.Bool.{and_parts, and_from, cases_Bool, or_cases, false≢true, cond-true, cond-false}
use Rattle.std.proofs.lemmas.Option.{cond_some, some_pair_parts, same_Some}
use Rattle.std.proofs.lemmas.Nat.{be_bytes_8, from_be_bytes-to_be_bytes_8}
use Rattle.cap_entries.specs.RecordParts.{FieldAt, and_next, placed, read_as, as_at, pair_end, pair_at, times_end, times_at, choose, nothing_at, if_test, is_byte, is_number, bytes_at, small_of, number_of, small_at, number_at, text_at, list_at, small_bytes, number_bytes, text_bytes, list_bytes}

-- a field stands at a place
abbrev pub StandsAt : List ℕ → ℕ → List ℕ → Type 0
StandsAt bytes at field = take (length field) (drop at bytes) ≡ field

-- a value that fits was read, and stands there as it is written
pub record IsRead {A : Type 0} (fits : A → Bool) (bytes_of : A → List ℕ) (bytes : List ℕ) (at : ℕ) (value : A) (next : ℕ) : Type 0 where
  pub good : fits value ≡ true
  pub size : next ≡ at + length (bytes_of value)
  pub stands : StandsAt bytes at (bytes_of value)

pub record IsField {A : Type 0} (field : FieldAt A) (fits : A → Bool) (bytes_of : A → List ℕ) : Type 0 where
  pub back : (bytes : List ℕ) (at : ℕ) (value : A) → fits value ≡ true → StandsAt bytes at (bytes_of value) → field bytes at ≡ Some (value, at + length (bytes_of value))
  pub only : (bytes : List ℕ) (at : ℕ) (value : A) (next : ℕ) → field bytes at ≡ Some (value, next) → IsRead fits bytes_of bytes at value next

-- ---- places

stands_front : (bytes : List ℕ) (at : ℕ) (a b : List ℕ) → StandsAt bytes at (a ++ b) → StandsAt bytes at a
stands_front bytes at a b h =
    sym (take-take (length a) (length (a ++ b)) (drop at bytes) (omega (arith, length-append a b))) ∙ (ap (take (length a)) h ∙ take_at a b (length a) refl)

stands_back : (bytes : List ℕ) (at : ℕ) (a b : List ℕ) → StandsAt bytes at (a ++ b) → StandsAt bytes (at + length a) b
stands_back bytes at a b h =
    ap (take (length b)) (sym (drop-drop (length a) at bytes)) ∙ (sym (drop-take (length a) (length b) (drop at bytes))
    ∙ (ap (λ (n : ℕ). drop (length a) (take n (drop at bytes))) (sym (length-append a b)) ∙ (ap (drop (length a)) h ∙ drop_at a b (length a) refl)))

stands_both : (bytes : List ℕ) (at : ℕ) (a b : List ℕ) → StandsAt bytes at a → StandsAt bytes (at + length a) b → StandsAt bytes at (a ++ b)
stands_both bytes at a b p q =
    let rest : List ℕ = drop at bytes in
    ap (λ (n : ℕ). take n rest) (length-append a b)
    ∙ (sym (take-append-drop (length a) (take (length a + length b) rest))
    ∙ (ap (λ (l : List ℕ). l ++ drop (length a) (take (length a + length b) rest)) (take-take (length a) (length a + length b) rest (omega arith) ∙ p)
    ∙ ap (λ (l : List ℕ). a ++ l) (drop-take (length a) (length b) rest ∙ (ap (take (length b)) (drop-drop (length a) at bytes) ∙ q))))

-- ---- steps

next_some : {A B : Type 0} (o : Option (A × ℕ)) (follow : A → ℕ → Option (B × ℕ)) (b : B) (end : ℕ) → and_next o follow ≡ Some (b, end) → (a : A) × (mid : ℕ) × (o ≡ Some (a, mid)) × (follow a mid ≡ Some (b, end))
next_some None follow b end is = cc
next_some (Some found) follow b end is = (found.0, found.1, refl, is)

next_back : {A B : Type 0} (o : Option (A × ℕ)) (follow : A → ℕ → Option (B × ℕ)) (a : A) (mid : ℕ) (r : Option (B × ℕ)) → o ≡ Some (a, mid) → follow a mid ≡ r → and_next o follow ≡ r
next_back o follow a mid r is more = ap (λ p. and_next p follow) is ∙ more

placed_some : {B : Type 0} (o : Option B) (end : ℕ) (b : B) (n : ℕ) → placed o end ≡ Some (b, n) → (o ≡ Some b) × (end ≡ n)
placed_some None end b n is = cc
placed_some (Some v) end b n is = let q = some_pair_parts v b end n is in (ap Some q.0, q.1)

at_end : {A : Type 0} (value : A) (m n : ℕ) → m ≡ n → (let o : Option (A × ℕ) = Some (value, m) in o) ≡ Some (value, n)
at_end {A} value m n e = ap (λ (k : ℕ). (let o : Option (A × ℕ) = Some (value, k) in o)) e

-- ---- fields of fields

module _ {A B : Type 0} (first : FieldAt A) (second : FieldAt B) (fits_a : A → Bool) (fits_b : B → Bool) (bytes_a : A → List ℕ) (bytes_b : B → List ℕ) (f : IsField first fits_a bytes_a) (g : IsField second fits_b bytes_b) where
  abbrev both_fit : A × B → Bool
  both_fit p = fits_a p.0 && fits_b p.1

  abbrev both_bytes : A × B → List ℕ
  both_bytes p = bytes_a p.0 ++ bytes_b p.1

  pair_back : (bytes : List ℕ) (at : ℕ) (p : A × B) → both_fit p ≡ true → StandsAt bytes at (both_bytes p) → pair_at first second bytes at ≡ Some (p, at + length (both_bytes p))
  pair_back bytes at p good st =
      let parts = and_parts (fits_a p.0) (fits_b p.1) good in
      let mid : ℕ = at + length (bytes_a p.0) in
      next_back (first bytes at) (λ (a : A) (next : ℕ). and_next (second bytes next) (pair_end a)) p.0 mid (Some (p, at + length (both_bytes p)))
      (f.back bytes at p.0 parts.0 (stands_front bytes at (bytes_a p.0) (bytes_b p.1) st))
      (next_back (second bytes mid) (pair_end p.0) p.1 (mid + length (bytes_b p.1)) (Some (p, at + length (both_bytes p)))
      (g.back bytes mid p.1 parts.1 (stands_back bytes at (bytes_a p.0) (bytes_b p.1) st))
      (at_end p (mid + length (bytes_b p.1)) (at + length (both_bytes p)) (omega (arith, length-append (bytes_a p.0) (bytes_b p.1)))))

  pair_only : (bytes : List ℕ) (at : ℕ) (p : A × B) (next : ℕ) → pair_at first second bytes at ≡ Some (p, next) → IsRead both_fit both_bytes bytes at p next
  pair_only bytes at p next is =
      let one = next_some (first bytes at) (λ (a : A) (n : ℕ). and_next (second bytes n) (pair_end a)) p next is in
      let two = next_some (second bytes one.1) (pair_end one.0) p next one.3 in
      let q : A × B = (one.0, two.0) in
      let same = some_pair_parts q p two.1 next two.3 in
      let ra = f.only bytes at one.0 one.1 one.2 in
      let rb = g.only bytes one.1 two.0 two.1 two.2 in
      let there : StandsAt bytes (at + length (bytes_a one.0)) (bytes_b two.0) = subst (λ (k : ℕ). StandsAt bytes k (bytes_b two.0)) ra.size rb.stands in
      subst (λ (r : A × B). IsRead both_fit both_bytes bytes at r next) same.0
      (record {
        good = and_from (fits_a one.0) (fits_b two.0) ra.good rb.good;
        size = omega (arith, same.1, rb.size, ra.size, length-append (bytes_a one.0) (bytes_b two.0));
        stands = stands_both bytes at (bytes_a one.0) (bytes_b two.0) ra.stands there;
      })

  pub pair_field : IsField (pair_at first second) (λ p. fits_a p.0 && fits_b p.1) (λ p. bytes_a p.0 ++ bytes_b p.1)
  pair_field = record { back = pair_back; only = pair_only }

-- how a value is spelt as one of another field, and what is known of it
pub record IsSpelt {A B : Type 0} (of : A → Option B) (spell : B → A) (fits_a : A → Bool) (bytes_a : A → List ℕ) (fits : B → Bool) (bytes_of : B → List ℕ) : Type 0 where
  pub there : (b : B) → fits b ≡ true → (fits_a (spell b) ≡ true) × (of (spell b) ≡ Some b) × (bytes_of b ≡ bytes_a (spell b))
  pub here : (a : A) (b : B) → fits_a a ≡ true → of a ≡ Some b → (fits b ≡ true) × (spell b ≡ a)

module _ {A B : Type 0} (field : FieldAt A) (fits_a : A → Bool) (bytes_a : A → List ℕ) (f : IsField field fits_a bytes_a)
    (of : A → Option B) (spell : B → A) (fits : B → Bool) (bytes_of : B → List ℕ) (s : IsSpelt of spell fits_a bytes_a fits bytes_of) where
  read_back : (bytes : List ℕ) (at : ℕ) (b : B) → fits b ≡ true → StandsAt bytes at (bytes_of b) → read_as of field bytes at ≡ Some (b, at + length (bytes_of b))
  read_back bytes at b good st =
      let t = s.there b good in
      let mid : ℕ = at + length (bytes_a (spell b)) in
      next_back (field bytes at) (λ (v : A) (end : ℕ). placed (of v) end) (spell b) mid (Some (b, at + length (bytes_of b)))
      (f.back bytes at (spell b) t.0 (subst (λ (l : List ℕ). StandsAt bytes at l) t.2 st))
      (ap (λ (o : Option B). placed o mid) t.1 ∙ at_end b mid (at + length (bytes_of b)) (ap (λ (l : List ℕ). at + length l) (sym t.2)))

  read_only : (bytes : List ℕ) (at : ℕ) (b : B) (next : ℕ) → read_as of field bytes at ≡ Some (b, next) → IsRead fits bytes_of bytes at b next
  read_only bytes at b next is =
      let one = next_some (field bytes at) (λ (v : A) (end : ℕ). placed (of v) end) b next is in
      let p = placed_some (of one.0) one.1 b next one.3 in
      let r = f.only bytes at one.0 one.1 one.2 in
      let q = s.here one.0 b r.good p.0 in
      let e : bytes_a one.0 ≡ bytes_of b = ap bytes_a (sym q.1) ∙ sym (s.there b q.0).2 in
      record {
        good = q.0;
        size = sym p.1 ∙ (r.size ∙ ap (λ (l : List ℕ). at + length l) e);
        stands = subst (λ (l : List ℕ). StandsAt bytes at l) e r.stands;
      }

  pub read_field : IsField (read_as of field) fits bytes_of
  read_field = record { back = read_back; only = read_only }

-- a field that passes a test
pub test_field : {A : Type 0} (field : FieldAt A) (fits_a : A → Bool) (bytes_a : A → List ℕ) → IsField field fits_a bytes_a → (test fits : A → Bool) → ((a : A) → fits a ≡ true → (fits_a a ≡ true) × (test a ≡ true)) → ((a : A) → fits_a a ≡ true → test a ≡ true → fits a ≡ true) → IsField (read_as (if_test test) field) fits bytes_a
test_field {A} field fits_a bytes_a f test fits out into =
    read_field field fits_a bytes_a f (if_test test) (λ (a : A). a) fits bytes_a
    (record {
      there = λ a good. (let t = out a good in (t.0, cond-true (test a) (Some a) None t.1, refl));
      here = λ a b fit is. (let q = cond_some (test a) a b is in (subst (λ (c : A). fits c ≡ true) q.1 (into a fit q.0), sym q.1));
    })

-- a field whose value is the argument of a constructor
pub made_field : {A B : Type 0} (field : FieldAt A) (fits_a : A → Bool) (bytes_a : A → List ℕ) → IsField field fits_a bytes_a → (of : A → B) (spell : B → A) (fits : B → Bool) (bytes_of : B → List ℕ)
    → ((b : B) → fits b ≡ true → (fits_a (spell b) ≡ true) × (of (spell b) ≡ b) × (bytes_of b ≡ bytes_a (spell b))) → ((a : A) → fits_a a ≡ true → (fits (of a) ≡ true) × (spell (of a) ≡ a)) → IsField (as_at of field) fits bytes_of
made_field {A} {B} field fits_a bytes_a f of spell fits bytes_of out into =
    read_field field fits_a bytes_a f (λ (a : A). Some (of a)) spell fits bytes_of
    (record {
      there = λ b good. (let t = out b good in (t.0, ap Some t.1, t.2));
      here = λ a b fit is. (let e = same_Some (of a) b is in let t = into a fit in (subst (λ (c : B). fits c ≡ true) e t.0, ap spell (sym e) ∙ t.1));
    })

-- ---- bytes, numbers, texts

same_list : (b : Bool) (x y : List ℕ × ℕ) → (if b then Some x else None) ≡ Some y → (b ≡ true) × (x ≡ y)
same_list b x y is = cond_some b x y is

pub bytes_field : (n : ℕ) → IsField (bytes_at n) (λ text. length text == n) (λ text. text)
bytes_field n = record {
  back = λ bytes at text good st. (
      let e : length text ≡ n = eqb-true (length text) n good in
      let s : take n (drop at bytes) ≡ text = ap (λ (k : ℕ). take k (drop at bytes)) (sym e) ∙ st in
      ap (λ (l : List ℕ). if length l == n then (let o : Option (List ℕ × ℕ) = Some (l, at + n) in o) else None) s
      ∙ (cond-true (length text == n) (Some (text, at + n)) None good ∙ at_end text (at + n) (at + length text) (ap (λ (k : ℕ). at + k) (sym e)))
      );
  only = λ bytes at text next is. (
      let found : List ℕ = take n (drop at bytes) in
      let q = same_list (length found == n) (found, at + n) (text, next) is in
      let e : found ≡ text = ap (λ (r : List ℕ × ℕ). r.0) q.1 in
      let m : at + n ≡ next = ap (λ (r : List ℕ × ℕ). r.1) q.1 in
      let test : (length text == n) ≡ true = subst (λ (l : List ℕ). (length l == n) ≡ true) e q.0 in
      let size : length text ≡ n = eqb-true (length text) n test in
      record {
        good = test;
        size = sym m ∙ ap (λ (k : ℕ). at + k) (sym size);
        stands = ap (λ (k : ℕ). take k (drop at bytes)) size ∙ e;
      }
      );
}

small_here : (a : List ℕ) (b : ℕ) → (length a == 1) ≡ true → small_of a ≡ Some b → (is_byte b ≡ true) × (small_bytes b ≡ a)
small_here [] b one is = cc
small_here (x ∷ []) b one is = let q = cond_some (is_byte x) x b is in (subst (λ (c : ℕ). is_byte c ≡ true) q.1 q.0, ap small_bytes (sym q.1))
small_here (x ∷ y ∷ rest) b one is = let e : suc (suc (length rest)) ≡ 1 = eqb-true (length (x ∷ y ∷ rest)) 1 one in absurd (omega arith)

pub small_field : IsField small_at is_byte small_bytes
unfolding small_at
small_field =
    read_field (bytes_at 1) (λ (text : List ℕ). length text == 1) (λ (text : List ℕ). text) (bytes_field 1) small_of small_bytes is_byte small_bytes
    (record {
      there = λ b good. (refl, cond-true (is_byte b) (Some b) None good, refl);
      here = small_here;
    })

byte_low : (k x : ℕ) → byte_at k x < 256
byte_low zero x = omega arith
byte_low (suc k) x = omega arith

all_bytes : (n x : ℕ) → list_all is_byte (bytes_high_first n x) ≡ true
all_bytes zero x = refl
all_bytes (suc n) x = and_from (is_byte (byte_at n x)) (list_all is_byte (bytes_high_first n x)) (lt-ltb (byte_at n x) 256 (byte_low n x)) (all_bytes n x)

each_byte : (text : List ℕ) (i : ℕ) → list_all is_byte text ≡ true → get_or text i 0 < 256
each_byte [] i all = omega arith
each_byte (b ∷ text) zero all = ltb-true b 256 (and_parts (is_byte b) (list_all is_byte text) all).0
each_byte (b ∷ text) (suc i) all = each_byte text i (and_parts (is_byte b) (list_all is_byte text) all).1

number_below : (text : List ℕ) → ((i : ℕ) → get_or text i 0 < 256) → from_be_bytes w64 text < 2 ^ 64
number_below text fits = omega (arith, fits 0, fits 1, fits 2, fits 3, fits 4, fits 5, fits 6, fits 7)

number_here : (text : List ℕ) (n : ℕ) → (length text == 8) ≡ true → number_of text ≡ Some n → (is_number n ≡ true) × (to_be_bytes w64 n ≡ text)
number_here text n eight is =
    let q = cond_some (list_all is_byte text) (from_be_bytes w64 text) n is in
    let low : (i : ℕ) → get_or text i 0 < 256 = λ i. each_byte text i q.0 in
    (lt-ltb n (2 ^ 64) (subst (λ (k : ℕ). k < 2 ^ 64) q.1 (number_below text low)), be_bytes_8 text n (eqb-true (length text) 8 eight) low (sym q.1))

number_there : (n : ℕ) → is_number n ≡ true → ((length (to_be_bytes w64 n) == 8) ≡ true) × (number_of (to_be_bytes w64 n) ≡ Some n)
number_there n good = (
  refl,
  cond-true (list_all is_byte (to_be_bytes w64 n)) (Some (from_be_bytes w64 (to_be_bytes w64 n))) None (all_bytes 8 n) ∙ ap Some (from_be_bytes-to_be_bytes_8 n (ltb-true n (2 ^ 64) good)),
)

pub number_field : IsField number_at is_number number_bytes
unfolding number_at number_bytes
number_field =
    read_field (bytes_at 8) (λ (text : List ℕ). length text == 8) (λ (text : List ℕ). text) (bytes_field 8) number_of (to_be_bytes w64) is_number (to_be_bytes w64)
    (record {
      there = λ n good. (let t = number_there n good in (t.0, t.1, refl));
      here = number_here;
    })

pub length-number_bytes : (n : ℕ) → length (number_bytes n) ≡ 8
unfolding number_bytes
length-number_bytes n = refl

pub number_length : (n : ℕ) → length (number_bytes n) ≡ 8
number_length n = length-number_bytes n

abbrev pub is_text : List ℕ → Bool
is_text text = is_byte (length text)

text_back : (bytes : List ℕ) (at : ℕ) (text : List ℕ) → is_text text ≡ true → StandsAt bytes at (text_bytes text) → text_at bytes at ≡ Some (text, at + length (text_bytes text))
unfolding text_at
text_back bytes at text good st =
    next_back (small_at bytes at) (λ (size next : ℕ). bytes_at size bytes next) (length text) (at + 1) (Some (text, at + length (text_bytes text)))
    (small_field.back bytes at (length text) good (stands_front bytes at (length text ∷ []) text st))
    ((bytes_field (length text)).back bytes (at + 1) text (eq-eqb (length text) (length text) refl) (stands_back bytes at (length text ∷ []) text st)
    ∙ at_end text (at + 1 + length text) (at + length (text_bytes text)) (omega arith))

text_only : (bytes : List ℕ) (at : ℕ) (text : List ℕ) (next : ℕ) → text_at bytes at ≡ Some (text, next) → IsRead is_text text_bytes bytes at text next
unfolding text_at
text_only bytes at text next is =
    let one = next_some (small_at bytes at) (λ (size next : ℕ). bytes_at size bytes next) text next is in
    let ra = small_field.only bytes at one.0 one.1 one.2 in
    let rb = (bytes_field one.0).only bytes one.1 text next one.3 in
    let e : one.0 ≡ length text = sym (eqb-true (length text) one.0 rb.good) in
    let there : StandsAt bytes (at + 1) text = subst (λ (k : ℕ). StandsAt bytes k text) ra.size rb.stands in
    record {
      good = subst (λ (k : ℕ). is_byte k ≡ true) e ra.good;
      size = omega (arith, rb.size, ra.size);
      stands = subst (λ (k : ℕ). StandsAt bytes at (k ∷ text)) e (stands_both bytes at (one.0 ∷ []) text ra.stands there);
    }

pub text_field : IsField text_at is_text text_bytes
text_field = record { back = text_back; only = text_only }

-- ---- lists

pub record IsTimes {A : Type 0} (fits : A → Bool) (bytes_of : A → List ℕ) (bytes : List ℕ) (at n : ℕ) (list : List A) (next : ℕ) : Type 0 where
  pub count : length list ≡ n
  pub good : list_all fits list ≡ true
  pub size : next ≡ at + length (flat_map bytes_of list)
  pub stands : StandsAt bytes at (flat_map bytes_of list)

module _ {A : Type 0} (field : FieldAt A) (fits : A → Bool) (bytes_of : A → List ℕ) (f : IsField field fits bytes_of) where
  times_back : (n : ℕ) (bytes : List ℕ) (at : ℕ) (list : List A) → length list ≡ n → list_all fits list ≡ true → StandsAt bytes at (flat_map bytes_of list) → times_at field n bytes at ≡ Some (list, at + length (flat_map bytes_of list))
  times_back zero bytes at [] e good st = at_end [] at (at + 0) (omega arith)
  times_back zero bytes at (x ∷ list) e good st = absurd (omega arith)
  times_back (suc n) bytes at [] e good st = absurd (omega arith)
  times_back (suc n) bytes at (x ∷ list) e good st =
      let parts = and_parts (fits x) (list_all fits list) good in
      let mid : ℕ = at + length (bytes_of x) in
      let rest : List ℕ = flat_map bytes_of list in
      next_back (field bytes at) (λ (a : A) (next : ℕ). and_next (times_at field n bytes next) (times_end a)) x mid (Some (x ∷ list, at + length (bytes_of x ++ rest)))
      (f.back bytes at x parts.0 (stands_front bytes at (bytes_of x) rest st))
      (next_back (times_at field n bytes mid) (times_end x) list (mid + length rest) (Some (x ∷ list, at + length (bytes_of x ++ rest)))
      (times_back n bytes mid list (omega arith) parts.1 (stands_back bytes at (bytes_of x) rest st))
      (at_end (x ∷ list) (mid + length rest) (at + length (bytes_of x ++ rest)) (omega (arith, length-append (bytes_of x) rest))))

  times_only : (n : ℕ) (bytes : List ℕ) (at : ℕ) (list : List A) (next : ℕ) → times_at field n bytes at ≡ Some (list, next) → IsTimes fits bytes_of bytes at n list next
  times_only zero bytes at list next is =
      let none : List A = [] in
      let same = some_pair_parts none list at next is in
      subst (λ (l : List A). IsTimes fits bytes_of bytes at 0 l next) same.0 (record { count = refl; good = refl; size = omega (arith, same.1); stands = refl })
  times_only (suc n) bytes at list next is =
      let one = next_some (field bytes at) (λ (a : A) (k : ℕ). and_next (times_at field n bytes k) (times_end a)) list next is in
      let two = next_some (times_at field n bytes one.1) (times_end one.0) list next one.3 in
      let ra = f.only bytes at one.0 one.1 one.2 in
      let rb = times_only n bytes one.1 two.0 two.1 two.2 in
      let same = some_pair_parts (one.0 ∷ two.0) list two.1 next two.3 in
      let rest : List ℕ = flat_map bytes_of two.0 in
      let there : StandsAt bytes (at + length (bytes_of one.0)) rest = subst (λ (k : ℕ). StandsAt bytes k rest) ra.size rb.stands in
      subst (λ (l : List A). IsTimes fits bytes_of bytes at (suc n) l next) same.0
      (record {
        count = omega (arith, rb.count);
        good = and_from (fits one.0) (list_all fits two.0) ra.good rb.good;
        size = omega (arith, same.1, rb.size, ra.size, length-append (bytes_of one.0) rest);
        stands = stands_both bytes at (bytes_of one.0) rest ra.stands there;
      })

  module _ (more : ℕ) where
    abbrev list_fits : List A → Bool
    list_fits list = (nat_le more (length list) && nat_lt (length list) (256 + more)) && list_all fits list

    list_back : (bytes : List ℕ) (at : ℕ) (list : List A) → list_fits list ≡ true → StandsAt bytes at (list_bytes more bytes_of list) → list_at more field bytes at ≡ Some (list, at + length (list_bytes more bytes_of list))
    list_back bytes at list good st =
        let parts = and_parts (nat_le more (length list) && nat_lt (length list) (256 + more)) (list_all fits list) good in
        let ends = and_parts (nat_le more (length list)) (nat_lt (length list) (256 + more)) parts.0 in
        let low : more ≤ length list = leb-true more (length list) ends.0 in
        let high : length list < 256 + more = ltb-true (length list) (256 + more) ends.1 in
        let n : ℕ = length list - more in
        let rest : List ℕ = flat_map bytes_of list in
        let whole : length list ≡ n + more = omega arith in
        next_back (small_at bytes at) (λ (k next : ℕ). times_at field (k + more) bytes next) n (at + 1) (Some (list, at + length (n ∷ rest)))
        (small_field.back bytes at n (lt-ltb n 256 (omega arith)) (stands_front bytes at (n ∷ []) rest st))
        (times_back (n + more) bytes (at + 1) list whole parts.1 (stands_back bytes at (n ∷ []) rest st)
        ∙ at_end list (at + 1 + length rest) (at + length (n ∷ rest)) (omega arith))

    list_only : (bytes : List ℕ) (at : ℕ) (list : List A) (next : ℕ) → list_at more field bytes at ≡ Some (list, next) → IsRead list_fits (list_bytes more bytes_of) bytes at list next
    list_only bytes at list next is =
        let one = next_some (small_at bytes at) (λ (k next : ℕ). times_at field (k + more) bytes next) list next is in
        let ra = small_field.only bytes at one.0 one.1 one.2 in
        let rb = times_only (one.0 + more) bytes one.1 list next one.3 in
        let low : one.0 < 256 = ltb-true one.0 256 ra.good in
        let rest : List ℕ = flat_map bytes_of list in
        let e : one.0 ≡ length list - more = omega (arith, rb.count) in
        let there : StandsAt bytes (at + 1) rest = subst (λ (k : ℕ). StandsAt bytes k rest) ra.size rb.stands in
        record {
          good = and_from _ (list_all fits list) (and_from (nat_le more (length list)) (nat_lt (length list) (256 + more)) (le-leb more (length list) (omega (arith, rb.count))) (lt-ltb (length list) (256 + more) (omega (arith, rb.count, low)))) rb.good;
          size = omega (arith, rb.size, ra.size);
          stands = subst (λ (k : ℕ). StandsAt bytes at (k ∷ rest)) e (stands_both bytes at (one.0 ∷ []) rest ra.stands there);
        }

    pub list_field : IsField (list_at more field) (λ list. (nat_le more (length list) && nat_lt (length list) (256 + more)) && list_all fits list) (list_bytes more bytes_of)
    list_field = record { back = list_back; only = list_only }

-- ---- the choice by a first byte

pub record IsBehind {A : Type 0} (behind : ℕ → FieldAt A) (among : ℕ → Bool) (tag : A → ℕ) (fits : A → Bool) (body : A → List ℕ) : Type 0 where
  pub back : (bytes : List ℕ) (at : ℕ) (value : A) → among (tag value) ≡ true → fits value ≡ true → StandsAt bytes at (body value) → behind (tag value) bytes at ≡ Some (value, at + length (body value))
  pub only : (first : ℕ) (bytes : List ℕ) (at : ℕ) (value : A) (next : ℕ) → behind first bytes at ≡ Some (value, next) → (tag value ≡ first) × IsRead fits body bytes at value next

module _ {A : Type 0} (tag : A → ℕ) (fits : A → Bool) (body : A → List ℕ) where
  pub nothing_behind : IsBehind (λ first. nothing_at) (λ first. false) tag fits body
  nothing_behind = record {
    back = λ bytes at value no good st. absurd (false≢true no);
    only = λ first bytes at value next is. cc;
  }

  module _ (byte : ℕ) (field : FieldAt A) (f : IsField field (λ value. (tag value == byte) && fits value) body) (rest : ℕ → FieldAt A) (among : ℕ → Bool) (r : IsBehind rest among tag fits body) where
    choose_back : (bytes : List ℕ) (at : ℕ) (value : A) → ((tag value == byte) || among (tag value)) ≡ true → fits value ≡ true → StandsAt bytes at (body value) → choose (tag value) byte field (rest (tag value)) bytes at ≡ Some (value, at + length (body value))
    choose_back bytes at value one good st =
        ⊎_elim
        (λ here. ap (λ (b : Bool). (if b then field else rest (tag value)) bytes at) here ∙ f.back bytes at value (and_from (tag value == byte) (fits value) here good) st)
        (λ other.
        let later : among (tag value) ≡ true = ⊎_elim (λ here. absurd (false≢true (sym other ∙ here))) (λ is. is) (or_cases (tag value == byte) (among (tag value)) one) in
        ap (λ (b : Bool). (if b then field else rest (tag value)) bytes at) other ∙ r.back bytes at value later good st)
        (cases_Bool (tag value == byte))

    choose_only : (first : ℕ) (bytes : List ℕ) (at : ℕ) (value : A) (next : ℕ) → choose first byte field (rest first) bytes at ≡ Some (value, next) → (tag value ≡ first) × IsRead fits body bytes at value next
    choose_only first bytes at value next is =
        ⊎_elim
        (λ here.
        let q = f.only bytes at value next (sym (ap (λ (b : Bool). (if b then field else rest first) bytes at) here) ∙ is) in
        let parts = and_parts (tag value == byte) (fits value) q.good in
        let same : tag value ≡ first = eqb-true (tag value) byte parts.0 ∙ sym (eqb-true first byte here) in
        (same, record { good = parts.1; size = q.size; stands = q.stands }))
        (λ other. r.only first bytes at value next (sym (ap (λ (b : Bool). (if b then field else rest first) bytes at) other) ∙ is))
        (cases_Bool (first == byte))

    pub choose_behind : IsBehind (λ first. choose first byte field (rest first)) (λ first. (first == byte) || among first) tag fits body
    choose_behind = record { back = choose_back; only = choose_only }

  module _ (behind : ℕ → FieldAt A) (among : ℕ → Bool) (b : IsBehind behind among tag fits body) (known : (value : A) → (among (tag value) ≡ true) × (is_byte (tag value) ≡ true)) where
    abbrev tagged_at : FieldAt A
    tagged_at bytes at = and_next (small_at bytes at) (λ first next. behind first bytes next)

    abbrev tagged_bytes : A → List ℕ
    tagged_bytes value = tag value ∷ body value

    tagged_back : (bytes : List ℕ) (at : ℕ) (value : A) → fits value ≡ true → StandsAt bytes at (tagged_bytes value) → tagged_at bytes at ≡ Some (value, at + length (tagged_bytes value))
    tagged_back bytes at value good st =
        let k = known value in
        next_back (small_at bytes at) (λ (first next : ℕ). behind first bytes next) (tag value) (at + 1) (Some (value, at + length (tagged_bytes value)))
        (small_field.back bytes at (tag value) k.1 (stands_front bytes at (tag value ∷ []) (body value) st))
        (b.back bytes (at + 1) value k.0 good (stands_back bytes at (tag value ∷ []) (body value) st)
        ∙ at_end value (at + 1 + length (body value)) (at + length (tagged_bytes value)) (omega arith))

    tagged_only : (bytes : List ℕ) (at : ℕ) (value : A) (next : ℕ) → tagged_at bytes at ≡ Some (value, next) → IsRead fits tagged_bytes bytes at value next
    tagged_only bytes at value next is =
        let one = next_some (small_at bytes at) (λ (first next : ℕ). behind first bytes next) value next is in
        let ra = small_field.only bytes at one.0 one.1 one.2 in
        let rb = b.only one.0 bytes one.1 value next one.3 in
        let there : StandsAt bytes (at + 1) (body value) = subst (λ (k : ℕ). StandsAt bytes k (body value)) ra.size rb.1.stands in
        record {
          good = rb.1.good;
          size = omega (arith, rb.1.size, ra.size);
          stands = subst (λ (k : ℕ). StandsAt bytes at (k ∷ body value)) (sym rb.0) (stands_both bytes at (one.0 ∷ []) (body value) ra.stands there);
        }

    pub tagged_field : IsField (λ bytes at. and_next (small_at bytes at) (λ first next. behind first bytes next)) fits (λ value. tag value ∷ body value)
    tagged_field = record { back = tagged_back; only = tagged_only }
