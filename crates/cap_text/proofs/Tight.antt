-- A leaf's text is short, and no byte of it ends a piece.
use Rattle.std.proofs.Common.{ℕ, zero, suc, ◌≤◌, ◌+◌, ◌≡◌, List, [], ◌∷◌, ◌++◌, Bool, true, false, Option, Some, None, length, take, drop, length-append, refl, sym, ◌∙◌, ap, subst, cond, arith, rules, ◌⊎◌, inl, inr, not, nat_lt}
use Rattle.std.specs.Prelude.{◌&&◌, ◌||◌, ◌==◌, nat_le, codes}
use Rattle.std.specs.List.{list_all, take_while}
use Rattle.std.specs.Char.{is_ascii_digit}
use Rattle.std.specs.Str.{bytes_eq}
use Rattle.std.proofs.lemmas.List.Folds.{list_all-append}
use Rattle.std.specs.Prelude.{option_map, if◌then◌else◌}
use Rattle.std.specs.Str.Parse.{digits_value}
use Rattle.cap_base.specs.Text.{is_run, is_ident_byte, is_code_byte}
use Rattle.cap_base.specs.Amount.{whole_of, tail_of, is_tail, hundredths_of, is_decimal}
use Rattle.cap_base.proofs.Digits.{all_take_while}
use Rattle.cap_leaf.specs.declared.kinds.LeafKind.{LeafKind}
use Rattle.cap_leaf.specs.declared.kinds.LeafKind.TheVariants as kind
use Rattle.cap_leaf.specs.declared.kinds.CodeList.{CodeList}
use Rattle.cap_leaf.specs.declared.kinds.CodeList.TheVariants as list
use Rattle.cap_leaf.specs.declared.kinds.Kind.{Kind}
use Rattle.cap_leaf.specs.declared.kinds.Kind.TheVariants.{Caaa001, Caaa002, Caaa003, Caaa004, Caaa005, Caaa006, Caaa007, Caaa008, Caaa009, Caaa010, Caaa011, Caaa012, Caaa013, Caaa014, Caaa015, Catm001, Catm002, Catm003, Catm004}
use Rattle.cap_leaf.specs.declared.leaf.Leaf.{Leaf}
use Rattle.cap_leaf.specs.declared.leaf.Leaf.TheVariants as leaf
use Rattle.cap_leaf.specs.Codes.{codes_of, function_codes, is_list}
use Rattle.cap_leaf.specs.DateText.{is_date, date_of, part, number_at, are_digits, is_moment, fraction_of, is_fraction, is_offset, is_zone_text as is_zone, fraction_in, zone_in}
use Rattle.cap_leaf.proofs.Moments.{IsMoment, moment_of}
use Rattle.std.proofs.lemmas.List.{take-append-drop, drop-drop, length-drop, length-take}
use Rattle.cap_leaf.specs.Spelling.{leaf_of, is_kind, place_in}
use Rattle.cap_trees.specs.Tests.{is_plain}
use Rattle.cap_text.proofs.Common.{and_true, tag_is, chosen}

abbrev Tight : List ℕ → Type 0
Tight text = (length text ≤ 35) × (list_all is_plain text ≡ true)

at_most : (n m : ℕ) → nat_le n m ≡ true → n ≤ m
at_most n m e = search rules

is_not : (b : Bool) → not b ≡ true → b ≡ false
is_not true e = cc
is_not false e = refl

equal : (n m : ℕ) → (n == m) ≡ true → n ≡ m
equal n m e = search rules

kept_is : {A : Type 0} (f : A → Leaf) (test : Bool) (x : A) (y : Leaf) → option_map f (if test then Some x else None) ≡ Some y → test ≡ true
kept_is f true x y e = refl
kept_is f false x y e = cc

not_if : (b : Bool) → (b ≡ true → ⊥) → not b ≡ true
not_if true h = absurd (h refl)
not_if false h = refl

-- a sort of bytes without `>`
plain_byte : (p : ℕ → Bool) → p 62 ≡ false → (b : ℕ) → p b ≡ true → is_plain b ≡ true
plain_byte p h b e = not_if (b == 62) (λ s. let t : true ≡ false = sym e ∙ ap p (equal b 62 s) ∙ h in cc)

plain_all : (p : ℕ → Bool) → p 62 ≡ false → (bs : List ℕ) → list_all p bs ≡ true → list_all is_plain bs ≡ true
plain_all p h [] e = refl
plain_all p h (b ∷ bs) e =
    let t = and_true (p b) (list_all p bs) e in
    ap (λ c. c && list_all is_plain bs) (plain_byte p h b t.0) ∙ plain_all p h bs t.1

run_tight : (least most : ℕ) (p : ℕ → Bool) (text : List ℕ) → p 62 ≡ false → most ≤ 35 → is_run least most p text ≡ true → Tight text
run_tight least most p text h m e =
    let t = and_true (nat_le least (length text) && nat_le (length text) most) (list_all p text) e in
    let u = and_true (nat_le least (length text)) (nat_le (length text) most) t.0 in
    (omega (arith, at_most (length text) most u.1, m), plain_all p h text t.1)

taken : (n : ℕ) (xs : List ℕ) → take n xs ++ drop (length (take n xs)) xs ≡ xs
taken zero xs = refl
taken (suc n) [] = refl
taken (suc n) (x ∷ xs) = ap (λ l. x ∷ l) (taken n xs)

parted : (p : ℕ → Bool) (xs : List ℕ) → take_while p xs ++ drop (length (take_while p xs)) xs ≡ xs
parted p xs = taken _ xs

tail_tight : (text : List ℕ) → is_tail text ≡ true → (length text ≤ 3) × (list_all is_plain text ≡ true)
tail_tight [] e = (omega arith, refl)
tail_tight (a ∷ []) e = cc
tail_tight (a ∷ b ∷ []) e =
    let t = and_true (a == 46) (is_ascii_digit b) e in
    (omega arith, ap (λ x. x && list_all is_plain (b ∷ [])) (plain_byte (λ c. c == 46) refl a t.0) ∙ ap (λ x. x && true) (plain_byte is_ascii_digit refl b t.1))
tail_tight (a ∷ b ∷ c ∷ []) e =
    let t = and_true (a == 46) (is_ascii_digit b && is_ascii_digit c) e in
    let u = and_true (is_ascii_digit b) (is_ascii_digit c) t.1 in (
      omega arith,
      ap (λ x. x && list_all is_plain (b ∷ c ∷ [])) (plain_byte (λ c. c == 46) refl a t.0) ∙ ap (λ x. x && list_all is_plain (c ∷ [])) (plain_byte is_ascii_digit refl b u.0)
          ∙ ap (λ x. x && true) (plain_byte is_ascii_digit refl c u.1),
    )
tail_tight (a ∷ b ∷ c ∷ d ∷ rest) e = cc

plain_both : (xs ys : List ℕ) → list_all is_plain xs ≡ true → list_all is_plain ys ≡ true → list_all is_plain (xs ++ ys) ≡ true
plain_both xs ys p q = list_all-append is_plain xs ys ∙ ap (λ b. b && list_all is_plain ys) p ∙ q

decimal_tight : (most : ℕ) (text : List ℕ) → most ≤ 30 → is_decimal most text ≡ true → Tight text
decimal_tight most text m e =
    let t = and_true (nat_le 1 (length (whole_of text)) && nat_le (length (whole_of text)) most) (is_tail (tail_of text)) e in
    let u = and_true (nat_le 1 (length (whole_of text))) (nat_le (length (whole_of text)) most) t.0 in
    let v = tail_tight (tail_of text) t.1 in
    subst Tight (parted is_ascii_digit text) (
      omega (arith, length-append (whole_of text) (tail_of text), at_most (length (whole_of text)) most u.1, m, v.0),
      plain_both (whole_of text) (tail_of text) (plain_all is_ascii_digit refl (whole_of text) (all_take_while is_ascii_digit text)) v.1,
    )

-- ---- codes

abbrev is_tight : List ℕ → Bool
is_tight text = nat_le (length text) 35 && list_all is_plain text

place_tight : (codes : List (List ℕ)) (at : ℕ) (text : List ℕ) (n : ℕ) → list_all is_tight codes ≡ true → place_in codes at text ≡ Some n → Tight text
place_tight [] at text n h e = cc
place_tight (c ∷ cs) at text n h e =
    let t = and_true (is_tight c) (list_all is_tight cs) h in
    elim (chosen (bytes_eq c text) (Some at) (place_in cs (suc at) text) (Some n) e) [
      | inl (same, q) ↦ (let u = and_true (nat_le (length c) 35) (list_all is_plain c) t.0 in subst Tight (tag_is c text same) (at_most (length c) 35 u.0, u.1))
      | inr (other, q) ↦ place_tight cs (suc at) text n t.1 q
    ]

code_some : (l : CodeList) (o : Option ℕ) (x : Leaf) → option_map (leaf.Code l) o ≡ Some x → (n : ℕ) × (o ≡ Some n)
code_some l None x e = cc
code_some l (Some n) x e = (n, refl)

function_tight : (k : Kind) → list_all is_tight (function_codes k) ≡ true
function_tight Caaa001 = refl
function_tight Caaa002 = refl
function_tight Caaa003 = refl
function_tight Caaa004 = refl
function_tight Caaa005 = refl
function_tight Caaa006 = refl
function_tight Caaa007 = refl
function_tight Caaa008 = refl
function_tight Caaa009 = refl
function_tight Caaa010 = refl
function_tight Caaa011 = refl
function_tight Caaa012 = refl
function_tight Caaa013 = refl
function_tight Caaa014 = refl
function_tight Caaa015 = refl
function_tight Catm001 = refl
function_tight Catm002 = refl
function_tight Catm003 = refl
function_tight Catm004 = refl

protocol_plain : (d : ℕ) → d ≤ 9 → is_plain (48 + d) ≡ true
protocol_plain d h = not_if (48 + d == 62) (λ s. let e : 48 + d ≡ 62 = equal (48 + d) 62 s in omega (arith, e, h))

list_tight : (l : CodeList) → is_list l ≡ true → list_all is_tight (codes_of l) ≡ true
list_tight list.Response e = refl
list_tight list.Reason e = refl
list_tight list.Wanted e = refl
list_tight list.AnySet e = refl
list_tight list.Act e = refl
list_tight (list.Protocol d) e = ap (λ b. (true && (b && true)) && true) (protocol_plain d (at_most d 9 e))
list_tight (list.Function k) e = function_tight k

-- ---- dates

abbrev Plain : List ℕ → Type 0
Plain text = list_all is_plain text ≡ true

-- a text that is cut at a place
plain_cut : (from count to : ℕ) (text : List ℕ) → from + count ≡ to → Plain (part from count text) → Plain (drop to text) → Plain (drop from text)
plain_cut from count to text e p q =
    subst Plain (take-append-drop count (drop from text))
    (plain_both (take count (drop from text)) (drop count (drop from text)) p (subst Plain (ap (λ n. drop n text) (sym e) ∙ sym (drop-drop count from text)) q))

digits_plain : (count : ℕ) (text : List ℕ) → are_digits count text ≡ true → Plain text
digits_plain count text e = plain_all is_ascii_digit refl text (and_true (length text == count) (list_all is_ascii_digit text) e).1

mark_plain : (text mark : List ℕ) → bytes_eq text mark ≡ true → Plain mark → Plain text
mark_plain text mark e p = subst Plain (sym (tag_is text mark e)) p

one_of_two : (a b : Bool) → (a || b) ≡ true → (a ≡ true) ⊎ (b ≡ true)
one_of_two true b e = inl refl
one_of_two false b e = inr e

no_bytes : (xs : List ℕ) → length xs ≡ 0 → Plain xs
no_bytes [] e = refl
no_bytes (x ∷ xs) e = absurd (omega (arith, e))

by_test : {A : Type 0} (P : A → Type 0) (b : Bool) (x y : A) → (b ≡ true → P x) → (b ≡ false → P y) → P (cond b x y)
by_test P true x y f g = f refl
by_test P false x y f g = g refl

fraction_tight : (t : List ℕ) → is_fraction (fraction_of t) ≡ true → (length (fraction_of t) ≤ 4) × Plain (fraction_of t)
fraction_tight [] = λ e. (omega arith, refl)
fraction_tight (x ∷ t) =
    by_test (λ l. is_fraction l ≡ true → (length l ≤ 4) × Plain l) (bytes_eq (x ∷ []) (codes ".")) (x ∷ take 3 t) []
    (λ point e. elim (one_of_two (bytes_eq (x ∷ take 3 t) []) (are_digits 3 (take 3 t)) e) [
      | inl none ↦ absurd (let no : ⊥ = cc in no)
      | inr digits ↦ (omega (arith, length-take 3 t), plain_both (x ∷ []) (take 3 t) (mark_plain (x ∷ []) (codes ".") point refl) (digits_plain 3 (take 3 t) digits))
    ])
    (λ other e. (omega arith, refl))

fraction_front : (t : List ℕ) → fraction_of t ++ drop (length (fraction_of t)) t ≡ t
fraction_front t = by_test (λ l. l ++ drop (length l) t ≡ t) (bytes_eq (take 1 t) (codes ".")) (take 4 t) [] (λ point. taken 4 t) (λ other. refl)

offset_tight : (z : List ℕ) → is_offset z ≡ true → (length z ≤ 6) × Plain z
offset_tight z e =
    let sign = bytes_eq (part 0 1 z) (codes "+") || bytes_eq (part 0 1 z) (codes "-") in
    let low = nat_lt (number_at 1 2 z) 24 && nat_lt (number_at 4 2 z) 60 in
    let digits = are_digits 2 (part 1 2 z) && (bytes_eq (part 3 1 z) (codes ":") && are_digits 2 (part 4 2 z)) in
    let a = and_true (length z == 6) (sign && (digits && low)) e in
    let b = and_true sign (digits && low) a.1 in
    let g = and_true digits low b.1 in
    let c = and_true (are_digits 2 (part 1 2 z)) (bytes_eq (part 3 1 z) (codes ":") && are_digits 2 (part 4 2 z)) g.0 in
    let f = and_true (bytes_eq (part 3 1 z) (codes ":")) (are_digits 2 (part 4 2 z)) c.1 in
    let six = equal (length z) 6 a.0 in
    let first : Plain (part 0 1 z) = elim (one_of_two (bytes_eq (part 0 1 z) (codes "+")) (bytes_eq (part 0 1 z) (codes "-")) b.0)
    [ inl p ↦ mark_plain (part 0 1 z) (codes "+") p refl | inr m ↦ mark_plain (part 0 1 z) (codes "-") m refl ] in (
      omega (arith, six),
      plain_cut 0 1 1 z refl first
          (plain_cut 1 2 3 z refl (digits_plain 2 (part 1 2 z) c.0)
          (plain_cut 3 1 4 z refl (mark_plain (part 3 1 z) (codes ":") f.0 refl)
          (plain_cut 4 2 6 z refl (digits_plain 2 (part 4 2 z) f.1) (no_bytes (drop 6 z) (omega (arith, length-drop 6 z, six)))))),
    )

zone_tight : (z : List ℕ) → is_zone z ≡ true → (length z ≤ 6) × Plain z
zone_tight z e =
    elim (one_of_two (bytes_eq z []) (bytes_eq z (codes "Z") || is_offset z) e) [
      | inl none ↦ (let s = tag_is z [] none in (omega (arith, ap length s), mark_plain z [] none refl))
      | inr more ↦
          (elim (one_of_two (bytes_eq z (codes "Z")) (is_offset z) more) [
            | inl utc ↦ (let s = tag_is z (codes "Z") utc in (omega (arith, ap length s), mark_plain z (codes "Z") utc refl))
            | inr offset ↦ offset_tight z offset
          ])
    ]

-- what stands after the seconds
after_tight : (text : List ℕ) → is_fraction (fraction_in text) ≡ true → is_zone (zone_in text) ≡ true → (length (drop 19 text) ≤ 10) × Plain (drop 19 text)
after_tight text f z =
    let a = fraction_tight (drop 19 text) f in
    let same = drop-drop (length (fraction_in text)) 19 text in
    let b = zone_tight (drop (length (fraction_in text)) (drop 19 text)) (ap is_zone same ∙ z) in
    subst (λ l. (length l ≤ 10) × Plain l) (fraction_front (drop 19 text)) (
      omega (arith, length-append (fraction_in text) (drop (length (fraction_in text)) (drop 19 text)), a.0, b.0),
      plain_both (fraction_in text) (drop (length (fraction_in text)) (drop 19 text)) a.1 b.1,
    )

moment_plain : (text : List ℕ) → is_moment text ≡ true → Plain (drop 19 text) → Plain text
moment_plain text e rest =
    let m : IsMoment text = moment_of text e in
    let low = bytes_eq (part 13 1 text) (codes ":") && bytes_eq (part 16 1 text) (codes ":") in
    let mid = bytes_eq (part 10 1 text) (codes "T") && low in
    let a = and_true (bytes_eq (part 4 1 text) (codes "-")) (bytes_eq (part 7 1 text) (codes "-") && mid) m.marks in
    let b = and_true (bytes_eq (part 7 1 text) (codes "-")) mid a.1 in
    let c = and_true (bytes_eq (part 10 1 text) (codes "T")) low b.1 in
    let d = and_true (bytes_eq (part 13 1 text) (codes ":")) (bytes_eq (part 16 1 text) (codes ":")) c.1 in
    plain_cut 0 4 4 text refl (digits_plain 4 (part 0 4 text) m.digits.year)
    (plain_cut 4 1 5 text refl (mark_plain (part 4 1 text) (codes "-") a.0 refl)
    (plain_cut 5 2 7 text refl (digits_plain 2 (part 5 2 text) m.digits.month)
    (plain_cut 7 1 8 text refl (mark_plain (part 7 1 text) (codes "-") b.0 refl)
    (plain_cut 8 2 10 text refl (digits_plain 2 (part 8 2 text) m.digits.day)
    (plain_cut 10 1 11 text refl (mark_plain (part 10 1 text) (codes "T") c.0 refl)
    (plain_cut 11 2 13 text refl (digits_plain 2 (part 11 2 text) m.digits.hour)
    (plain_cut 13 1 14 text refl (mark_plain (part 13 1 text) (codes ":") d.0 refl)
    (plain_cut 14 2 16 text refl (digits_plain 2 (part 14 2 text) m.digits.minute)
    (plain_cut 16 1 17 text refl (mark_plain (part 16 1 text) (codes ":") d.1 refl)
    (plain_cut 17 2 19 text refl (digits_plain 2 (part 17 2 text) m.digits.second) rest))))))))))

date_tight : (text : List ℕ) → is_date text ≡ true → Tight text
date_tight text e =
    let t = and_true (is_moment text) (is_fraction (fraction_in text) && is_zone (zone_in text)) e in
    let u = and_true (is_fraction (fraction_in text)) (is_zone (zone_in text)) t.1 in
    let a = after_tight text u.0 u.1 in
    (omega (arith, length-drop 19 text, a.0), moment_plain text t.0 a.1)

pub leaf_tight : (k : LeafKind) (text : List ℕ) (x : Leaf) → is_kind k ≡ true → leaf_of k text ≡ Some x → Tight text
leaf_tight (kind.Num d) text x i e = run_tight 1 d is_ascii_digit text refl (omega (arith, at_most d 10 (and_true (nat_le 1 d) (nat_le d 10) i).1)) (kept_is leaf.Num (is_run 1 d is_ascii_digit text) (digits_value 10 text) x e)
leaf_tight kind.Amount text x i e =
    decimal_tight 10 text (omega arith) (and_true (is_decimal 10 text) (nat_le 1 (hundredths_of text)) (kept_is leaf.Amount (is_decimal 10 text && nat_le 1 (hundredths_of text)) (hundredths_of text) x e)).0
leaf_tight kind.Sum text x i e = decimal_tight 17 text (omega arith) (kept_is leaf.Sum (is_decimal 17 text) (hundredths_of text) x e)
leaf_tight kind.Ident text x i e = run_tight 1 35 is_ident_byte text refl (omega arith) (kept_is leaf.Ident (is_run 1 35 is_ident_byte text) text x e)
leaf_tight kind.Account text x i e = run_tight 8 19 is_ascii_digit text refl (omega arith) (kept_is leaf.Account (is_run 8 19 is_ascii_digit text) text x e)
leaf_tight kind.Code6 text x i e = run_tight 6 6 is_code_byte text refl (omega arith) (kept_is leaf.Code6 (is_run 6 6 is_code_byte text) text x e)
leaf_tight kind.DateTime text x i e = date_tight text (kept_is leaf.DateTime (is_date text) (date_of text) x e)
leaf_tight (kind.Code l) text x i e = let n = code_some l (place_in (codes_of l) 0 text) x e in place_tight (codes_of l) 0 text n.0 (list_tight l i) n.1
