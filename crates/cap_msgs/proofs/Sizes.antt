-- How long the canonical text of a tree is.
use Rattle.std.proofs.Common.{ℕ, zero, suc, ◌+◌, ◌-◌, ◌*◌, ◌/◌, ◌%◌, ◌^◌, ◌<◌, ◌≤◌, ◌≡◌, Bool, true, false, List, [], ◌∷◌, ◌++◌, length, Option, Some, None, refl, sym, ap, ◌∙◌, arith, rules, subst, nat_le, length-append, append-nil, lit≤}
use Rattle.std.specs.Prelude.{max, codes, ◌&&◌}
use Rattle.std.specs.List.{list_all}
use Rattle.std.specs.Fmt.{decimal}
use Rattle.std.proofs.lemmas.Fmt.{length-decimal-le}
use Rattle.std.proofs.lemmas.Grind.{flat_map-append}
use Rattle.cap_base.specs.Amount.{amount_text}
use Rattle.cap_base.specs.Text.{is_ident_byte, is_code_byte}
use Rattle.cap_base.proofs.Decimals.{few_whole}
use Rattle.std.specs.Char.{is_ascii_digit}
use Rattle.cap_leaf.specs.Canonical.{fraction_text, zone_text, leaf_text}
use Rattle.cap_leaf.specs.Codes.{codes_of, function_codes, text_at}
use Rattle.cap_leaf.specs.Schema.{Content, Table, Row, leaf, all, one_of, end, row}
use Rattle.cap_leaf.specs.Spelling.{is_leaf, IsValue}
use Rattle.cap_leaf.specs.Trees.{Data, Children, value, branch, none, child}
use Rattle.cap_leaf.specs.declared.kinds.CodeList.{CodeList}
use Rattle.cap_leaf.specs.declared.kinds.CodeList.TheVariants as list
use Rattle.cap_leaf.specs.declared.kinds.Kind.{Kind}
use Rattle.cap_leaf.specs.declared.kinds.Kind.TheVariants.{Caaa001, Caaa002, Caaa003, Caaa004, Caaa005, Caaa006, Caaa007, Caaa008, Caaa009, Caaa010, Caaa011, Caaa012, Caaa013, Caaa014, Caaa015, Catm001, Catm002, Catm003, Catm004}
use Rattle.cap_leaf.specs.declared.leaf.Leaf.{Leaf}
use Rattle.cap_leaf.specs.declared.leaf.Leaf.TheVariants as leaf_of
use Rattle.cap_leaf.specs.declared.zone.Zone.{Zone}
use Rattle.cap_leaf.specs.declared.zone.Zone.TheVariants.{Local, Utc, Offset}
use Rattle.cap_trees.specs.Tables.{table_of}
use Rattle.cap_trees.specs.Fits.{Fits, FitsRows, FitsRow, FitsKind}
use Rattle.cap_trees.specs.Fits as fits
use Rattle.cap_text.specs.Pieces.{Piece, opening, closing, leaf_opening, ending, piece_text, text_of, opening_text, closing_text, document_text}
use Rattle.cap_text.specs.Canon.{row_at, by_row, element, children, canonical_text}
use Rattle.cap_text.proofs.Writing.{Within, within_first, within_rest, within_self}
use Rattle.cap_msgs.specs.Ranges.{HasValues, AllHaveValues}
use Rattle.cap_msgs.proofs.Inverts.{both}
use Rattle.cap_msgs.proofs.LeafShapes.{is_below}

-- ---- leaves

at_most : (n m : ℕ) → nat_le n m ≡ true → n ≤ m
at_most n m e = search rules

fraction_size : (o : Option ℕ) → length (fraction_text o) ≤ 4
fraction_size None = omega arith
fraction_size (Some n) = omega arith

zone_size : (z : Zone) → length (zone_text z) ≤ 6
zone_size Local = omega arith
zone_size Utc = lit≤ tt
zone_size (Offset minus hours minutes) = omega arith

short_at : (cs : List (List ℕ)) (at : ℕ) → list_all (λ t. nat_le (length t) 4) cs ≡ true → length (text_at cs at) ≤ 4
short_at [] at e = omega arith
short_at (c ∷ cs) zero e = at_most (length c) 4 (both (nat_le (length c) 4) _ e).0
short_at (c ∷ cs) (suc at) e = short_at cs at (both (nat_le (length c) 4) _ e).1

function_short : (k : Kind) → list_all (λ t. nat_le (length t) 4) (function_codes k) ≡ true
function_short Caaa001 = refl
function_short Caaa002 = refl
function_short Caaa003 = refl
function_short Caaa004 = refl
function_short Caaa005 = refl
function_short Caaa006 = refl
function_short Caaa007 = refl
function_short Caaa008 = refl
function_short Caaa009 = refl
function_short Caaa010 = refl
function_short Caaa011 = refl
function_short Caaa012 = refl
function_short Caaa013 = refl
function_short Caaa014 = refl
function_short Caaa015 = refl
function_short Catm001 = refl
function_short Catm002 = refl
function_short Catm003 = refl
function_short Catm004 = refl

codes_short : (l : CodeList) → list_all (λ t. nat_le (length t) 4) (codes_of l) ≡ true
codes_short list.Response = refl
codes_short list.Reason = refl
codes_short list.Wanted = refl
codes_short list.AnySet = refl
codes_short list.Act = refl
codes_short (list.Protocol d) = refl
codes_short (list.Function k) = function_short k

run_size : (least most : ℕ) (test : ℕ → Bool) (text : List ℕ) → ((nat_le least (length text) && nat_le (length text) most) && list_all test text) ≡ true → length text ≤ most
run_size least most test text e =
    at_most (length text) most (both (nat_le least (length text)) (nat_le (length text) most) (both (nat_le least (length text) && nat_le (length text) most) (list_all test text) e).0).1

pub leaf_size : (x : Leaf) → is_leaf x ≡ true → IsValue x → length (leaf_text x) ≤ 40
leaf_size (leaf_of.Num n) r v =
    let l = is_below n (10 ^ 10) r in
    let s = length-decimal-le 10 n (omega arith) l (omega (arith, l)) in omega (arith, s)
leaf_size (leaf_of.Amount n) r v =
    let s = few_whole n v.within in
    let e = length-append (decimal (n / 100)) (46 ∷ (48 + n / 10 % 10) ∷ (48 + n % 10) ∷ []) in omega (arith, s, e)
leaf_size (leaf_of.Sum n) r v =
    let l = is_below n (10 ^ 19) r in
    let low : n / 100 < 10 ^ 17 = omega (arith, l) in
    let s = length-decimal-le 17 (n / 100) (omega arith) low (omega (arith, low)) in
    let e = length-append (decimal (n / 100)) (46 ∷ (48 + n / 10 % 10) ∷ (48 + n % 10) ∷ []) in omega (arith, s, e)
leaf_size (leaf_of.Ident text) r v = let s = run_size 1 35 is_ident_byte text v in omega (arith, s)
leaf_size (leaf_of.Account text) r v = let s = run_size 8 19 is_ascii_digit text v in omega (arith, s)
leaf_size (leaf_of.Code6 text) r v = let s = run_size 6 6 is_code_byte text v in omega (arith, s)
leaf_size (leaf_of.DateTime d) r v =
    let e = length-append (fraction_text d.millis) (zone_text d.zone) in
    let f = fraction_size d.millis in
    let z = zone_size d.zone in omega (arith, e, f, z)
leaf_size (leaf_of.Code l at) r v = let s = short_at (codes_of l) at (codes_short l) in omega (arith, s)

-- ---- what a table allows

-- the most bytes between an opening and its closing, of the rows that are left where the first one has stood so often, and of one row
abbrev mutual
  pub content_most : Content → ℕ
  content_most (leaf k) = 40
  content_most (all t) = rows_left t 0
  content_most (one_of t) = choice_most t

  pub rows_left : Table → ℕ → ℕ
  rows_left end n = 0
  rows_left (row tag least most c rest) n = (most - n) * (2 * length tag + 5 + content_most c) + rows_left rest 0

  pub choice_most : Table → ℕ
  choice_most end = 0
  choice_most (row tag least most c rest) = max (2 * length tag + 5 + content_most c) (choice_most rest)

-- ---- texts

wrap_size : (tag inner : List ℕ) → length (opening_text tag ++ (inner ++ closing_text tag)) ≡ 2 * length tag + 5 + length inner
wrap_size tag inner =
    let a = length-append (opening_text tag) (inner ++ closing_text tag) in
    let b = length-append inner (closing_text tag) in
    let c = length-append tag (62 ∷ []) in omega (arith, a, b, c)

leaf_written : (tag inner : List ℕ) → text_of (leaf_opening tag ∷ ending tag inner ∷ []) ≡ opening_text tag ++ (inner ++ closing_text tag)
leaf_written tag inner = ap (λ t. opening_text tag ++ t) (append-nil (inner ++ closing_text tag))

branch_written : (tag : List ℕ) (ps : List Piece) → text_of (opening tag ∷ (ps ++ closing tag ∷ [])) ≡ opening_text tag ++ (text_of ps ++ closing_text tag)
branch_written tag ps = ap (λ t. opening_text tag ++ t) (flat_map-append piece_text ps (closing tag ∷ []) ∙ ap (λ t. text_of ps ++ t) (append-nil (closing_text tag)))

abbrev at_row : List ℕ → ℕ → ℕ → Content → Row
at_row tag least most c = record { tag = tag; least = least; most = most; content = c }

times : (most n w : ℕ) → most - n ≡ suc (most - suc n) → w + (most - suc n) * w ≡ (most - n) * w
times most n w e = let f : (most - n) * w ≡ suc (most - suc n) * w = ap (λ x. x * w) e in omega (arith, f)

fewer : (a b c : ℕ) → a ≤ c → a ≤ b + c
fewer a b c l = omega arith

-- one more time of a row
one_less : (most n w : ℕ) → n < most → w + (most - suc n) * w ≡ (most - n) * w
one_less most n w l = let e : most - n ≡ suc (most - suc n) = omega arith in times most n w e

first_size : (d : Data) (cs : Children) (at : ℕ) (whole : Table) (r : Row) → row_at whole at ≡ Some r
    → length (text_of (children (child at d cs) whole)) ≡ length (text_of (element d r)) + length (text_of (children cs whole))
first_size d cs at whole r e =
    ap (λ o. length (text_of (by_row o (element d) ++ children cs whole))) e
    ∙ ap length (flat_map-append piece_text (element d r) (children cs whole))
    ∙ length-append (text_of (element d r)) (text_of (children cs whole))

mutual
  element_size : {c : Content} {d : Data} (tag : List ℕ) (least most : ℕ) → Fits c d → HasValues d → length (text_of (element d (at_row tag least most c))) ≤ 2 * length tag + 5 + content_most c
  element_size tag least most (fits.a_leaf {x = x} i h r) v =
      let e = ap length (leaf_written tag (leaf_text x)) ∙ wrap_size tag (leaf_text x) in
      let s = leaf_size x r v in omega (arith, e, s)
  element_size tag least most (fits.in_order {t} {cs} r) v =
      let e = ap length (branch_written tag (children cs t)) ∙ wrap_size tag (text_of (children cs t)) in
      let s = rows_size t (within_self t) r v in omega (arith, e, s)
  element_size tag least most (fits.a_choice {t} {at} {d} r) v =
      let e = ap length (branch_written tag (children (child at d none) t)) ∙ wrap_size tag (text_of (children (child at d none) t)) in
      let s = choice_size t (within_self t) r v.0 in omega (arith, e, s)

  rows_size : {t : Table} {at n : ℕ} {cs : Children} (whole : Table) → Within t at whole → FitsRows t at n cs → AllHaveValues cs → length (text_of (children cs whole)) ≤ rows_left t n
  rows_size whole h fits.no_row v = omega arith
  rows_size whole h (fits.one_more {tag} {least} {most} {c} {rest} {at} {n} {d} {cs} lt f r) v =
      let e = first_size d cs at whole (at_row tag least most c) (within_first tag least most c rest at whole h) in
      let a = element_size tag least most f v.0 in
      let b = rows_size whole h r v.1 in
      let m = one_less most n (2 * length tag + 5 + content_most c) lt in omega (arith, e, a, b, m)
  rows_size whole h (fits.next_row {tag} {least} {most} {c} {rest} {at} {n} le r) v =
      let b = rows_size whole (within_rest tag least most c rest at whole h) r v in
      fewer _ ((most - n) * (2 * length tag + 5 + content_most c)) _ b

  choice_size : {t : Table} {at place : ℕ} {d : Data} (whole : Table) → Within t at whole → FitsRow t at place d → HasValues d
      → length (text_of (children (child place d none) whole)) ≤ choice_most t
  choice_size whole h (fits.this_row {tag} {least} {most} {c} {rest} {at} {d} f) v =
      let e = first_size d none at whole (at_row tag least most c) (within_first tag least most c rest at whole h) in
      let a = element_size tag least most f v in omega (arith, e, a)
  choice_size whole h (fits.other_row {tag} {least} {most} {c} {rest} {at} r) v =
      let a = choice_size whole (within_rest tag least most c rest at whole h) r v in omega (arith, a)

-- ---- documents

kind_most : (k : Kind) → length (document_text k) + (rows_left (table_of k) 0 + 11) ≤ 32768
kind_most Caaa001 = lit≤ tt
kind_most Caaa002 = lit≤ tt
kind_most Caaa003 = lit≤ tt
kind_most Caaa004 = lit≤ tt
kind_most Caaa005 = lit≤ tt
kind_most Caaa006 = lit≤ tt
kind_most Caaa007 = lit≤ tt
kind_most Caaa008 = lit≤ tt
kind_most Caaa009 = lit≤ tt
kind_most Caaa010 = lit≤ tt
kind_most Caaa011 = lit≤ tt
kind_most Caaa012 = lit≤ tt
kind_most Caaa013 = lit≤ tt
kind_most Caaa014 = lit≤ tt
kind_most Caaa015 = lit≤ tt
kind_most Catm001 = lit≤ tt
kind_most Catm002 = lit≤ tt
kind_most Catm003 = lit≤ tt
kind_most Catm004 = lit≤ tt

document_size : (k : Kind) (d : Data) → length (canonical_text k d) ≡ length (document_text k) + (length (text_of (children (child 0 d none) (table_of k))) + 11)
document_size k d =
    let ps = children (child 0 d none) (table_of k) in
    let a = length-append (document_text k) (text_of (ps ++ closing (codes "Document") ∷ [])) in
    let b = ap length (flat_map-append piece_text ps (closing (codes "Document") ∷ [])) in
    let c = length-append (text_of ps) (text_of (closing (codes "Document") ∷ [])) in
    omega (arith, a, b, c)

pub text_size : (k : Kind) (d : Data) → FitsKind k d → HasValues d → length (canonical_text k d) ≤ 32768
text_size k d f v =
    let e = document_size k d in
    let s = rows_size (table_of k) (within_self (table_of k)) f (v, tt) in
    let m = kind_most k in omega (arith, e, s, m)

pub text_some : (k : Kind) (d : Data) → 1 ≤ length (canonical_text k d)
text_some k d = omega arith
