-- The headers that fit.
use Rattle.std.proofs.Common.{ℕ, zero, suc, ◌+◌, ◌<◌, ◌≤◌, ◌≡◌, inl, inr, Bool, true, false, List, [], ◌∷◌, length, Option, Some, None, refl, sym, ap, ◌∙◌, arith, subst}
use Rattle.std.specs.Prelude.{◌&&◌, codes, if◌then◌else◌}
use Rattle.cap_leaf.specs.Codes.{function_codes}
use Rattle.cap_leaf.specs.Date.{DateParts}
use Rattle.cap_leaf.specs.Schema.{Content, Table, leaf, all, end, row}
use Rattle.cap_leaf.specs.Trees.{Data, Children, value, branch, none, child}
use Rattle.cap_leaf.specs.declared.header.Header.{Header}
use Rattle.cap_leaf.specs.declared.kinds.CodeList.TheVariants as list
use Rattle.cap_leaf.specs.declared.kinds.Kind.{Kind}
use Rattle.cap_leaf.specs.declared.kinds.Kind.TheVariants.{Caaa001, Caaa002, Caaa003, Caaa004, Caaa005, Caaa006, Caaa007, Caaa008, Caaa009, Caaa010, Caaa011, Caaa012, Caaa013, Caaa014, Caaa015, Catm001, Catm002, Catm003, Catm004}
use Rattle.cap_leaf.specs.declared.kinds.LeafKind.{LeafKind}
use Rattle.cap_leaf.specs.declared.kinds.LeafKind.TheVariants as kind
use Rattle.cap_leaf.specs.declared.leaf.Leaf.TheVariants as leaf_of
use Rattle.cap_trees.specs.Tables.{party, bare_header, header}
use Rattle.cap_trees.specs.Fits.{Fits, FitsRows, a_leaf, in_order, no_row}
use Rattle.cap_fields.specs.Fields.{followed_by, maybe_num, num_in as num_in_data}
use Rattle.cap_fields.specs.Refused.{in_digits, in_digits_if}
use Rattle.cap_fields.proofs.Repeats.{followed_assoc}
use Rattle.cap_msgs.specs.Trees.{party_tree, header_from, is_bare, first_of, function_child, header_children, header_tree}
use Rattle.cap_msgs.specs.Ranges.{is_header}
use Rattle.cap_msgs.specs.Reading.{header_with, header_in}
use Rattle.cap_msgs.specs.Shapes.{HasHeader, FitsHeader}
use Rattle.cap_msgs.proofs.Inverts.{Once, once_in, maybe_in, ends, chain, put, put_maybe, skip, and_join, both}
use Rattle.cap_msgs.proofs.LeafShapes.{num_in, date_in, ident_in, code_in, only, num_10, num_3, date_fits, ident_fits}

pub party_in : {d : Data} → Fits (all party) d → (name : List ℕ) × (d ≡ party_tree name)
party_in (in_order r) =
    let a = once_in (omega arith) (omega arith) r in
    let x = ident_in a.fits in
    (x.0, ap branch (chain a.is x.1 (ends a.left)))

pub party_fits : (name : List ℕ) → Fits (all party) (party_tree name)
party_fits name = in_order (put (ident_fits name) no_row)

-- the header from the protocol's version on, by the places of its rows
abbrev from_version : ℕ → ℕ → Option ℕ → DateParts → List ℕ → List ℕ → Children
from_version at e r c f t =
    child at (value (leaf_of.Code (list.Protocol 1) 0))
    (child (suc at) (value (leaf_of.Num e))
    (maybe_num (suc (suc at)) r
    (child (suc (suc (suc at))) (value (leaf_of.DateTime c))
    (child (suc (suc (suc (suc at)))) (party_tree f)
    (child (suc (suc (suc (suc (suc at))))) (party_tree t) none)))))

-- children that are such a header
pub record IsVersion (at : ℕ) (cs : Children) : Type 0 where
  pub header : Header
  pub range : is_header header ≡ true
  pub is : cs ≡ from_version at header.exchange header.repeat header.created header.from header.to

-- from the date on
record IsDated (at : ℕ) (cs : Children) : Type 0 where
  created : DateParts
  from : List ℕ
  to : List ℕ
  is : cs ≡ child at (value (leaf_of.DateTime created)) (child (suc at) (party_tree from) (child (suc (suc at)) (party_tree to) none))

abbrev dated : Table
dated = row (codes "CreDtTm") 1 1 (leaf kind.DateTime) (row (codes "InitgPty") 1 1 (all party) (row (codes "RcptPty") 1 1 (all party) end))

dated_in : {at : ℕ} {cs : Children} → FitsRows dated at 0 cs → IsDated at cs
dated_in r =
    let a = once_in (omega arith) (omega arith) r in
    let b = once_in (omega arith) (omega arith) a.left in
    let c = once_in (omega arith) (omega arith) b.left in
    let x = date_in a.fits in
    let y = party_in b.fits in
    let z = party_in c.fits in
    record { created = x.0; from = y.0; to = z.0; is = chain a.is x.1 (chain b.is y.1 (chain c.is z.1 (ends c.left))) }

pub version_in : {at : ℕ} {cs : Children} → FitsRows bare_header at 0 cs → IsVersion at cs
version_in {at} r =
    let a = once_in (omega arith) (omega arith) r in
    let b = once_in (omega arith) (omega arith) a.left in
    let v = code_in a.fits in
    let version = v.1 ∙ ap (λ n. value (leaf_of.Code (list.Protocol 1) n)) (only v.0 v.2) in
    let e = num_in b.fits in
    elim (maybe_in (omega arith) b.left) [
      | inl c ↦ (let n = num_in c.fits in let d = dated_in c.left in record {
        header = record { exchange = e.0; repeat = Some n.0; created = d.created; from = d.from; to = d.to };
        range = and_join (in_digits 10 e.0) (in_digits 3 n.0) e.2 n.2;
        is = chain a.is version (chain b.is e.1 (chain c.is n.1 d.is));
      })
      | inr c ↦ (let d = dated_in c in record {
        header = record { exchange = e.0; repeat = None; created = d.created; from = d.from; to = d.to };
        range = and_join (in_digits 10 e.0) true e.2 refl;
        is = chain a.is version (chain b.is e.1 d.is);
      })
    ]

version_rows : (at e : ℕ) (r : Option ℕ) (c : DateParts) (f t : List ℕ) → in_digits 10 e ≡ true → in_digits_if 3 r ≡ true → FitsRows bare_header at 0 (from_version at e r c f t)
version_rows at e None c f t p q = put (a_leaf refl refl refl) (put (num_10 e p) (skip (put (date_fits c) (put (party_fits f) (put (party_fits t) no_row)))))
version_rows at e (Some n) c f t p q = put (a_leaf refl refl refl) (put (num_10 e p) (put_maybe (num_3 n q) (put (date_fits c) (put (party_fits f) (put (party_fits t) no_row)))))

version_fits : (at : ℕ) (h : Header) → is_header h ≡ true → FitsRows bare_header at 0 (from_version at h.exchange h.repeat h.created h.from h.to)
version_fits at h e = let p = both (in_digits 10 h.exchange) (in_digits_if 3 h.repeat) e in version_rows at h.exchange h.repeat h.created h.from h.to p.0 p.1

-- ---- a header with its function, and one without

bare_shape : (k : Kind) (d : Data) → is_bare k ≡ true → Fits (all bare_header) d → HasHeader k d
bare_shape k _ b (in_order r) =
    let v = version_in r in
    record {
      header = v.header;
      range = v.range;
      is = ap branch (v.is ∙ sym (ap (λ x. followed_by (if x then none else child 0 (value (leaf_of.Code (list.Function k) 0)) none) (header_from (if x then 0 else 1) v.header)) b));
    }

full_shape : (k : Kind) (d : Data) → is_bare k ≡ false → length (function_codes k) ≡ 1 → Fits (all (header k)) d → HasHeader k d
full_shape k _ b one (in_order r) =
    let a = once_in (omega arith) (omega arith) r in
    let f = code_in a.fits in
    let first = f.1 ∙ ap (λ n. value (leaf_of.Code (list.Function k) n)) (only f.0 (omega (arith, f.2, one))) in
    let v = version_in a.left in
    record {
      header = v.header;
      range = v.range;
      is = ap branch (chain a.is first v.is ∙ sym (ap (λ x. followed_by (if x then none else child 0 (value (leaf_of.Code (list.Function k) 0)) none) (header_from (if x then 0 else 1) v.header)) b));
    }

bare_fits : (k : Kind) (h : Header) → is_bare k ≡ true → is_header h ≡ true → Fits (all bare_header) (header_tree k h)
bare_fits k h b e =
    let P : Bool → Type 0 = λ x. Fits (all bare_header) (branch (followed_by (if x then none else child 0 (value (leaf_of.Code (list.Function k) 0)) none) (header_from (if x then 0 else 1) h))) in
    subst P (sym b) (in_order (version_fits 0 h e))

full_fits : (k : Kind) (h : Header) → is_bare k ≡ false → Fits (leaf (kind.Code (list.Function k))) (value (leaf_of.Code (list.Function k) 0)) → is_header h ≡ true → Fits (all (header k)) (header_tree k h)
full_fits k h b function e =
    let P : Bool → Type 0 = λ x. Fits (all (header k)) (branch (followed_by (if x then none else child 0 (value (leaf_of.Code (list.Function k) 0)) none) (header_from (if x then 0 else 1) h))) in
    subst P (sym b) (in_order (put function (version_fits 1 h e)))

pub header_shape : (k : Kind) (d : Data) → FitsHeader k d → HasHeader k d
header_shape Caaa001 d f = full_shape Caaa001 d refl refl f
header_shape Caaa002 d f = full_shape Caaa002 d refl refl f
header_shape Caaa003 d f = full_shape Caaa003 d refl refl f
header_shape Caaa004 d f = full_shape Caaa004 d refl refl f
header_shape Caaa005 d f = full_shape Caaa005 d refl refl f
header_shape Caaa006 d f = full_shape Caaa006 d refl refl f
header_shape Caaa007 d f = full_shape Caaa007 d refl refl f
header_shape Caaa008 d f = full_shape Caaa008 d refl refl f
header_shape Caaa009 d f = full_shape Caaa009 d refl refl f
header_shape Caaa010 d f = full_shape Caaa010 d refl refl f
header_shape Caaa011 d f = full_shape Caaa011 d refl refl f
header_shape Caaa012 d f = full_shape Caaa012 d refl refl f
header_shape Caaa013 d f = full_shape Caaa013 d refl refl f
header_shape Caaa014 d f = full_shape Caaa014 d refl refl f
header_shape Caaa015 d f = full_shape Caaa015 d refl refl f
header_shape Catm001 d f = bare_shape Catm001 d refl f
header_shape Catm002 d f = bare_shape Catm002 d refl f
header_shape Catm003 d f = bare_shape Catm003 d refl f
header_shape Catm004 d f = bare_shape Catm004 d refl f

pub header_fits : (k : Kind) (h : Header) → is_header h ≡ true → FitsHeader k (header_tree k h)
header_fits Caaa001 h e = full_fits Caaa001 h refl (a_leaf refl refl refl) e
header_fits Caaa002 h e = full_fits Caaa002 h refl (a_leaf refl refl refl) e
header_fits Caaa003 h e = full_fits Caaa003 h refl (a_leaf refl refl refl) e
header_fits Caaa004 h e = full_fits Caaa004 h refl (a_leaf refl refl refl) e
header_fits Caaa005 h e = full_fits Caaa005 h refl (a_leaf refl refl refl) e
header_fits Caaa006 h e = full_fits Caaa006 h refl (a_leaf refl refl refl) e
header_fits Caaa007 h e = full_fits Caaa007 h refl (a_leaf refl refl refl) e
header_fits Caaa008 h e = full_fits Caaa008 h refl (a_leaf refl refl refl) e
header_fits Caaa009 h e = full_fits Caaa009 h refl (a_leaf refl refl refl) e
header_fits Caaa010 h e = full_fits Caaa010 h refl (a_leaf refl refl refl) e
header_fits Caaa011 h e = full_fits Caaa011 h refl (a_leaf refl refl refl) e
header_fits Caaa012 h e = full_fits Caaa012 h refl (a_leaf refl refl refl) e
header_fits Caaa013 h e = full_fits Caaa013 h refl (a_leaf refl refl refl) e
header_fits Caaa014 h e = full_fits Caaa014 h refl (a_leaf refl refl refl) e
header_fits Caaa015 h e = full_fits Caaa015 h refl (a_leaf refl refl refl) e
header_fits Catm001 h e = bare_fits Catm001 h refl e
header_fits Catm002 h e = bare_fits Catm002 h refl e
header_fits Catm003 h e = bare_fits Catm003 h refl e
header_fits Catm004 h e = bare_fits Catm004 h refl e

-- ---- a header is read back from its tree

back_by : (b : Bool) (k : Kind) (e : ℕ) (r : Option ℕ) (c : DateParts) (f t : List ℕ)
    → header_in (if b then 0 else 1) (branch (followed_by (if b then none else child 0 (value (leaf_of.Code (list.Function k) 0)) none)
    (header_from (if b then 0 else 1) (header_with e r c f t)))) ≡ Some (header_with e r c f t)
back_by true k e None c f t = refl
back_by true k e (Some n) c f t = refl
back_by false k e None c f t = refl
back_by false k e (Some n) c f t = refl

pub header_back : (k : Kind) (h : Header) → header_in (first_of k) (header_tree k h) ≡ Some h
header_back k h = back_by (is_bare k) k h.exchange h.repeat h.created h.from h.to

repeat_by : (b : Bool) (k : Kind) (e : ℕ) (r : Option ℕ) (c : DateParts) (f t : List ℕ)
    → num_in_data (branch (followed_by (if b then none else child 0 (value (leaf_of.Code (list.Function k) 0)) none)
    (header_from (if b then 0 else 1) (header_with e r c f t)))) ((if b then 0 else 1) + 2) ≡ r
repeat_by true k e None c f t = refl
repeat_by true k e (Some n) c f t = refl
repeat_by false k e None c f t = refl
repeat_by false k e (Some n) c f t = refl

-- the counter of a header has at most three digits
pub repeat_small : (k : Kind) (d : Data) → HasHeader k d → in_digits_if 3 (num_in_data d (first_of k + 2)) ≡ true
repeat_small k d s =
    let h = s.header in
    ap (λ o. in_digits_if 3 o) (ap (λ t. num_in_data t (first_of k + 2)) s.is ∙ repeat_by (is_bare k) k h.exchange h.repeat h.created h.from h.to)
    ∙ (both (in_digits 10 h.exchange) (in_digits_if 3 h.repeat) s.range).1

-- ---- children put one after the other

pub put_last : (c0 : Children) (p : ℕ) {c1 : Children} {d e : Data} → c1 ≡ followed_by c0 (child p d none) → d ≡ e → c1 ≡ followed_by c0 (child p e none)
put_last c0 p put same = put ∙ ap (λ x. followed_by c0 (child p x none)) same

pub put_as : (c0 : Children) (p : ℕ) (rest : Children) {c1 c2 : Children} {d e : Data} → c1 ≡ followed_by c0 (child p d none) → d ≡ e → c2 ≡ followed_by c1 rest
    → c2 ≡ followed_by c0 (child p e rest)
put_as c0 p rest {d = d} put same had =
    had ∙ ap (λ x. followed_by x rest) put ∙ followed_assoc c0 (child p d none) rest ∙ ap (λ x. followed_by c0 (child p x rest)) same

maybe_followed : (p : ℕ) (r : Option ℕ) (rest : Children) → followed_by (maybe_num p r none) rest ≡ maybe_num p r rest
maybe_followed p None rest = refl
maybe_followed p (Some n) rest = refl

pub put_number : (c0 : Children) (p : ℕ) (rest : Children) (r s : Option ℕ) {c1 c2 : Children} → c1 ≡ followed_by c0 (maybe_num p r none) → r ≡ s → c2 ≡ followed_by c1 rest
    → c2 ≡ followed_by c0 (maybe_num p s rest)
put_number c0 p rest r s put same had =
    had ∙ ap (λ x. followed_by x rest) put ∙ followed_assoc c0 (maybe_num p r none) rest ∙ ap (followed_by c0) (maybe_followed p r rest)
    ∙ ap (λ x. followed_by c0 (maybe_num p x rest)) same
