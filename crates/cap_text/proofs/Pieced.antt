-- A piece that ends, by where it stands.
use Rattle.std.proofs.Common.{ℕ, ◌+◌, ◌-◌, ◌<◌, ◌≡◌, List, [], ◌∷◌, ◌++◌, Bool, true, false, length, length-append, take, drop, get_or, refl, sym, ◌∙◌, ap, arith, cond, Option, Some, None}
use Rattle.std.specs.Prelude.{◌&&◌, ◌||◌, ◌==◌, option_map}
use Rattle.std.specs.Str.{bytes_eq}
use Rattle.std.proofs.lemmas.List.{drop_more, take_all, length-drop}
use Rattle.cap_leaf.specs.declared.kinds.Kind.{Kind}
use Rattle.cap_leaf.specs.declared.kinds.LeafKind.{LeafKind}
use Rattle.cap_leaf.specs.declared.leaf.Leaf.{Leaf}
use Rattle.cap_leaf.specs.Spelling.{leaf_of}
use Rattle.cap_leaf.specs.Schema.{Content, leaf, all, one_of}
use Rattle.cap_leaf.specs.Trees.{value, branch, none}
use Rattle.cap_text.specs.Pieces.{Piece, declaration, document, opening, closing, leaf_opening, ending, declaration_text, document_text, opening_text, closing_text}
use Rattle.cap_text.specs.Faults.{Known, told_by}
use Rattle.cap_text.specs.Machine.{Left, rows, choice, Frame, inside, in_leaf, Found, look, ready, onto, close, fresh, enter, enter_leaf, around, opened, leaf_opened, Doc, first, prolog, within, root, within_if, filled_by, doc_step}
use Rattle.cap_text.specs.Bytes.{inner, content_of, kinds, document_in, opening_of, opening_by, piece_of, standing, barred, moved, ended, passed_by}
use Rattle.cap_text.specs.Inner.{closes, tagged, sought, sought_by, entered, entered_by, opened_by}
use Rattle.cap_text.proofs.Common.{same_tag, tag_is, some_is}
use Rattle.cap_text.proofs.Fronts.{same_end, closes_is, inner_is, opens_is, place_of, content_is, ending_is}

abbrev text : List ℕ → List ℕ
text front = front ++ 62 ∷ []

one_more : (front : List ℕ) → length (text front) ≡ length front + 1
one_more front = length-append front (62 ∷ [])

by_test : {A : Type 0} (P : A → Type 0) (b : Bool) (x y : A) → (b ≡ true → P x) → (b ≡ false → P y) → P (cond b x y)
by_test P true x y f g = f refl
by_test P false x y f g = g refl

abbrev in_structure : Kind → Frame → List Frame → Doc
in_structure k f fs = within k (inside (f ∷ fs))

-- ---- the closing of a structure

closing_piece : (k : Kind) (f : Frame) (fs : List Frame) (front : List ℕ) → closes f.tag front ≡ true → piece_of (in_structure k f fs) (text front) ≡ Some (closing f.tag)
closing_piece k f fs front c =
    ap (λ t. cond t (Some (closing f.tag)) (cond (bytes_eq (opening_text (inner (text front))) (text front)) (opening_of (look f.left (inner (text front))) (inner (text front))) None)) (closes_is f.tag front ∙ c)

pub ended_closing : (k : Kind) (f : Frame) (fs : List Frame) (n : Known) (front : List ℕ) → closes f.tag front ≡ true → ready f.left ≡ true
    → standing (within k (close fs (branch (onto f.done none)))) (told_by n (closing f.tag) (length front + 1)) [] ≡ ended (in_structure k f fs) n (text front) (piece_of (in_structure k f fs) (text front))
ended_closing k f fs n front c r =
    let size : length (closing_text f.tag) ≡ length front + 1 = ap length (tag_is (closing_text f.tag) (text front) (closes_is f.tag front ∙ c)) ∙ one_more front in
    let done = close fs (branch (onto f.done none)) in
    sym (ap (ended (in_structure k f fs) n (text front)) (closing_piece k f fs front c)
    ∙ ap (λ t. moved (in_structure k f fs) n (text front) (closing f.tag) (within_if k (cond (t && ready f.left) (Some done) None))) (same_tag f.tag)
    ∙ ap (λ t. moved (in_structure k f fs) n (text front) (closing f.tag) (within_if k (cond t (Some done) None))) r
    ∙ ap (λ m. standing (within k done) (told_by n (closing f.tag) m) []) size)

pub ended_unready : (k : Kind) (f : Frame) (fs : List Frame) (n : Known) (front : List ℕ) → closes f.tag front ≡ true → ready f.left ≡ false
    → barred (in_structure k f fs) n (text front) true ≡ ended (in_structure k f fs) n (text front) (piece_of (in_structure k f fs) (text front))
ended_unready k f fs n front c r =
    let done = close fs (branch (onto f.done none)) in
    sym (ap (ended (in_structure k f fs) n (text front)) (closing_piece k f fs front c)
    ∙ ap (λ t. moved (in_structure k f fs) n (text front) (closing f.tag) (within_if k (cond (t && ready f.left) (Some done) None))) (same_tag f.tag)
    ∙ ap (λ t. moved (in_structure k f fs) n (text front) (closing f.tag) (within_if k (cond t (Some done) None))) r)

-- ---- the opening of a child

size_of : (a : ℕ) (name : List ℕ) → length (opening_text name) ≡ length (a ∷ name) + 1
size_of a name = one_more (a ∷ name)

mapped : (name tag : List ℕ) (found : Found) (o : Option Found) → option_map (tagged name) o ≡ Some (tag, found) → (name ≡ tag) × (o ≡ Some found)
mapped name tag found None e = cc
mapped name tag found (Some g) e = let same = some_is (tagged name g) (tagged tag found) e in (ap (λ (p : List ℕ × Found). p.0) same, ap (λ (p : List ℕ × Found). Some p.1) same)

sought_cases : (b : Bool) (left : Left) (name tag : List ℕ) (found : Found) → sought_by left (cond b (Some name) None) ≡ Some (tag, found)
    → (b ≡ true) × (name ≡ tag) × (look left name ≡ Some found)
sought_cases true left name tag found e = let m = mapped name tag found (look left name) e in (refl, m.0, m.1)
sought_cases false left name tag found e = cc

unmapped : (name : List ℕ) (o : Option Found) → option_map (tagged name) o ≡ None → o ≡ None
unmapped name None e = refl
unmapped name (Some g) e = cc

sought_lost : (b : Bool) (left : Left) (name : List ℕ) → sought_by left (cond b (Some name) None) ≡ None → cond b (opening_of (look left name) name) None ≡ None
sought_lost true left name e = ap (λ o. opening_of o name) (unmapped name (look left name) e)
sought_lost false left name e = refl

-- the piece, where it isn't a closing
opening_piece : (k : Kind) (f : Frame) (fs : List Frame) (a : ℕ) (name : List ℕ) → closes f.tag (a ∷ name) ≡ false
    → piece_of (in_structure k f fs) (text (a ∷ name)) ≡ cond (60 == a) (opening_of (look f.left name) name) None
opening_piece k f fs a name c =
    ap (λ t. cond t (Some (closing f.tag)) (cond (bytes_eq (opening_text (inner (text (a ∷ name)))) (text (a ∷ name))) (opening_of (look f.left (inner (text (a ∷ name)))) (inner (text (a ∷ name)))) None)) (closes_is f.tag (a ∷ name) ∙ c)
    ∙ (ap (λ t. cond t (opening_of (look f.left (inner (text (a ∷ name)))) (inner (text (a ∷ name)))) None) (opens_is a name)
    ∙ ap (λ t. cond (60 == a) (opening_of (look f.left t) t) None) (inner_is a name))

enters : (k : Kind) (f : Frame) (fs : List Frame) (n : Known) (a : ℕ) (name : List ℕ) (found : Found) (c : Content) → found.content ≡ c → look f.left name ≡ Some found
    → ended (in_structure k f fs) n (text (a ∷ name)) (Some (opening_by c name)) ≡ entered_by k (around f found ∷ fs) n name c (length (a ∷ name) + 1)
enters k f fs n a name found (leaf j) same e =
    ap (λ o. moved (in_structure k f fs) n (text (a ∷ name)) (leaf_opening name) (within_if k (leaf_opened f fs name o))) e
    ∙ (ap (λ c. moved (in_structure k f fs) n (text (a ∷ name)) (leaf_opening name) (within_if k (enter_leaf name c (around f found ∷ fs)))) same
    ∙ ap (λ m. standing (within k (in_leaf name j (around f found ∷ fs))) (told_by n (leaf_opening name) m) []) (size_of a name))
enters k f fs n a name found (all t) same e =
    ap (λ o. moved (in_structure k f fs) n (text (a ∷ name)) (opening name) (within_if k (opened f fs name o))) e
    ∙ (ap (λ c. moved (in_structure k f fs) n (text (a ∷ name)) (opening name) (within_if k (enter name c (around f found ∷ fs)))) same
    ∙ ap (λ m. standing (within k (inside (fresh name (rows t 0 0) ∷ around f found ∷ fs))) (told_by n (opening name) m) []) (size_of a name))
enters k f fs n a name found (one_of t) same e =
    ap (λ o. moved (in_structure k f fs) n (text (a ∷ name)) (opening name) (within_if k (opened f fs name o))) e
    ∙ (ap (λ c. moved (in_structure k f fs) n (text (a ∷ name)) (opening name) (within_if k (enter name c (around f found ∷ fs)))) same
    ∙ ap (λ m. standing (within k (inside (fresh name (choice t) ∷ around f found ∷ fs))) (told_by n (opening name) m) []) (size_of a name))

pub ended_entered : (k : Kind) (f : Frame) (fs : List Frame) (n : Known) (front tag : List ℕ) (found : Found) → closes f.tag front ≡ false → sought f.left front ≡ Some (tag, found)
    → entered k f fs n tag found (length front + 1) ≡ ended (in_structure k f fs) n (text front) (piece_of (in_structure k f fs) (text front))
ended_entered k f fs n [] tag found c e = cc
ended_entered k f fs n (a ∷ name) tag found c e =
    let s = sought_cases (60 == a) f.left name tag found e in
    ap (λ t. entered k f fs n t found (length (a ∷ name) + 1)) (sym s.1)
    ∙ sym (ap (ended (in_structure k f fs) n (text (a ∷ name))) (opening_piece k f fs a name c ∙ ap (λ t. cond t (opening_of (look f.left name) name) None) s.0 ∙ ap (λ o. opening_of o name) s.2)
    ∙ enters k f fs n a name found found.content refl s.2)

pub ended_lost : (k : Kind) (f : Frame) (fs : List Frame) (n : Known) (front : List ℕ) → closes f.tag front ≡ false → sought f.left front ≡ None
    → barred (in_structure k f fs) n (text front) true ≡ ended (in_structure k f fs) n (text front) (piece_of (in_structure k f fs) (text front))
ended_lost k f fs n [] c e = refl
ended_lost k f fs n (a ∷ name) c e =
    sym (ap (ended (in_structure k f fs) n (text (a ∷ name))) (opening_piece k f fs a name c ∙ sought_lost (60 == a) f.left name e))

-- ---- a leaf

abbrev in_a_leaf : Kind → List ℕ → LeafKind → List Frame → Doc
in_a_leaf k tag j fs = within k (in_leaf tag j fs)

leaf_piece : (k : Kind) (tag : List ℕ) (j : LeafKind) (fs : List Frame) (front : List ℕ) (b : Bool) → closes tag (drop (place_of tag front) front) ≡ b
    → piece_of (in_a_leaf k tag j fs) (text front) ≡ cond b (Some (ending tag (take (place_of tag front) front))) None
leaf_piece k tag j fs front b e =
    ap (λ t. cond t (Some (ending tag (content_of tag (text front)))) None) (ending_is tag front ∙ e)
    ∙ ap (λ t. cond b (Some (ending tag t)) None) (content_is tag front)

leaf_size : (tag front : List ℕ) → closes tag (drop (place_of tag front) front) ≡ true → length (take (place_of tag front) front ++ closing_text tag) ≡ length front + 1
leaf_size tag front e = ap (λ t. length (t ++ closing_text tag)) (sym (content_is tag front)) ∙ ap length (tag_is (content_of tag (text front) ++ closing_text tag) (text front) (ending_is tag front ∙ e)) ∙ one_more front

pub ended_filled : (k : Kind) (tag : List ℕ) (j : LeafKind) (fs : List Frame) (n : Known) (front : List ℕ) (x : Leaf) → closes tag (drop (place_of tag front) front) ≡ true
    → leaf_of j (take (place_of tag front) front) ≡ Some x
    → standing (within k (close fs (value x))) (told_by n (ending tag (take (place_of tag front) front)) (length front + 1)) [] ≡ ended (in_a_leaf k tag j fs) n (text front) (piece_of (in_a_leaf k tag j fs) (text front))
ended_filled k tag j fs n front x c e =
    let content = take (place_of tag front) front in
    sym (ap (ended (in_a_leaf k tag j fs) n (text front)) (leaf_piece k tag j fs front true c)
    ∙ ap (λ t. moved (in_a_leaf k tag j fs) n (text front) (ending tag content) (within_if k (cond t (filled_by fs (leaf_of j content)) None))) (same_tag tag)
    ∙ ap (λ o. moved (in_a_leaf k tag j fs) n (text front) (ending tag content) (within_if k (filled_by fs o))) e
    ∙ ap (λ m. standing (within k (close fs (value x))) (told_by n (ending tag content) m) []) (leaf_size tag front c))

pub ended_misspelt : (k : Kind) (tag : List ℕ) (j : LeafKind) (fs : List Frame) (n : Known) (front : List ℕ) → closes tag (drop (place_of tag front) front) ≡ true
    → leaf_of j (take (place_of tag front) front) ≡ None
    → barred (in_a_leaf k tag j fs) n (text front) true ≡ ended (in_a_leaf k tag j fs) n (text front) (piece_of (in_a_leaf k tag j fs) (text front))
ended_misspelt k tag j fs n front c e =
    let content = take (place_of tag front) front in
    sym (ap (ended (in_a_leaf k tag j fs) n (text front)) (leaf_piece k tag j fs front true c)
    ∙ ap (λ t. moved (in_a_leaf k tag j fs) n (text front) (ending tag content) (within_if k (cond t (filled_by fs (leaf_of j content)) None))) (same_tag tag)
    ∙ ap (λ o. moved (in_a_leaf k tag j fs) n (text front) (ending tag content) (within_if k (filled_by fs o))) e)

pub ended_unclosed : (k : Kind) (tag : List ℕ) (j : LeafKind) (fs : List Frame) (n : Known) (front : List ℕ) → closes tag (drop (place_of tag front) front) ≡ false
    → barred (in_a_leaf k tag j fs) n (text front) true ≡ ended (in_a_leaf k tag j fs) n (text front) (piece_of (in_a_leaf k tag j fs) (text front))
ended_unclosed k tag j fs n front c = sym (ap (ended (in_a_leaf k tag j fs) n (text front)) (leaf_piece k tag j fs front false c))

-- ---- before `Document` is open

opens_document : (ks : List Kind) (d : Doc) (n : Known) (t : List ℕ) (bytes : ℕ) → ((k : Kind) → doc_step d (document k) ≡ Some (within k (root k))) → length t ≡ bytes
    → opened_by d n t bytes (document_in ks t) ≡ ended d n t (document_in ks t)
opens_document [] d n t bytes h e = refl
opens_document (k ∷ ks) d n t bytes h e =
    by_test (λ o. opened_by d n t bytes o ≡ ended d n t o) (bytes_eq (document_text k) t) (Some (document k)) (document_in ks t)
    (λ same. sym (ap (moved d n t (document k)) (h k) ∙ ap (λ m. standing (within k (root k)) (told_by n (document k) m) []) (ap length (tag_is (document_text k) t same) ∙ e)))
    (λ other. opens_document ks d n t bytes h e)

pub ended_prolog : (n : Known) (front : List ℕ) → opened_by prolog n (text front) (length front + 1) (document_in kinds (text front)) ≡ ended prolog n (text front) (piece_of prolog (text front))
ended_prolog n front = opens_document kinds prolog n (text front) (length front + 1) (λ k. refl) (one_more front)

abbrev first_of : Bool → Bool → Option Piece → Option Piece
first_of b c other = cond b (Some (declaration false)) (cond c (Some (declaration true)) other)

declared : (b c : Bool) (other : Option Piece) (n : Known) (t : List ℕ) (bytes : ℕ) → (b || c) ≡ true
    → (b ≡ true → length (declaration_text false) ≡ bytes) → (c ≡ true → length (declaration_text true) ≡ bytes)
    → standing prolog (passed_by n bytes) [] ≡ ended first n t (first_of b c other)
declared true c other n t bytes e f g = sym (ap (λ m. standing prolog (passed_by n m) []) (f refl))
declared false true other n t bytes e f g = sym (ap (λ m. standing prolog (passed_by n m) []) (g refl))
declared false false other n t bytes e f g = cc

pub ended_declared : (n : Known) (front : List ℕ) → (bytes_eq (declaration_text false) (text front) || bytes_eq (declaration_text true) (text front)) ≡ true
    → standing prolog (passed_by n (length front + 1)) [] ≡ ended first n (text front) (piece_of first (text front))
ended_declared n front e =
    declared (bytes_eq (declaration_text false) (text front)) (bytes_eq (declaration_text true) (text front)) (document_in kinds (text front)) n (text front) (length front + 1) e
    (λ same. ap length (tag_is (declaration_text false) (text front) same) ∙ one_more front)
    (λ same. ap length (tag_is (declaration_text true) (text front) same) ∙ one_more front)

undeclared : (b c : Bool) (other : Option Piece) → (b || c) ≡ false → first_of b c other ≡ other
undeclared true c other e = cc
undeclared false true other e = cc
undeclared false false other e = refl

pub ended_undeclared : (n : Known) (front : List ℕ) → (bytes_eq (declaration_text false) (text front) || bytes_eq (declaration_text true) (text front)) ≡ false
    → opened_by first n (text front) (length front + 1) (document_in kinds (text front)) ≡ ended first n (text front) (piece_of first (text front))
ended_undeclared n front e =
    opens_document kinds first n (text front) (length front + 1) (λ k. refl) (one_more front)
    ∙ sym (ap (ended first n (text front)) (undeclared (bytes_eq (declaration_text false) (text front)) (bytes_eq (declaration_text true) (text front)) (document_in kinds (text front)) e))

-- ---- the opening of `Document`, one message after the other

front_is : (k : Kind) (front own : List ℕ) → own ++ 62 ∷ [] ≡ document_text k → bytes_eq own front ≡ bytes_eq (document_text k) (text front)
front_is k front own e = sym (same_end 62 own front) ∙ ap (λ t. bytes_eq t (text front)) e

document_at : (ks : List Kind) (i : ℕ) (d : Kind) (t : List ℕ) → i < length ks
    → document_in (drop i ks) t ≡ cond (bytes_eq (document_text (get_or ks i d)) t) (Some (document (get_or ks i d))) (document_in (drop (i + 1) ks) t)
document_at ks i d t lt = ap (λ l. document_in l t) (drop_more ks i d lt)

pub document_found : (ks : List Kind) (i : ℕ) (d : Kind) (front own : List ℕ) → i < length ks → own ++ 62 ∷ [] ≡ document_text (get_or ks i d) → bytes_eq own front ≡ true
    → document_in (drop i ks) (text front) ≡ Some (document (get_or ks i d))
document_found ks i d front own lt e same =
    document_at ks i d (text front) lt ∙ ap (λ b. cond b (Some (document (get_or ks i d))) (document_in (drop (i + 1) ks) (text front))) (sym (front_is (get_or ks i d) front own e) ∙ same)

pub document_other : (ks : List Kind) (i : ℕ) (d : Kind) (front own : List ℕ) → i < length ks → own ++ 62 ∷ [] ≡ document_text (get_or ks i d) → bytes_eq own front ≡ false
    → document_in (drop i ks) (text front) ≡ document_in (drop (i + 1) ks) (text front)
document_other ks i d front own lt e other =
    document_at ks i d (text front) lt ∙ ap (λ b. cond b (Some (document (get_or ks i d))) (document_in (drop (i + 1) ks) (text front))) (sym (front_is (get_or ks i d) front own e) ∙ other)

pub declared_is : (front own all_of : List ℕ) → own ++ 62 ∷ [] ≡ all_of → bytes_eq own front ≡ bytes_eq all_of (text front)
declared_is front own all_of e = sym (same_end 62 own front) ∙ ap (λ t. bytes_eq t (text front)) e

-- ---- what stands at the place where the closing of a leaf would begin, as the code has it

pub whole_rest : (n : ℕ) (t : List ℕ) → take (length t - n) (drop n t) ≡ drop n t
whole_rest n t = take_all (length t - n) (drop n t) (omega (arith, length-drop n t))

pub rest_closes : (tag front : List ℕ) (at : ℕ) (b c : Bool) → at ≡ length front - (length tag + 2) → c ≡ closes tag (take (length front - at) (drop at front)) → c ≡ b
    → closes tag (drop (place_of tag front) front) ≡ b
rest_closes tag front at b c p q r =
    ap (λ n. closes tag (drop n front)) (sym p) ∙ (ap (closes tag) (sym (whole_rest at front)) ∙ (sym q ∙ r))

pub content_at : (tag front : List ℕ) (at : ℕ) → at ≡ length front - (length tag + 2) → take at front ≡ take (place_of tag front) front
content_at tag front at p = ap (λ n. take n front) p
