-- What the reader has read is the text of pieces that the machine took, and it holds the front of the rest.
use Rattle.std.proofs.Common.{ℕ, zero, suc, ◌<◌, ◌≤◌, ◌+◌, ◌≡◌, List, [], ◌∷◌, ◌++◌, Bool, true, false, nat_lt, Option, Some, None, refl, sym, ◌∙◌, ap, arith, append_assoc, append-nil, cond, subst, length, take, length-append, inl, inr}
use Rattle.std.proofs.lemmas.List.{take_all}
use Rattle.std.proofs.lemmas.List.Sums.{fold-append}
use Rattle.std.proofs.lemmas.List.Folds.{list_any-append}
use Rattle.std.proofs.lemmas.Grind.{flat_map-append}
use Rattle.std.specs.Prelude.{option_and_then, ◌&&◌, ◌||◌}
use Rattle.std.specs.List.{list_any}
use Rattle.std.specs.Str.{bytes_eq}
use Rattle.cap_leaf.specs.declared.kinds.Kind.{Kind}
use Rattle.cap_leaf.specs.Schema.{Content, leaf, all, one_of}
use Rattle.cap_text.specs.Pieces.{Piece, declaration, blank, document, closing, ending, opening_text, closing_text, document_text, declaration_text, piece_text, text_of, is_space}
use Rattle.cap_text.specs.Faults.{Known, nothing, after, known, is_end}
use Rattle.cap_text.specs.Machine.{State, inside, in_leaf, whole, Found, look, Doc, first, prolog, within, doc_step, doc_run}
use Rattle.cap_text.specs.Bytes.{inner, content_of, is_empty, may_blank, kinds, document_in, first_piece, opening_by, opening_of, inner_piece, piece_of, Reading, most, standing, barred, moved, ended, on_byte, on_bytes, begun, blanked}
use Rattle.cap_text.proofs.Common.{tag_is, is_below, and_true, some_is, chosen, kept}
use Rattle.cap_text.proofs.Docs.{doc_run_append}
use Rattle.cap_text.proofs.Tokens.{blank_steps}

-- ---- a piece that is read has the text that was read

document_says : (ks : List Kind) (text : List ℕ) (p : Piece) → document_in ks text ≡ Some p → piece_text p ≡ text
document_says [] text p e = cc
document_says (k ∷ ks) text p e =
    elim (chosen (bytes_eq (document_text k) text) (Some (document k)) (document_in ks text) (Some p) e) [
      | inl (same, q) ↦ ap piece_text (sym (some_is (document k) p q)) ∙ tag_is (document_text k) text same
      | inr (other, q) ↦ document_says ks text p q
    ]

first_says : (text : List ℕ) (p : Piece) → first_piece text ≡ Some p → piece_text p ≡ text
first_says text p e =
    elim (chosen (bytes_eq (declaration_text false) text) (Some (declaration false)) (cond (bytes_eq (declaration_text true) text) (Some (declaration true)) (document_in kinds text)) (Some p) e) [
      | inl (same, q) ↦ ap piece_text (sym (some_is (declaration false) p q)) ∙ tag_is (declaration_text false) text same
      | inr (other, q) ↦
          (elim (chosen (bytes_eq (declaration_text true) text) (Some (declaration true)) (document_in kinds text) (Some p) q) [
            | inl (same, r) ↦ ap piece_text (sym (some_is (declaration true) p r)) ∙ tag_is (declaration_text true) text same
            | inr (others, r) ↦ document_says kinds text p r
          ])
    ]

opening_by_says : (c : Content) (tag : List ℕ) → piece_text (opening_by c tag) ≡ opening_text tag
opening_by_says (leaf k) tag = refl
opening_by_says (all t) tag = refl
opening_by_says (one_of t) tag = refl

opening_says : (o : Option Found) (tag : List ℕ) (p : Piece) → opening_of o tag ≡ Some p → piece_text p ≡ opening_text tag
opening_says None tag p e = cc
opening_says (Some found) tag p e = ap piece_text (sym (some_is (opening_by found.content tag) p e)) ∙ opening_by_says found.content tag

inner_says : (s : State) (text : List ℕ) (p : Piece) → inner_piece s text ≡ Some p → piece_text p ≡ text
inner_says (inside []) text p e = cc
inner_says (inside (f ∷ fs)) text p e =
    elim (chosen (bytes_eq (closing_text f.tag) text) (Some (closing f.tag)) (cond (bytes_eq (opening_text (inner text)) text) (opening_of (look f.left (inner text)) (inner text)) None) (Some p) e) [
      | inl (same, q) ↦ ap piece_text (sym (some_is (closing f.tag) p q)) ∙ tag_is (closing_text f.tag) text same
      | inr (other, q) ↦
          (let both = kept (bytes_eq (opening_text (inner text)) text) (opening_of (look f.left (inner text)) (inner text)) p q in
          opening_says (look f.left (inner text)) (inner text) p both.1 ∙ tag_is (opening_text (inner text)) text both.0)
    ]
inner_says (in_leaf tag k fs) text p e =
    let both = kept (bytes_eq (content_of tag text ++ closing_text tag) text) (Some (ending tag (content_of tag text))) p e in
    ap piece_text (sym (some_is (ending tag (content_of tag text)) p both.1)) ∙ tag_is (content_of tag text ++ closing_text tag) text both.0
inner_says (whole d) text p e = cc

pub piece_says : (d : Doc) (text : List ℕ) (p : Piece) → piece_of d text ≡ Some p → piece_text p ≡ text
piece_says first text p e = first_says text p e
piece_says prolog text p e = document_says kinds text p e
piece_says (within k s) text p e = inner_says s text p e

-- ---- what was read

pub record Came (bytes : List ℕ) (r : Reading) : Type 0 where
  pub pieces : List Piece
  pub rest : List ℕ
  pub is : bytes ≡ text_of pieces ++ rest
  pub ran : doc_run pieces first ≡ Some r.doc
  pub knows : r.known ≡ known pieces
  pub holds : r.held ≡ take 128 rest
  pub ends : r.ends ≡ list_any is_end rest
  pub free : r.stuck ≡ false → (rest ≡ r.held) × (length r.held < 128) × (r.ends ≡ false)

text_more : (ps : List Piece) (p : Piece) → text_of (ps ++ p ∷ []) ≡ text_of ps ++ piece_text p
text_more ps p = flat_map-append piece_text ps (p ∷ []) ∙ ap (λ t. text_of ps ++ t) (append-nil (piece_text p))

-- one piece more
took : (bytes text : List ℕ) (d : Doc) (p : Piece) (u : Doc) (ps : List Piece) → bytes ≡ text_of ps ++ text → doc_run ps first ≡ Some d → doc_step d p ≡ Some u → piece_text p ≡ text
    → Came bytes (standing u (after (known ps) p) [])
took bytes text d p u ps is ran e t = record {
  pieces = ps ++ p ∷ [];
  rest = [];
  is = is ∙ ap (λ l. text_of ps ++ l) (sym t) ∙ sym (text_more ps p) ∙ sym (append-nil (text_of (ps ++ p ∷ [])));
  ran = doc_run_append ps (p ∷ []) first d ran ∙ ap (option_and_then (doc_run [])) e;
  knows = sym (fold-append after nothing ps (p ∷ []));
  holds = refl;
  ends = refl;
  free = λ e. (refl, omega arith, refl);
}

-- none
failed : (bytes text : List ℕ) (d : Doc) (n : Known) (ends : Bool) (ps : List Piece) → bytes ≡ text_of ps ++ text → doc_run ps first ≡ Some d → n ≡ known ps → length text ≤ 128 → ends ≡ list_any is_end text
    → Came bytes (barred d n text ends)
failed bytes text d n ends ps is ran knows short e = record {
  pieces = ps;
  rest = text;
  is = is;
  ran = ran;
  knows = knows;
  holds = sym (take_all 128 text short);
  ends = e;
  free = λ e. cc;
}

moved_came : (bytes text : List ℕ) (d : Doc) (n : Known) (p : Piece) (o : Option Doc) (ps : List Piece) → doc_step d p ≡ o → bytes ≡ text_of ps ++ text → doc_run ps first ≡ Some d → n ≡ known ps
    → length text ≤ 128 → list_any is_end text ≡ true → piece_text p ≡ text → Came bytes (moved d n text p o)
moved_came bytes text d n p None ps e is ran knows short ends t = failed bytes text d n true ps is ran knows short (sym ends)
moved_came bytes text d n p (Some u) ps e is ran knows short ends t =
    subst (λ m. Came bytes (standing u (after m p) [])) (sym knows) (took bytes text d p u ps is ran e t)

ended_came : (bytes text : List ℕ) (d : Doc) (n : Known) (o : Option Piece) (ps : List Piece) → piece_of d text ≡ o → bytes ≡ text_of ps ++ text → doc_run ps first ≡ Some d → n ≡ known ps
    → length text ≤ 128 → list_any is_end text ≡ true → Came bytes (ended d n text o)
ended_came bytes text d n None ps e is ran knows short ends = failed bytes text d n true ps is ran knows short (sym ends)
ended_came bytes text d n (Some p) ps e is ran knows short ends = moved_came bytes text d n p (doc_step d p) ps refl is ran knows short ends (piece_says d text p e)

pub take_more : {A : Type 0} (n : ℕ) (xs ys : List A) → take n (take n xs ++ ys) ≡ take n (xs ++ ys)
take_more zero xs ys = refl
take_more (suc n) [] ys = refl
take_more (suc n) (x ∷ xs) ys = ap (λ l. x ∷ l) (take_more n xs ys)

by_test : {A : Type 0} (P : A → Type 0) (b : Bool) (x y : A) → (b ≡ true → P x) → (b ≡ false → P y) → P (cond b x y)
by_test P true x y f g = f refl
by_test P false x y f g = g refl

empty_is : (h : List ℕ) → is_empty h ≡ true → h ≡ []
empty_is [] e = refl
empty_is (b ∷ bs) e = cc

pub or_end : (b : Bool) → (b || false) ≡ b
or_end true = refl
or_end false = refl

or_true : (b : Bool) → (b || true) ≡ true
or_true true = refl
or_true false = refl

ends_more : (xs : List ℕ) (b : ℕ) → list_any is_end (xs ++ b ∷ []) ≡ (list_any is_end xs || is_end b)
ends_more xs b = list_any-append is_end xs (b ∷ []) ∙ ap (λ t. list_any is_end xs || t) (or_end (is_end b))

-- bytes behind a rest
pub more_rest : (bytes : List ℕ) (ps : List Piece) (rest : List ℕ) (b : ℕ) → bytes ≡ text_of ps ++ rest → bytes ++ b ∷ [] ≡ text_of ps ++ (rest ++ b ∷ [])
more_rest bytes ps rest b is = ap (λ l. l ++ b ∷ []) is ∙ append_assoc (text_of ps) rest (b ∷ [])

stuck_on : (bytes : List ℕ) (r : Reading) (b : ℕ) → Came bytes r → Came (bytes ++ b ∷ []) (barred r.doc r.known (take most (r.held ++ b ∷ [])) (r.ends || is_end b))
stuck_on bytes r b c = record {
  pieces = c.pieces;
  rest = c.rest ++ b ∷ [];
  is = more_rest bytes c.pieces c.rest b c.is;
  ran = c.ran;
  knows = c.knows;
  holds = ap (λ l. take 128 (l ++ b ∷ [])) c.holds ∙ take_more 128 c.rest (b ∷ []);
  ends = ap (λ t. t || is_end b) c.ends ∙ sym (ends_more c.rest b);
  free = λ e. cc;
}

blank_on : (bytes : List ℕ) (r : Reading) (b : ℕ) → Came bytes r → r.stuck ≡ false → is_empty r.held ≡ true → is_space b ≡ true → may_blank r.doc ≡ true
    → Came (bytes ++ b ∷ []) (ended r.doc r.known (b ∷ []) (Some (blank (b ∷ []))))
blank_on bytes r b c free empty space may =
    let f = c.free free in
    let nothing_left : c.rest ≡ [] = f.0 ∙ empty_is r.held empty in
    let e = blank_steps r.doc (b ∷ []) may (ap (λ t. t && true) space) in
    subst (λ o. Came (bytes ++ b ∷ []) (moved r.doc r.known (b ∷ []) (blank (b ∷ [])) o)) (sym e)
    (subst (λ m. Came (bytes ++ b ∷ []) (standing (blanked r.doc) (after m (blank (b ∷ []))) [])) (sym c.knows)
    (took (bytes ++ b ∷ []) (b ∷ []) r.doc (blank (b ∷ [])) (blanked r.doc) c.pieces
    (more_rest bytes c.pieces c.rest b c.is ∙ ap (λ l. text_of c.pieces ++ (l ++ b ∷ [])) nothing_left) c.ran e refl))

end_on : (bytes : List ℕ) (r : Reading) (b : ℕ) → Came bytes r → r.stuck ≡ false → is_end b ≡ true → Came (bytes ++ b ∷ []) (ended r.doc r.known (r.held ++ b ∷ []) (piece_of r.doc (r.held ++ b ∷ [])))
end_on bytes r b c free e =
    let f = c.free free in
    ended_came (bytes ++ b ∷ []) (r.held ++ b ∷ []) r.doc r.known (piece_of r.doc (r.held ++ b ∷ [])) c.pieces refl
    (more_rest bytes c.pieces c.rest b c.is ∙ ap (λ l. text_of c.pieces ++ (l ++ b ∷ [])) f.0) c.ran c.knows
    (omega (arith, f.1, length-append r.held (b ∷ [])))
    (ends_more r.held b ∙ ap (λ t. list_any is_end r.held || t) e ∙ or_true (list_any is_end r.held))

hold_on : (bytes : List ℕ) (r : Reading) (b : ℕ) → Came bytes r → r.stuck ≡ false → is_end b ≡ false → length r.held + 1 < 128 → Came (bytes ++ b ∷ []) (standing r.doc r.known (r.held ++ b ∷ []))
hold_on bytes r b c free e short =
    let f = c.free free in
    record {
      pieces = c.pieces;
      rest = r.held ++ b ∷ [];
      is = more_rest bytes c.pieces c.rest b c.is ∙ ap (λ l. text_of c.pieces ++ (l ++ b ∷ [])) f.0;
      ran = c.ran;
      knows = c.knows;
      holds = sym (take_all 128 (r.held ++ b ∷ []) (omega (arith, short, length-append r.held (b ∷ []))));
      ends = sym (ends_more r.held b ∙ ap (λ t. list_any is_end r.held || t) e ∙ ap (λ t. t || false) (ap (list_any is_end) (sym f.0) ∙ sym c.ends ∙ f.2));
      free = λ k. (refl, omega (arith, short, length-append r.held (b ∷ [])), refl);
    }

full_on : (bytes : List ℕ) (r : Reading) (b : ℕ) → Came bytes r → r.stuck ≡ false → is_end b ≡ false → Came (bytes ++ b ∷ []) (barred r.doc r.known (r.held ++ b ∷ []) false)
full_on bytes r b c free e =
    let f = c.free free in
    failed (bytes ++ b ∷ []) (r.held ++ b ∷ []) r.doc r.known false c.pieces
    (more_rest bytes c.pieces c.rest b c.is ∙ ap (λ l. text_of c.pieces ++ (l ++ b ∷ [])) f.0) c.ran c.knows
    (omega (arith, f.1, length-append r.held (b ∷ [])))
    (sym (ends_more r.held b ∙ ap (λ t. list_any is_end r.held || t) e ∙ ap (λ t. t || false) (ap (list_any is_end) (sym f.0) ∙ sym c.ends ∙ f.2)))

pub one_on : (bytes : List ℕ) (r : Reading) (b : ℕ) → Came bytes r → Came (bytes ++ b ∷ []) (on_byte r b)
one_on bytes r b c =
    let P : Reading → Type 0 = λ n. Came (bytes ++ b ∷ []) n in
    by_test P r.stuck (barred r.doc r.known (take most (r.held ++ b ∷ [])) (r.ends || is_end b)) _ (λ e. stuck_on bytes r b c)
    (λ free. by_test P (is_empty r.held && (is_space b && may_blank r.doc)) (ended r.doc r.known (b ∷ []) (Some (blank (b ∷ [])))) _
    (λ e. let two = and_true (is_empty r.held) (is_space b && may_blank r.doc) e in let more = and_true (is_space b) (may_blank r.doc) two.1 in
    blank_on bytes r b c free two.0 more.0 more.1)
    (λ _. by_test P (is_end b) (ended r.doc r.known (r.held ++ b ∷ []) (piece_of r.doc (r.held ++ b ∷ []))) _
    (λ e. end_on bytes r b c free e)
    (λ e. by_test P (nat_lt (length r.held + 1) most) (standing r.doc r.known (r.held ++ b ∷ [])) (barred r.doc r.known (r.held ++ b ∷ []) false)
    (λ s. hold_on bytes r b c free e (is_below (length r.held + 1) 128 s))
    (λ s. full_on bytes r b c free e))))

came_on : (bytes done : List ℕ) (r : Reading) → Came done r → Came (done ++ bytes) (on_bytes r bytes)
came_on [] done r c = subst (λ l. Came l r) (sym (append-nil done)) c
came_on (b ∷ bs) done r c = subst (λ l. Came l (on_bytes (on_byte r b) bs)) (append_assoc done (b ∷ []) bs) (came_on bs (done ++ b ∷ []) (on_byte r b) (one_on done r b c))

came_first : Came [] begun
came_first = record { pieces = []; rest = []; is = refl; ran = refl; knows = refl; holds = refl; ends = refl; free = λ e. (refl, omega arith, refl) }

-- what was read of the bytes
pub came : (bytes : List ℕ) → Came bytes (on_bytes begun bytes)
came bytes = came_on bytes [] begun came_first
