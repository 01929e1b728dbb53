-- The bytes of a piece move the reader as the piece moves the machine.
use Rattle.std.proofs.Common.{ℕ, ◌<◌, ◌≤◌, ◌+◌, ◌-◌, ◌≡◌, List, [], ◌∷◌, ◌++◌, Bool, true, false, nat_lt, Option, Some, None, refl, sym, ◌∙◌, ap, arith, append_assoc, append-nil, cond, subst, rules, length, take, length-append, not}
use Rattle.std.proofs.lemmas.List.{take_at}
use Rattle.std.proofs.lemmas.List.Sums.{fold-append}
use Rattle.std.proofs.lemmas.List.Folds.{list_all-append}
use Rattle.std.specs.Prelude.{◌&&◌, ◌==◌, ⊤, fold, nat_le}
use Rattle.std.specs.List.{list_all}
use Rattle.std.specs.Str.{bytes_eq}
use Rattle.cap_leaf.specs.declared.kinds.Kind.{Kind}
use Rattle.cap_leaf.specs.declared.kinds.Kind.TheVariants.{Caaa001, Caaa002, Caaa003, Caaa004, Caaa005, Caaa006, Caaa007, Caaa008, Caaa009, Caaa010, Caaa011, Caaa012, Caaa013, Caaa014, Caaa015, Catm001, Catm002, Catm003, Catm004}
use Rattle.cap_leaf.specs.declared.kinds.LeafKind.{LeafKind}
use Rattle.cap_leaf.specs.Schema.{Content, leaf, all, one_of}
use Rattle.cap_leaf.specs.Trees.{branch, none}
use Rattle.cap_leaf.specs.Spelling.{leaf_of}
use Rattle.cap_trees.specs.Tests.{is_name, is_plain}
use Rattle.cap_text.specs.Pieces.{Piece, declaration, blank, document, opening, closing, leaf_opening, ending, opening_text, closing_text, document_text, declaration_text, piece_text, text_of, is_space, is_white}
use Rattle.cap_text.specs.Faults.{Known, after, is_end}
use Rattle.cap_text.specs.Machine.{Frame, State, inside, in_leaf, whole, Found, look, ready, onto, close, enter, enter_leaf, around, opened, leaf_opened, filled_by, step, Doc, first, prolog, within, within_if, doc_step, doc_run}
use Rattle.cap_text.specs.Bytes.{inner, content_of, is_empty, may_blank, kinds, document_in, first_piece, opening_by, opening_of, inner_piece, piece_of, most, standing, barred, moved, ended, on_byte, on_bytes, blanked, passed_by}
use Rattle.cap_text.proofs.Common.{same_tag, tag_is, below, and_true, some_is, kept}
use Rattle.cap_text.proofs.Completable.{Tagged}
use Rattle.cap_text.proofs.Docs.{SoundDoc, doc_step_sound, doc_runs_on}
use Rattle.cap_text.proofs.Tight.{leaf_tight}

abbrev Plain : List ℕ → Type 0
Plain text = list_all is_plain text ≡ true

abbrev Begun : Doc → List ℕ → Type 0
Begun d [] = ⊤
Begun d (b ∷ bs) = (is_space b && may_blank d) ≡ false

is_not : (b : Bool) → not b ≡ true → b ≡ false
is_not true e = cc
is_not false e = refl

at_most : (n m : ℕ) → nat_le n m ≡ true → n ≤ m
at_most n m e = search rules

never : (b : Bool) → (b && false) ≡ false
never true = refl
never false = refl

-- a byte that is held
holds : (d : Doc) (n : Known) (held : List ℕ) (b : ℕ) → (is_empty held && (is_space b && may_blank d)) ≡ false → is_plain b ≡ true → length held + 1 < 128
    → on_byte (standing d n held) b ≡ standing d n (held ++ b ∷ [])
holds d n held b skip plain short =
    ap (λ t. cond t (ended d n (b ∷ []) (Some (blank (b ∷ [])))) (cond (is_end b) (ended d n (held ++ b ∷ []) (piece_of d (held ++ b ∷ []))) (cond (nat_lt (length held + 1) most) (standing d n (held ++ b ∷ [])) (barred d n (held ++ b ∷ []) false)))) skip
    ∙ ap (λ t. cond t (ended d n (held ++ b ∷ []) (piece_of d (held ++ b ∷ []))) (cond (nat_lt (length held + 1) most) (standing d n (held ++ b ∷ [])) (barred d n (held ++ b ∷ []) false))) (is_not (is_end b) plain)
    ∙ ap (λ t. cond t (standing d n (held ++ b ∷ [])) (barred d n (held ++ b ∷ []) false)) (below (length held + 1) 128 short)

-- the bytes of a piece after its first, but for the last
holds_more : (d : Doc) (n : Known) (bs : List ℕ) (a : ℕ) (held : List ℕ) → Plain bs → length (a ∷ held) + length bs < 128 → on_bytes (standing d n (a ∷ held)) bs ≡ standing d n ((a ∷ held) ++ bs)
holds_more d n [] a held p short = ap (standing d n) (sym (append-nil (a ∷ held)))
holds_more d n (b ∷ bs) a held p short =
    let both = and_true (is_plain b) (list_all is_plain bs) p in
    ap (λ r. on_bytes r bs) (holds d n (a ∷ held) b refl both.0 (omega arith))
    ∙ holds_more d n bs a (held ++ b ∷ []) both.1 (omega (arith, length-append held (b ∷ [])))
    ∙ ap (standing d n) (append_assoc (a ∷ held) (b ∷ []) bs)

-- a whole piece
reads_token : (d : Doc) (n : Known) (front : List ℕ) → Begun d front → Plain front → length front < 127
    → on_bytes (standing d n []) (front ++ 62 ∷ []) ≡ ended d n (front ++ 62 ∷ []) (piece_of d (front ++ 62 ∷ []))
reads_token d n [] s p short = refl
reads_token d n (b ∷ bs) s p short =
    let both = and_true (is_plain b) (list_all is_plain bs) p in
    fold-append on_byte (standing d n []) (b ∷ bs) (62 ∷ [])
    ∙ ap (λ r. on_bytes r (62 ∷ [])) (ap (λ r. on_bytes r bs) (holds d n [] b s both.0 (omega arith)) ∙ holds_more d n bs b [] both.1 (omega arith))

-- ---- which piece a text is

inner_opening : (tag : List ℕ) → inner (opening_text tag) ≡ tag
inner_opening tag = ap (λ n. take n (tag ++ 62 ∷ [])) (let e : length (opening_text tag) - 2 ≡ length tag = omega (arith, length-append tag (62 ∷ [])) in e) ∙ take_at tag (62 ∷ []) (length tag) refl

content_before : (tag content : List ℕ) → content_of tag (content ++ closing_text tag) ≡ content
content_before tag content =
    ap (λ n. take n (content ++ closing_text tag)) (let e : length (content ++ closing_text tag) - (length tag + 3) ≡ length content = omega (arith, length-append content (closing_text tag), length-append tag (62 ∷ [])) in e)
    ∙ take_at content (closing_text tag) (length content) refl

is_closing : (f : Frame) (fs : List Frame) → inner_piece (inside (f ∷ fs)) (closing_text f.tag) ≡ Some (closing f.tag)
is_closing f fs = ap (λ b. cond b (Some (closing f.tag)) (cond (bytes_eq (opening_text (inner (closing_text f.tag))) (closing_text f.tag)) (opening_of (look f.left (inner (closing_text f.tag))) (inner (closing_text f.tag))) None)) (same_tag (closing_text f.tag))

-- what a name keeps
named : (tag : List ℕ) → is_name tag ≡ true → (length tag ≤ 30) × Plain tag
named [] e = cc
named (b ∷ bs) e =
    let p = and_true (not (47 == b)) (nat_le (length (b ∷ bs)) 30 && list_all is_plain (b ∷ bs)) e in
    let q = and_true (nat_le (length (b ∷ bs)) 30) (list_all is_plain (b ∷ bs)) p.1 in
    (at_most (length (b ∷ bs)) 30 q.0, q.1)

other_text : (g tag : List ℕ) → is_name tag ≡ true → bytes_eq (closing_text g) (opening_text tag) ≡ false
other_text g [] h = cc
other_text g (b ∷ bs) h =
    let p = and_true (not (47 == b)) (nat_le (length (b ∷ bs)) 30 && list_all is_plain (b ∷ bs)) h in
    ap (λ t. t && bytes_eq (g ++ 62 ∷ []) (bs ++ 62 ∷ [])) (is_not (47 == b) p.0)

is_opening : (f : Frame) (fs : List Frame) (tag : List ℕ) → is_name tag ≡ true → inner_piece (inside (f ∷ fs)) (opening_text tag) ≡ opening_of (look f.left tag) tag
is_opening f fs tag h =
    ap (λ b. cond b (Some (closing f.tag)) (cond (bytes_eq (opening_text (inner (opening_text tag))) (opening_text tag)) (opening_of (look f.left (inner (opening_text tag))) (inner (opening_text tag))) None)) (other_text f.tag tag h)
    ∙ ap (λ t. cond (bytes_eq (opening_text t) (opening_text tag)) (opening_of (look f.left t) t) None) (inner_opening tag)
    ∙ ap (λ b. cond b (opening_of (look f.left tag) tag) None) (same_tag (opening_text tag))

is_ending : (fs : List Frame) (tag : List ℕ) (k : LeafKind) (content : List ℕ) → inner_piece (in_leaf tag k fs) (content ++ closing_text tag) ≡ Some (ending tag content)
is_ending fs tag k content =
    ap (λ c. cond (bytes_eq (c ++ closing_text tag) (content ++ closing_text tag)) (Some (ending tag c)) None) (content_before tag content)
    ∙ ap (λ b. cond b (Some (ending tag content)) None) (same_tag (content ++ closing_text tag))

entered_by : (tag : List ℕ) (c : Content) (fs : List Frame) (u : State) → enter tag c fs ≡ Some u → opening_by c tag ≡ opening tag
entered_by tag (leaf k) fs u e = cc
entered_by tag (all t) fs u e = refl
entered_by tag (one_of t) fs u e = refl

leaf_entered_by : (tag : List ℕ) (c : Content) (fs : List Frame) (u : State) → enter_leaf tag c fs ≡ Some u → opening_by c tag ≡ leaf_opening tag
leaf_entered_by tag (leaf k) fs u e = refl
leaf_entered_by tag (all t) fs u e = cc
leaf_entered_by tag (one_of t) fs u e = cc

opened_by : (f : Frame) (fs : List Frame) (tag : List ℕ) (o : Option Found) (u : State) → opened f fs tag o ≡ Some u → opening_of o tag ≡ Some (opening tag)
opened_by f fs tag None u e = cc
opened_by f fs tag (Some found) u e = ap Some (entered_by tag found.content (around f found ∷ fs) u e)

leaf_opened_by : (f : Frame) (fs : List Frame) (tag : List ℕ) (o : Option Found) (u : State) → leaf_opened f fs tag o ≡ Some u → opening_of o tag ≡ Some (leaf_opening tag)
leaf_opened_by f fs tag None u e = cc
leaf_opened_by f fs tag (Some found) u e = ap Some (leaf_entered_by tag found.content (around f found ∷ fs) u e)

-- bytes of one piece: one `>`, at the end, and the first byte isn't skipped
record Token (d : Doc) (text : List ℕ) : Type 0 where
  pub front : List ℕ
  pub form : text ≡ front ++ 62 ∷ []
  pub begun : Begun d front
  pub plain : Plain front
  pub short : length front < 127

plain_both : (xs ys : List ℕ) → Plain xs → Plain ys → Plain (xs ++ ys)
plain_both xs ys p q = list_all-append is_plain xs ys ∙ ap (λ b. b && list_all is_plain ys) p ∙ q

opening_token : (d : Doc) (tag : List ℕ) → is_name tag ≡ true → Token d (opening_text tag)
opening_token d tag h = let n = named tag h in record { front = 60 ∷ tag; form = refl; begun = refl; plain = n.1; short = omega (arith, n.0) }

closing_token : (d : Doc) (tag : List ℕ) → is_name tag ≡ true → Token d (closing_text tag)
closing_token d tag h = let n = named tag h in record { front = 60 ∷ 47 ∷ tag; form = refl; begun = refl; plain = n.1; short = omega (arith, n.0) }

begun_in_leaf : (j : Kind) (tag : List ℕ) (k : LeafKind) (fs : List Frame) (front : List ℕ) → Begun (within j (in_leaf tag k fs)) front
begun_in_leaf j tag k fs [] = tt
begun_in_leaf j tag k fs (b ∷ bs) = never (is_space b)

ending_token : (j : Kind) (t : List ℕ) (k : LeafKind) (fs : List Frame) (tag content : List ℕ) → Tagged (ending tag content) → Token (within j (in_leaf t k fs)) (content ++ closing_text tag)
ending_token j t k fs tag content h =
    let n = named tag h.0 in
    let l = leaf_tight h.1.0 content h.1.1 h.1.3 h.1.2 in
    record {
      front = content ++ 60 ∷ 47 ∷ tag;
      form = sym (append_assoc content (60 ∷ 47 ∷ tag) (62 ∷ []));
      begun = begun_in_leaf j t k fs (content ++ 60 ∷ 47 ∷ tag);
      plain = plain_both content (60 ∷ 47 ∷ tag) l.1 n.1;
      short = omega (arith, length-append content (60 ∷ 47 ∷ tag), l.0, n.0);
    }

-- the text of a piece that the machine takes is one, and it is that piece
abbrev Read : Doc → Piece → Type 0
Read d p = Token d (piece_text p) × (piece_of d (piece_text p) ≡ Some p)

abbrev Solid : Piece → Type 0
Solid (declaration standalone) = ⊤
Solid (blank text) = ⊥
Solid (document k) = ⊤
Solid (opening tag) = ⊤
Solid (closing tag) = ⊤
Solid (leaf_opening tag) = ⊤
Solid (ending tag content) = ⊤

read_within : (j : Kind) (s : State) (p : Piece) (u : State) → step s p ≡ Some u → Solid p → Tagged p → Read (within j s) p
read_within j (inside fs) (blank text) u e s h = absurd s
read_within j (inside fs) (declaration standalone) u e s h = cc
read_within j (inside fs) (document k) u e s h = cc
read_within j (inside []) (opening tag) u e s h = cc
read_within j (inside []) (closing tag) u e s h = cc
read_within j (inside []) (leaf_opening tag) u e s h = cc
read_within j (inside (f ∷ fs)) (opening tag) u e s h = (opening_token (within j (inside (f ∷ fs))) tag h, is_opening f fs tag h ∙ opened_by f fs tag (look f.left tag) u e)
read_within j (inside (f ∷ fs)) (leaf_opening tag) u e s h = (opening_token (within j (inside (f ∷ fs))) tag h, is_opening f fs tag h ∙ leaf_opened_by f fs tag (look f.left tag) u e)
read_within j (inside (f ∷ fs)) (closing tag) u e s h =
    let outer = kept (bytes_eq f.tag tag && ready f.left) (Some (close fs (branch (onto f.done none)))) u e in
    let same = tag_is f.tag tag (and_true (bytes_eq f.tag tag) (ready f.left) outer.0).0 in
    (closing_token (within j (inside (f ∷ fs))) tag h, subst (λ g. inner_piece (inside (f ∷ fs)) (closing_text g) ≡ Some (closing g)) same (is_closing f fs))
read_within j (inside fs) (ending tag content) u e s h = cc
read_within j (in_leaf t k fs) (declaration standalone) u e s h = cc
read_within j (in_leaf t k fs) (blank text) u e s h = cc
read_within j (in_leaf t k fs) (document i) u e s h = cc
read_within j (in_leaf t k fs) (opening tag) u e s h = cc
read_within j (in_leaf t k fs) (closing tag) u e s h = cc
read_within j (in_leaf t k fs) (leaf_opening tag) u e s h = cc
read_within j (in_leaf t k fs) (ending tag content) u e s h =
    let outer = kept (bytes_eq t tag) (filled_by fs (leaf_of k content)) u e in
    (ending_token j t k fs tag content h, subst (λ g. inner_piece (in_leaf t k fs) (content ++ closing_text g) ≡ Some (ending g content)) (tag_is t tag outer.0) (is_ending fs t k content))
read_within j (whole d) (blank text) u e s h = absurd s
read_within j (whole d) (declaration standalone) u e s h = cc
read_within j (whole d) (document k) u e s h = cc
read_within j (whole d) (opening tag) u e s h = cc
read_within j (whole d) (closing tag) u e s h = cc
read_within j (whole d) (leaf_opening tag) u e s h = cc
read_within j (whole d) (ending tag content) u e s h = cc

-- the opening of `Document`, but for its last byte
abbrev document_front : Kind → List ℕ
document_front k = take (length (document_text k) - 1) (document_text k)

document_token : (d : Doc) (k : Kind) → Token d (document_text k)
document_token d Caaa001 = record { front = document_front Caaa001; form = refl; begun = refl; plain = refl; short = omega arith }
document_token d Caaa002 = record { front = document_front Caaa002; form = refl; begun = refl; plain = refl; short = omega arith }
document_token d Caaa003 = record { front = document_front Caaa003; form = refl; begun = refl; plain = refl; short = omega arith }
document_token d Caaa004 = record { front = document_front Caaa004; form = refl; begun = refl; plain = refl; short = omega arith }
document_token d Caaa005 = record { front = document_front Caaa005; form = refl; begun = refl; plain = refl; short = omega arith }
document_token d Caaa006 = record { front = document_front Caaa006; form = refl; begun = refl; plain = refl; short = omega arith }
document_token d Caaa007 = record { front = document_front Caaa007; form = refl; begun = refl; plain = refl; short = omega arith }
document_token d Caaa008 = record { front = document_front Caaa008; form = refl; begun = refl; plain = refl; short = omega arith }
document_token d Caaa009 = record { front = document_front Caaa009; form = refl; begun = refl; plain = refl; short = omega arith }
document_token d Caaa010 = record { front = document_front Caaa010; form = refl; begun = refl; plain = refl; short = omega arith }
document_token d Caaa011 = record { front = document_front Caaa011; form = refl; begun = refl; plain = refl; short = omega arith }
document_token d Caaa012 = record { front = document_front Caaa012; form = refl; begun = refl; plain = refl; short = omega arith }
document_token d Caaa013 = record { front = document_front Caaa013; form = refl; begun = refl; plain = refl; short = omega arith }
document_token d Caaa014 = record { front = document_front Caaa014; form = refl; begun = refl; plain = refl; short = omega arith }
document_token d Caaa015 = record { front = document_front Caaa015; form = refl; begun = refl; plain = refl; short = omega arith }
document_token d Catm001 = record { front = document_front Catm001; form = refl; begun = refl; plain = refl; short = omega arith }
document_token d Catm002 = record { front = document_front Catm002; form = refl; begun = refl; plain = refl; short = omega arith }
document_token d Catm003 = record { front = document_front Catm003; form = refl; begun = refl; plain = refl; short = omega arith }
document_token d Catm004 = record { front = document_front Catm004; form = refl; begun = refl; plain = refl; short = omega arith }

is_first_document : (k : Kind) → first_piece (document_text k) ≡ Some (document k)
unfolding kinds
is_first_document Caaa001 = refl
is_first_document Caaa002 = refl
is_first_document Caaa003 = refl
is_first_document Caaa004 = refl
is_first_document Caaa005 = refl
is_first_document Caaa006 = refl
is_first_document Caaa007 = refl
is_first_document Caaa008 = refl
is_first_document Caaa009 = refl
is_first_document Caaa010 = refl
is_first_document Caaa011 = refl
is_first_document Caaa012 = refl
is_first_document Caaa013 = refl
is_first_document Caaa014 = refl
is_first_document Caaa015 = refl
is_first_document Catm001 = refl
is_first_document Catm002 = refl
is_first_document Catm003 = refl
is_first_document Catm004 = refl

is_document : (k : Kind) → document_in kinds (document_text k) ≡ Some (document k)
unfolding kinds
is_document Caaa001 = refl
is_document Caaa002 = refl
is_document Caaa003 = refl
is_document Caaa004 = refl
is_document Caaa005 = refl
is_document Caaa006 = refl
is_document Caaa007 = refl
is_document Caaa008 = refl
is_document Caaa009 = refl
is_document Caaa010 = refl
is_document Caaa011 = refl
is_document Caaa012 = refl
is_document Caaa013 = refl
is_document Caaa014 = refl
is_document Caaa015 = refl
is_document Catm001 = refl
is_document Catm002 = refl
is_document Catm003 = refl
is_document Catm004 = refl

abbrev declaration_front : Bool → List ℕ
declaration_front s = take (length (declaration_text s) - 1) (declaration_text s)

declaration_token : (d : Doc) (s : Bool) → Token d (declaration_text s)
declaration_token d true = record { front = declaration_front true; form = refl; begun = refl; plain = refl; short = omega arith }
declaration_token d false = record { front = declaration_front false; form = refl; begun = refl; plain = refl; short = omega arith }

is_declaration : (s : Bool) → first_piece (declaration_text s) ≡ Some (declaration s)
is_declaration true = refl
is_declaration false = refl

within_some : (k : Kind) (o : Option State) (u : Doc) → within_if k o ≡ Some u → (s : State) × (o ≡ Some s)
within_some k None u e = cc
within_some k (Some s) u e = (s, refl)

read_doc : (d : Doc) (p : Piece) (u : Doc) → doc_step d p ≡ Some u → Solid p → Tagged p → Read d p
read_doc first (declaration standalone) u e s h = (declaration_token first standalone, is_declaration standalone)
read_doc first (blank text) u e s h = absurd s
read_doc first (document k) u e s h = (document_token first k, is_first_document k)
read_doc first (opening tag) u e s h = cc
read_doc first (closing tag) u e s h = cc
read_doc first (leaf_opening tag) u e s h = cc
read_doc first (ending tag content) u e s h = cc
read_doc prolog (declaration standalone) u e s h = cc
read_doc prolog (blank text) u e s h = absurd s
read_doc prolog (document k) u e s h = (document_token prolog k, is_document k)
read_doc prolog (opening tag) u e s h = cc
read_doc prolog (closing tag) u e s h = cc
read_doc prolog (leaf_opening tag) u e s h = cc
read_doc prolog (ending tag content) u e s h = cc
read_doc (within k t) p u e s h = let v = within_some k (step t p) u e in read_within k t p v.0 v.1 s h

reads_solid : (d : Doc) (n : Known) (p : Piece) (u : Doc) → doc_step d p ≡ Some u → Read d p → on_bytes (standing d n []) (piece_text p) ≡ standing u (after n p) []
reads_solid d n p u e (t, is) =
    ap (on_bytes (standing d n [])) t.form
    ∙ reads_token d n t.front t.begun t.plain t.short
    ∙ ap (λ l. ended d n l (piece_of d l)) (sym t.form)
    ∙ ap (ended d n (piece_text p)) is
    ∙ ap (moved d n (piece_text p) p) e

-- ---- white space

pub blank_steps : (d : Doc) (text : List ℕ) → may_blank d ≡ true → is_white text ≡ true → doc_step d (blank text) ≡ Some (blanked d)
blank_steps first text m w = ap (λ b. cond b (Some prolog) None) w
blank_steps prolog text m w = ap (λ b. cond b (Some prolog) None) w
blank_steps (within k (inside fs)) text m w = ap (λ b. within_if k (cond b (Some (inside fs)) None)) w
blank_steps (within k (in_leaf tag j fs)) text m w = cc
blank_steps (within k (whole d)) text m w = ap (λ b. within_if k (cond b (Some (whole d)) None)) w

may_blank_on : (d : Doc) (text : List ℕ) (u : Doc) → doc_step d (blank text) ≡ Some u → may_blank d ≡ true
may_blank_on first text u e = refl
may_blank_on prolog text u e = refl
may_blank_on (within k (inside fs)) text u e = refl
may_blank_on (within k (in_leaf tag j fs)) text u e = cc
may_blank_on (within k (whole d)) text u e = refl

still_blank : (d : Doc) → may_blank d ≡ true → may_blank (blanked d) ≡ true
still_blank first m = refl
still_blank prolog m = refl
still_blank (within k s) m = m

blanked_twice : (d : Doc) → blanked (blanked d) ≡ blanked d
blanked_twice first = refl
blanked_twice prolog = refl
blanked_twice (within k s) = refl

one_blank : (d : Doc) (n : Known) (b : ℕ) → may_blank d ≡ true → is_space b ≡ true → on_byte (standing d n []) b ≡ standing (blanked d) (passed_by n 1) []
one_blank d n b m s =
    ap (λ t. cond (t && may_blank d) (ended d n (b ∷ []) (Some (blank (b ∷ [])))) (cond (is_end b) (ended d n (b ∷ []) (piece_of d (b ∷ []))) (standing d n (b ∷ [])))) s
    ∙ ap (λ t. cond t (ended d n (b ∷ []) (Some (blank (b ∷ [])))) (cond (is_end b) (ended d n (b ∷ []) (piece_of d (b ∷ []))) (standing d n (b ∷ [])))) m
    ∙ ap (moved d n (b ∷ []) (blank (b ∷ []))) (blank_steps d (b ∷ []) m (ap (λ t. t && true) s))

blanks_read : (bs : List ℕ) (d : Doc) (n : Known) → may_blank d ≡ true → list_all is_space bs ≡ true → on_bytes (standing (blanked d) n []) bs ≡ standing (blanked d) (passed_by n (length bs)) []
blanks_read [] d n m w = ap (λ k. standing (blanked d) (record n { place = k }) []) (let e : n.place ≡ n.place + 0 = omega arith in e)
blanks_read (b ∷ bs) d n m w =
    let both = and_true (is_space b) (list_all is_space bs) w in
    ap (λ r. on_bytes r bs) (one_blank (blanked d) n b (still_blank d m) both.0 ∙ ap (λ u. standing u (passed_by n 1) []) (blanked_twice d))
    ∙ blanks_read bs d (passed_by n 1) m both.1
    ∙ ap (λ k. standing (blanked d) (record n { place = k }) []) (let e : n.place + 1 + length bs ≡ n.place + length (b ∷ bs) = omega arith in e)

reads_blank : (d : Doc) (n : Known) (text : List ℕ) (u : Doc) → doc_step d (blank text) ≡ Some u → is_white text ≡ true → on_bytes (standing d n []) text ≡ standing u (after n (blank text)) []
reads_blank d n [] u e w = cc
reads_blank d n (b ∷ bs) u e w =
    let m = may_blank_on d (b ∷ bs) u e in
    let both = and_true (is_space b) (list_all is_space bs) w in
    let same : blanked d ≡ u = some_is (blanked d) u (sym (blank_steps d (b ∷ bs) m w) ∙ e) in
    ap (λ r. on_bytes r bs) (one_blank d n b m both.0)
    ∙ blanks_read bs d (passed_by n 1) m both.1
    ∙ ap (λ k. standing (blanked d) (record n { place = k }) []) (let e : n.place + 1 + length bs ≡ n.place + length (b ∷ bs) = omega arith in e)
    ∙ ap (λ v. standing v (after n (blank (b ∷ bs))) []) same

-- ---- all pieces

reads_piece : (d : Doc) (n : Known) (p : Piece) (u : Doc) → doc_step d p ≡ Some u → Tagged p → on_bytes (standing d n []) (piece_text p) ≡ standing u (after n p) []
reads_piece d n (blank text) u e h = reads_blank d n text u e h
reads_piece d n (declaration standalone) u e h = reads_solid d n (declaration standalone) u e (read_doc d (declaration standalone) u e tt h)
reads_piece d n (document k) u e h = reads_solid d n (document k) u e (read_doc d (document k) u e tt h)
reads_piece d n (opening tag) u e h = reads_solid d n (opening tag) u e (read_doc d (opening tag) u e tt h)
reads_piece d n (closing tag) u e h = reads_solid d n (closing tag) u e (read_doc d (closing tag) u e tt h)
reads_piece d n (leaf_opening tag) u e h = reads_solid d n (leaf_opening tag) u e (read_doc d (leaf_opening tag) u e tt h)
reads_piece d n (ending tag content) u e h = reads_solid d n (ending tag content) u e (read_doc d (ending tag content) u e tt h)

-- the text of pieces that the machine takes brings the reader to where they bring the machine
pub reads_all : (ps : List Piece) (d : Doc) (n : Known) (t : Doc) → doc_run ps d ≡ Some t → SoundDoc d → on_bytes (standing d n []) (text_of ps) ≡ standing t (fold after n ps) []
reads_all [] d n t e s = ap (λ u. standing u n []) (some_is d t e)
reads_all (p ∷ ps) d n t e s =
    let u = doc_runs_on d p ps t e in
    let k = doc_step_sound d p u.0 u.1 s in
    fold-append on_byte (standing d n []) (piece_text p) (text_of ps)
    ∙ ap (λ r. on_bytes r (text_of ps)) (reads_piece d n p u.0 u.1 k.0)
    ∙ reads_all ps u.0 (after n p) t u.2 k.1
