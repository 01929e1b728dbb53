-- The machine reads exactly the documents, and whatever it has read begins one.
use Rattle.std.proofs.Common.{ℕ, suc, ◌≡◌, List, [], ◌∷◌, ◌++◌, Option, Some, None, refl, sym, ◌∙◌, ap, append_assoc, append-nil, cond, subst, arith}
use Rattle.std.specs.Prelude.{⊤, option_and_then, codes}
use Rattle.std.proofs.lemmas.Option.{option_and_then_some}
use Rattle.cap_leaf.specs.declared.kinds.Kind.{Kind}
use Rattle.cap_leaf.specs.declared.kinds.Kind.TheVariants.{Caaa001, Caaa002, Caaa003, Caaa004, Caaa005, Caaa006, Caaa007, Caaa008, Caaa009, Caaa010, Caaa011, Caaa012, Caaa013, Caaa014, Caaa015, Catm001, Catm002, Catm003, Catm004}
use Rattle.cap_leaf.specs.Schema.{Content, Table, end, row}
use Rattle.cap_leaf.specs.Trees.{Data, Children, branch, none, child}
use Rattle.cap_trees.specs.Tables.{table_of}
use Rattle.cap_trees.proofs.Tables.{tables_differ, tables_sound}
use Rattle.cap_text.specs.Pieces.{Piece, declaration, blank, document, opening, closing, leaf_opening, ending, is_white, IsWhite, AreWhite, IsProlog, IsDocument, Rows, no_row, white, one_more, next_row}
use Rattle.cap_text.specs.Faults.{Begins}
use Rattle.cap_text.specs.Machine.{State, whole, step, run, Doc, first, prolog, within, root, within_if, doc_step, doc_run}
use Rattle.cap_text.proofs.Common.{some_is, kept}
use Rattle.cap_text.proofs.Complete.{rows_runs}
use Rattle.cap_text.proofs.Sound.{Completes, backs, runs_on}
use Rattle.cap_text.proofs.Completable.{SoundState, completable, step_sound, Tagged}

-- ---- lists of pieces, one behind the other

pub doc_runs_on : (d : Doc) (p : Piece) (ps : List Piece) (t : Doc) → doc_run (p ∷ ps) d ≡ Some t → (u : Doc) × (doc_step d p ≡ Some u) × (doc_run ps u ≡ Some t)
doc_runs_on d p ps t h = option_and_then_some (doc_run ps) (doc_step d p) t h (λ u a b. (u, a, b))

pub doc_run_append : (ps qs : List Piece) (d e : Doc) → doc_run ps d ≡ Some e → doc_run (ps ++ qs) d ≡ doc_run qs e
doc_run_append [] qs d e h = ap (doc_run qs) (some_is d e h)
doc_run_append (p ∷ ps) qs d e h =
    let u = doc_runs_on d p ps e h in
    ap (option_and_then (doc_run (ps ++ qs))) u.1 ∙ doc_run_append ps qs u.0 e u.2

pub doc_run_front : (ps qs : List Piece) (d t : Doc) → doc_run (ps ++ qs) d ≡ Some t → (e : Doc) × (doc_run ps d ≡ Some e) × (doc_run qs e ≡ Some t)
doc_run_front [] qs d t h = (d, refl, h)
doc_run_front (p ∷ ps) qs d t h =
    let u = doc_runs_on d p (ps ++ qs) t h in
    let v = doc_run_front ps qs u.0 t u.2 in
    (v.0, ap (option_and_then (doc_run ps)) u.1 ∙ v.1, v.2)

-- inside of `Document` the machine of the elements runs
within_run : (k : Kind) (ps : List Piece) (s t : State) → run ps s ≡ Some t → doc_run ps (within k s) ≡ Some (within k t)
within_run k [] s t h = ap (λ u. Some (within k u)) (some_is s t h)
within_run k (p ∷ ps) s t h =
    let u = runs_on s p ps t h in
    ap (λ o. option_and_then (doc_run ps) (within_if k o)) u.1 ∙ within_run k ps u.0 t u.2

within_step : (k : Kind) (o : Option State) (u : Doc) → within_if k o ≡ Some u → (s : State) × (o ≡ Some s) × (u ≡ within k s)
within_step k None u e = cc
within_step k (Some s) u e = (s, refl, sym (some_is _ u e))

within_runs : (k : Kind) (ps : List Piece) (s : State) (t : Doc) → doc_run ps (within k s) ≡ Some t → (u : State) × (t ≡ within k u) × (run ps s ≡ Some u)
within_runs k [] s t h = (s, sym (some_is _ t h), refl)
within_runs k (p ∷ ps) s t h =
    let u = doc_runs_on (within k s) p ps t h in
    let v = within_step k (step s p) u.0 u.1 in
    let w = within_runs k ps v.0 t (subst (λ d. doc_run ps d ≡ Some t) v.2 u.2) in
    (w.0, w.1, ap (option_and_then (run ps)) v.1 ∙ w.2)

-- ---- every document is read

prolog_white : (ps qs : List Piece) → AreWhite ps → doc_run (ps ++ qs) prolog ≡ doc_run qs prolog
prolog_white [] qs w = refl
prolog_white (blank text ∷ ps) qs w = ap (λ b. option_and_then (doc_run (ps ++ qs)) (cond b (Some prolog) None)) w.0 ∙ prolog_white ps qs w.1
prolog_white (declaration standalone ∷ ps) qs w = absurd w
prolog_white (document k ∷ ps) qs w = absurd w
prolog_white (opening tag ∷ ps) qs w = absurd w
prolog_white (closing tag ∷ ps) qs w = absurd w
prolog_white (leaf_opening tag ∷ ps) qs w = absurd w
prolog_white (ending tag content ∷ ps) qs w = absurd w

prolog_read : (ps : List Piece) (k : Kind) (qs : List Piece) → IsProlog ps → doc_run (ps ++ document k ∷ qs) first ≡ doc_run qs (within k (root k))
prolog_read [] k qs h = refl
prolog_read (declaration standalone ∷ ps) k qs h = prolog_white ps (document k ∷ qs) h
prolog_read (blank text ∷ ps) k qs h = ap (λ b. option_and_then (doc_run (ps ++ document k ∷ qs)) (cond b (Some prolog) None)) h.0 ∙ prolog_white ps (document k ∷ qs) h.1
prolog_read (document j ∷ ps) k qs h = absurd h
prolog_read (opening tag ∷ ps) k qs h = absurd h
prolog_read (closing tag ∷ ps) k qs h = absurd h
prolog_read (leaf_opening tag ∷ ps) k qs h = absurd h
prolog_read (ending tag content ∷ ps) k qs h = absurd h

white_after : (ps : List Piece) (d : Data) → AreWhite ps → run ps (whole d) ≡ Some (whole d)
white_after [] d w = refl
white_after (blank text ∷ ps) d w = ap (λ b. option_and_then (run ps) (cond b (Some (whole d)) None)) w.0 ∙ white_after ps d w.1
white_after (declaration standalone ∷ ps) d w = absurd w
white_after (document k ∷ ps) d w = absurd w
white_after (opening tag ∷ ps) d w = absurd w
white_after (closing tag ∷ ps) d w = absurd w
white_after (leaf_opening tag ∷ ps) d w = absurd w
white_after (ending tag content ∷ ps) d w = absurd w

-- `Document` with this message element in it
abbrev pub closed_document : Kind → Data → Doc
closed_document k d = within k (whole (branch (child 0 d none)))

pub document_read : (k : Kind) (d : Data) (ps : List Piece) → IsDocument k d ps → doc_run ps first ≡ Some (closed_document k d)
document_read k d ps h =
    ap (λ l. doc_run l first) h.is
    ∙ prolog_read h.front k (h.body ++ closing (codes "Document") ∷ h.back) h.prolog
    ∙ within_run k (h.body ++ closing (codes "Document") ∷ h.back) (root k) (whole (branch (child 0 d none)))
    (rows_runs (codes "Document") 0 [] [] h.back (tables_differ k) h.message ∙ white_after h.back (branch (child 0 d none)) h.spaces)

-- ---- what was read

-- where the machine of the documents stands, by the pieces
abbrev pub Stood : Doc → List Piece → Type 0
Stood first ps = ps ≡ []
Stood prolog ps = IsProlog ps
Stood (within k s) ps = (front body : List Piece) × (ps ≡ front ++ document k ∷ body) × IsProlog front × (run body (root k) ≡ Some s)

more_white : (ps : List Piece) (text : List ℕ) → AreWhite ps → IsWhite text → AreWhite (ps ++ blank text ∷ [])
more_white [] text w h = (h, tt)
more_white (blank other ∷ ps) text w h = (w.0, more_white ps text w.1 h)
more_white (declaration standalone ∷ ps) text w h = absurd w
more_white (document k ∷ ps) text w h = absurd w
more_white (opening tag ∷ ps) text w h = absurd w
more_white (closing tag ∷ ps) text w h = absurd w
more_white (leaf_opening tag ∷ ps) text w h = absurd w
more_white (ending tag content ∷ ps) text w h = absurd w

more_prolog : (ps : List Piece) (text : List ℕ) → IsProlog ps → IsWhite text → IsProlog (ps ++ blank text ∷ [])
more_prolog [] text w h = (h, tt)
more_prolog (declaration standalone ∷ ps) text w h = more_white ps text w h
more_prolog (blank other ∷ ps) text w h = (w.0, more_white ps text w.1 h)
more_prolog (document k ∷ ps) text w h = absurd w
more_prolog (opening tag ∷ ps) text w h = absurd w
more_prolog (closing tag ∷ ps) text w h = absurd w
more_prolog (leaf_opening tag ∷ ps) text w h = absurd w
more_prolog (ending tag content ∷ ps) text w h = absurd w

run_more : (ps : List Piece) (p : Piece) (s t u : State) → run ps s ≡ Some t → step t p ≡ Some u → run (ps ++ p ∷ []) s ≡ Some u
run_more [] p s t u h e = ap (option_and_then (run [])) (subst (λ k. step k p ≡ Some u) (some_is t s (sym h)) e)
run_more (q ∷ ps) p s t u h e = let k = runs_on s q ps t h in ap (option_and_then (run (ps ++ p ∷ []))) k.1 ∙ run_more ps p k.0 t u k.2 e

stood_within : (k : Kind) (s : State) (ps : List Piece) (p : Piece) (u : Doc) → Stood (within k s) ps → (v : State) × (step s p ≡ Some v) × (u ≡ within k v) → Stood u (ps ++ p ∷ [])
stood_within k s ps p u (front, body, is, f, r) (v, e, same) =
    subst (λ d. Stood d (ps ++ p ∷ [])) (sym same)
    (front, body ++ p ∷ [], ap (λ l. l ++ p ∷ []) is ∙ append_assoc front (document k ∷ body) (p ∷ []), f, run_more body p (root k) s v r e)

stood_step : (d : Doc) (ps : List Piece) (p : Piece) (u : Doc) → doc_step d p ≡ Some u → Stood d ps → Stood u (ps ++ p ∷ [])
stood_step first ps (declaration standalone) u e h = subst (λ l. Stood u (l ++ declaration standalone ∷ [])) (sym h) (subst (λ d. Stood d (declaration standalone ∷ [])) (some_is _ u e) tt)
stood_step first ps (blank text) u e h =
    let both = kept (is_white text) (Some prolog) u e in
    subst (λ l. Stood u (l ++ blank text ∷ [])) (sym h) (subst (λ d. Stood d (blank text ∷ [])) (some_is _ u both.1) (both.0, tt))
stood_step first ps (document k) u e h =
    subst (λ l. Stood u (l ++ document k ∷ [])) (sym h) (subst (λ d. Stood d (document k ∷ [])) (some_is _ u e) ([], [], refl, tt, refl))
stood_step first ps (opening tag) u e h = cc
stood_step first ps (closing tag) u e h = cc
stood_step first ps (leaf_opening tag) u e h = cc
stood_step first ps (ending tag content) u e h = cc
stood_step prolog ps (declaration standalone) u e h = cc
stood_step prolog ps (blank text) u e h =
    let both = kept (is_white text) (Some prolog) u e in subst (λ d. Stood d (ps ++ blank text ∷ [])) (some_is _ u both.1) (more_prolog ps text h both.0)
stood_step prolog ps (document k) u e h = subst (λ d. Stood d (ps ++ document k ∷ [])) (some_is _ u e) (ps, [], refl, h, refl)
stood_step prolog ps (opening tag) u e h = cc
stood_step prolog ps (closing tag) u e h = cc
stood_step prolog ps (leaf_opening tag) u e h = cc
stood_step prolog ps (ending tag content) u e h = cc
stood_step (within k s) ps p u e h = stood_within k s ps p u h (within_step k (step s p) u e)

stood_from : (qs ps : List Piece) (d t : Doc) → Stood d ps → doc_run qs d ≡ Some t → Stood t (ps ++ qs)
stood_from [] ps d t h e = subst (λ l. Stood t l) (sym (append-nil ps)) (subst (λ k. Stood k ps) (some_is d t e) h)
stood_from (q ∷ qs) ps d t h e =
    let u = doc_runs_on d q qs t e in
    subst (λ l. Stood t l) (append_assoc ps (q ∷ []) qs) (stood_from qs (ps ++ q ∷ []) u.0 t (stood_step d ps q u.0 u.1 h) u.2)

pub stood : (ps : List Piece) (t : Doc) → doc_run ps first ≡ Some t → Stood t ps
stood ps t e = stood_from ps [] first t refl e

-- ---- a table of one row that stands once

used_up : {t : Table} {at n : ℕ} {cs : Children} {ps : List Piece} (tag : List ℕ) (c : Content) → t ≡ end → Rows t at n cs ps → cs ≡ none
used_up tag c e no_row = refl
used_up tag c e (white w r) = used_up tag c e r
used_up tag c e (one_more lt x r) = cc
used_up tag c e (next_row le r) = cc

abbrev rest_of : Table → Table
rest_of end = end
rest_of (row tag least most c rest) = rest

abbrev most_of : Table → ℕ
most_of end = 0
most_of (row tag least most c rest) = most

abbrev least_of : Table → ℕ
least_of end = 0
least_of (row tag least most c rest) = least

stood_once : {t : Table} {at n : ℕ} {cs : Children} {ps : List Piece} (tag : List ℕ) (c : Content) → t ≡ row tag 1 1 c end → n ≡ 1 → Rows t at n cs ps → cs ≡ none
stood_once tag c e one no_row = refl
stood_once tag c e one (white w r) = stood_once tag c e one r
stood_once tag c e one (one_more lt x r) = absurd (let m = ap most_of e in omega (arith, m, one, lt))
stood_once tag c e one (next_row le r) = used_up tag c (ap rest_of e) r

pub stands_once : {t : Table} {at n : ℕ} {cs : Children} {ps : List Piece} (tag : List ℕ) (c : Content) → t ≡ row tag 1 1 c end → n ≡ 0 → Rows t at n cs ps → (d : Data) × (cs ≡ child at d none)
stands_once tag c e zero' no_row = cc
stands_once tag c e zero' (white w r) = stands_once tag c e zero' r
stands_once {at = at} tag c e zero' (one_more {d = d} lt x r) = (d, ap (child at d) (stood_once tag c e (ap suc zero') r))
stands_once tag c e zero' (next_row le r) = absurd (let m = ap least_of e in omega (arith, m, zero', le))

-- the table of a message has one row, which stands once
pub one_row : (k : Kind) → (tag : List ℕ) × (c : Content) × (table_of k ≡ row tag 1 1 c end)
one_row Caaa001 = (_, _, refl)
one_row Caaa002 = (_, _, refl)
one_row Caaa003 = (_, _, refl)
one_row Caaa004 = (_, _, refl)
one_row Caaa005 = (_, _, refl)
one_row Caaa006 = (_, _, refl)
one_row Caaa007 = (_, _, refl)
one_row Caaa008 = (_, _, refl)
one_row Caaa009 = (_, _, refl)
one_row Caaa010 = (_, _, refl)
one_row Caaa011 = (_, _, refl)
one_row Caaa012 = (_, _, refl)
one_row Caaa013 = (_, _, refl)
one_row Caaa014 = (_, _, refl)
one_row Caaa015 = (_, _, refl)
one_row Catm001 = (_, _, refl)
one_row Catm002 = (_, _, refl)
one_row Catm003 = (_, _, refl)
one_row Catm004 = (_, _, refl)

-- what completes `Document`
message_of : (k : Kind) (front body : List Piece) (e : Data) → IsProlog front → Completes (root k) body e
    → (d : Data) × (e ≡ branch (child 0 d none)) × IsDocument k d (front ++ document k ∷ body)
message_of k front body e f (cs, p, q, is, by_rows, (spaces, same)) =
    let t = one_row k in
    let one = stands_once t.0 t.1 t.2 refl by_rows in (
      one.0,
      sym same ∙ ap branch one.1,
      record {
        front = front;
        body = p;
        back = q;
        is = ap (λ l. front ++ document k ∷ l) is;
        prolog = f;
        message = subst (λ l. Rows (table_of k) 0 0 l p) one.1 by_rows;
        spaces = spaces;
      },
    )

-- a whole document was read
whole_of : (k : Kind) (e : Data) (ps : List Piece) → Stood (within k (whole e)) ps → (d : Data) × (e ≡ branch (child 0 d none)) × IsDocument k d ps
whole_of k e ps (front, body, is, f, r) =
    let m = message_of k front body e f (subst (λ l. Completes (root k) l e) (append-nil body) (backs body [] (root k) (whole e) e r (tt, refl))) in
    (m.0, m.1, subst (λ l. IsDocument k m.0 l) (sym is) m.2)

pub read_document : (k : Kind) (e : Data) (ps : List Piece) → doc_run ps first ≡ Some (within k (whole e)) → (d : Data) × (e ≡ branch (child 0 d none)) × IsDocument k d ps
read_document k e ps h = whole_of k e ps (stood ps (within k (whole e)) h)

-- ---- the machine keeps that what it has read can be completed

abbrev pub SoundDoc : Doc → Type 0
SoundDoc first = ⊤
SoundDoc prolog = ⊤
SoundDoc (within k s) = SoundState s

pub root_sound : (k : Kind) → SoundState (root k)
root_sound k = (refl, tables_sound k, tt)

within_sound : (k : Kind) (p : Piece) (s : State) (u : Doc) → SoundState s → (v : State) × (step s p ≡ Some v) × (u ≡ within k v) → Tagged p × SoundDoc u
within_sound k p s u h (v, e, same) = let t = step_sound s p v e h in (t.0, subst SoundDoc (sym same) t.1)

pub doc_step_sound : (d : Doc) (p : Piece) (u : Doc) → doc_step d p ≡ Some u → SoundDoc d → Tagged p × SoundDoc u
doc_step_sound first (declaration standalone) u e h = (tt, subst SoundDoc (some_is _ u e) tt)
doc_step_sound first (blank text) u e h = let both = kept (is_white text) (Some prolog) u e in (both.0, subst SoundDoc (some_is _ u both.1) tt)
doc_step_sound first (document k) u e h = (tt, subst SoundDoc (some_is _ u e) (root_sound k))
doc_step_sound first (opening tag) u e h = cc
doc_step_sound first (closing tag) u e h = cc
doc_step_sound first (leaf_opening tag) u e h = cc
doc_step_sound first (ending tag content) u e h = cc
doc_step_sound prolog (declaration standalone) u e h = cc
doc_step_sound prolog (blank text) u e h = let both = kept (is_white text) (Some prolog) u e in (both.0, subst SoundDoc (some_is _ u both.1) tt)
doc_step_sound prolog (document k) u e h = (tt, subst SoundDoc (some_is _ u e) (root_sound k))
doc_step_sound prolog (opening tag) u e h = cc
doc_step_sound prolog (closing tag) u e h = cc
doc_step_sound prolog (leaf_opening tag) u e h = cc
doc_step_sound prolog (ending tag content) u e h = cc
doc_step_sound (within k s) p u e h = within_sound k p s u h (within_step k (step s p) u e)

pub doc_run_sound : (ps : List Piece) (d t : Doc) → doc_run ps d ≡ Some t → SoundDoc d → SoundDoc t
doc_run_sound [] d t e h = subst SoundDoc (some_is d t e) h
doc_run_sound (p ∷ ps) d t e h = let u = doc_runs_on d p ps t e in doc_run_sound ps u.0 t u.2 (doc_step_sound d p u.0 u.1 h).1

-- ---- whatever was read begins a document

begins_from : (k : Kind) (front body : List Piece) (s : State) (ps : List Piece) → ps ≡ front ++ document k ∷ body → IsProlog front → run body (root k) ≡ Some s → SoundState s → Begins ps
begins_from k front body s ps is f r h =
    let c = completable s h in
    let m = message_of k front (body ++ c.0) c.1 f (backs body c.0 (root k) s c.1 r c.2) in
    (k, m.0, c.0, subst (λ l. IsDocument k m.0 l) (sym (ap (λ l. l ++ c.0) is ∙ append_assoc front (document k ∷ body) c.0)) m.2)

begins_prolog : (ps : List Piece) → IsProlog ps → Begins ps
begins_prolog ps f =
    let c = completable (root Caaa001) (root_sound Caaa001) in
    let m = message_of Caaa001 ps c.0 c.1 f c.2 in
    (Caaa001, m.0, document Caaa001 ∷ c.0, m.2)

begins_at : (t : Doc) (ps : List Piece) → Stood t ps → SoundDoc t → Begins ps
begins_at first ps h s = begins_prolog ps (subst IsProlog (sym h) tt)
begins_at prolog ps h s = begins_prolog ps h
begins_at (within k u) ps (front, body, is, f, r) s = begins_from k front body u ps is f r s

pub begins : (ps : List Piece) (t : Doc) → doc_run ps first ≡ Some t → Begins ps
begins ps t e = begins_at t ps (stood ps t e) (doc_run_sound ps first t e tt)
