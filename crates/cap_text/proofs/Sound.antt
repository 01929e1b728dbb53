-- What the machine reads is in the grammar, with the tree that the machine gives.
use Rattle.std.proofs.Common.{ℕ, suc, ◌≡◌, List, [], ◌∷◌, ◌++◌, true, nat_lt, Option, Some, None, refl, sym, ◌∙◌, ap, append_assoc, cond, subst, inl, inr}
use Rattle.std.specs.Prelude.{◌&&◌}
use Rattle.std.specs.Str.{bytes_eq}
use Rattle.std.proofs.lemmas.Option.{option_and_then_some}
use Rattle.cap_leaf.specs.declared.kinds.LeafKind.{LeafKind}
use Rattle.cap_leaf.specs.declared.leaf.Leaf.{Leaf}
use Rattle.cap_leaf.specs.Spelling.{leaf_of}
use Rattle.cap_leaf.specs.Schema.{Content, Table, leaf, all, one_of, end, row}
use Rattle.cap_leaf.specs.Trees.{Data, Children, value, branch, none, child}
use Rattle.cap_text.specs.Pieces.{Piece, declaration, blank, document, opening, closing, leaf_opening, ending, is_white, IsWhite, AreWhite, Element, Rows, Choice, a_leaf, in_order, a_choice, no_row, white, one_more, next_row, white_first, this_row, other_row}
use Rattle.cap_text.specs.Machine.{Left, rows, choice, filled, Frame, State, inside, in_leaf, whole, Found, seek, pick, look, satisfied, ready, onto, close, fresh, enter, enter_leaf, around, opened, leaf_opened, filled_by, step, run}
use Rattle.cap_text.proofs.Common.{tag_is, at_least, is_below, and_true, some_is, chosen, kept, passed, passed_test}

-- ---- what may still be read

-- children that may still stand, and their pieces
abbrev pub Stands : Left → Children → List Piece → Type 0
Stands (rows t at n) cs ps = Rows t at n cs ps
Stands (choice t) cs ps = (at : ℕ) × (d : Data) × (cs ≡ child at d none) × Choice t 0 at d ps
Stands filled cs ps = (cs ≡ none) × AreWhite ps

-- these pieces close the open structures, and the outermost is then this tree
abbrev pub Closes : List Frame → Data → List Piece → Data → Type 0
Closes [] d ps e = AreWhite ps × (d ≡ e)
Closes (f ∷ fs) d ps e = (cs : Children) × (p q : List Piece) × (ps ≡ p ++ closing f.tag ∷ q) × Stands f.left cs p
    × Closes fs (branch (onto f.done (child f.last d cs))) q e

abbrev pub Completes : State → List Piece → Data → Type 0
Completes (inside []) ps e = ⊥
Completes (inside (f ∷ fs)) ps e = (cs : Children) × (p q : List Piece) × (ps ≡ p ++ closing f.tag ∷ q) × Stands f.left cs p
    × Closes fs (branch (onto f.done cs)) q e
Completes (in_leaf tag k fs) ps e = (x : Leaf) × (content : List ℕ) × (q : List Piece) × (ps ≡ ending tag content ∷ q) × (leaf_of k content ≡ Some x) × Closes fs (value x) q e
Completes (whole d) ps e = AreWhite ps × (d ≡ e)

-- closing an element changes nothing of it
closed : (fs : List Frame) (d : Data) (ps : List Piece) (e : Data) → Completes (close fs d) ps e → Closes fs d ps e
closed [] d ps e h = h
closed (f ∷ fs) d ps e h = h

no_rows : (t : Table) (at n : ℕ) → satisfied t n ≡ true → Rows t at n none []
no_rows end at n e = no_row
no_rows (row t least most c rest) at n e =
    let both = passed_test (nat_lt n least) (satisfied rest 0) e in
    next_row (at_least n least both.0) (no_rows rest (suc at) 0 both.1)

ready_is : (left : Left) → ready left ≡ true → Stands left none []
ready_is (rows t at n) e = no_rows t at n e
ready_is (choice t) e = cc
ready_is filled e = (refl, tt)

-- white space stands before what may still be read
white_stands : (left : Left) (cs : Children) (text : List ℕ) (ps : List Piece) → IsWhite text → Stands left cs ps → Stands left cs (blank text ∷ ps)
white_stands (rows t at n) cs text ps w s = white w s
white_stands (choice t) cs text ps w (at, d, one, s) = (at, d, one, white_first w s)
white_stands filled cs text ps w s = (s.0, (w, s.1))

-- what is found stands, with what may stand after it
sought : (t : Table) (at n : ℕ) (g : List ℕ) (f : Found) → seek t at n g ≡ Some f → (d : Data) (cs : Children) (p q : List Piece)
    → Element g f.content d p → Stands f.left cs q → Rows t at n (child f.at d cs) (p ++ q)
sought end at n g f e d cs p q h s = cc
sought (row t least most c rest) at n g f e d cs p q h s =
    elim (chosen (bytes_eq t g) (cond (nat_lt n most) (Some record { left = rows (row t least most c rest) at (suc n); at = at; content = c }) None)
    (cond (nat_lt n least) None (seek rest (suc at) 0 g)) (Some f) e) [
      | inl (same, e') ↦
          (let both = kept (nat_lt n most) (Some record { left = rows (row t least most c rest) at (suc n); at = at; content = c }) f e' in
          let P : Found → Type 0 = λ f. Element g f.content d p → Stands f.left cs q → Rows (row t least most c rest) at n (child f.at d cs) (p ++ q) in
          subst P (some_is _ f both.1) (λ h s. one_more (is_below n most both.0) (subst (λ k. Element k c d p) (sym (tag_is t g same)) h) s) h s)
      | inr (other, e') ↦
          (let both = passed (nat_lt n least) (seek rest (suc at) 0 g) f e' in
          next_row (at_least n least both.0) (sought rest (suc at) 0 g f both.1 d cs p q h s))
    ]

picked : (t : Table) (at : ℕ) (g : List ℕ) (f : Found) → pick t at g ≡ Some f → (d : Data) (p q : List Piece)
    → Element g f.content d p → AreWhite q → Choice t at f.at d (p ++ q) × (f.left ≡ filled)
picked end at g f e d p q h w = cc
picked (row t least most c rest) at g f e d p q h w =
    elim (chosen (bytes_eq t g) (Some record { left = filled; at = at; content = c }) (pick rest (suc at) g) (Some f) e) [
      | inl (same, e') ↦
          (let P : Found → Type 0 = λ f. Element g f.content d p → Choice (row t least most c rest) at f.at d (p ++ q) × (f.left ≡ filled) in
          subst P (some_is _ f e') (λ h. (this_row (subst (λ k. Element k c d p) (sym (tag_is t g same)) h) q w, refl)) h)
      | inr (other, e') ↦ (let deep = picked rest (suc at) g f e' d p q h w in (other_row deep.0, deep.1))
    ]

-- what is picked leaves nothing
picks_last : (t : Table) (at : ℕ) (g : List ℕ) (f : Found) → pick t at g ≡ Some f → f.left ≡ filled
picks_last end at g f e = cc
picks_last (row t least most c rest) at g f e =
    elim (chosen (bytes_eq t g) (Some record { left = filled; at = at; content = c }) (pick rest (suc at) g) (Some f) e) [
      | inl (same, e') ↦ sym (ap (λ (k : Found). k.left) (some_is _ f e'))
      | inr (other, e') ↦ picks_last rest (suc at) g f e'
    ]

looked : (left : Left) (g : List ℕ) (f : Found) → look left g ≡ Some f → (d : Data) (cs : Children) (p q : List Piece)
    → Element g f.content d p → Stands f.left cs q → Stands left (child f.at d cs) (p ++ q)
looked (rows t at n) g f e d cs p q h s = sought t at n g f e d cs p q h s
looked (choice t) g f e d cs p q h s =
    let nothing = subst (λ l. Stands l cs q) (picks_last t 0 g f e) s in
    let one = picked t 0 g f e d p q h nothing.1 in
    (f.at, d, ap (λ k. child f.at d k) nothing.0, one.0)
looked filled g f e d cs p q h s = cc

-- ---- the run

entered_all : (g : List ℕ) (t : Table) (fs : List Frame) (ps : List Piece) (e : Data) → Completes (inside (fresh g (rows t 0 0) ∷ fs)) ps e
    → (d : Data) × (p q : List Piece) × (opening g ∷ ps ≡ p ++ q) × Element g (all t) d p × Closes fs d q e
entered_all g t fs ps e (cs, p, q, is, stands, rest) =
    (branch cs, opening g ∷ (p ++ closing g ∷ []), q, ap (λ l. opening g ∷ l) (is ∙ sym (append_assoc p (closing g ∷ []) q)), in_order stands, rest)

entered_one_of : (g : List ℕ) (t : Table) (fs : List Frame) (ps : List Piece) (e : Data) → Completes (inside (fresh g (choice t) ∷ fs)) ps e
    → (d : Data) × (p q : List Piece) × (opening g ∷ ps ≡ p ++ q) × Element g (one_of t) d p × Closes fs d q e
entered_one_of g t fs ps e (cs, p, q, is, (at, d, one, stands), rest) = (
  branch (child at d none),
  opening g ∷ (p ++ closing g ∷ []),
  q,
  ap (λ l. opening g ∷ l) (is ∙ sym (append_assoc p (closing g ∷ []) q)),
  a_choice stands,
  subst (λ k. Closes fs (branch k) q e) one rest,
)

entered_in_leaf : (g : List ℕ) (k : LeafKind) (fs : List Frame) (ps : List Piece) (e : Data) → Completes (in_leaf g k fs) ps e
    → (d : Data) × (p q : List Piece) × (leaf_opening g ∷ ps ≡ p ++ q) × Element g (leaf k) d p × Closes fs d q e
entered_in_leaf g k fs ps e (x, content, q, is, f, rest) = (value x, leaf_opening g ∷ ending g content ∷ [], q, ap (λ l. leaf_opening g ∷ l) is, a_leaf f, rest)

-- a structure that was entered, and what closes the structures around it
entered : (g : List ℕ) (c : Content) (fs : List Frame) (s : State) (ps : List Piece) (e : Data) → enter g c fs ≡ Some s → Completes s ps e
    → (d : Data) × (p q : List Piece) × (opening g ∷ ps ≡ p ++ q) × Element g c d p × Closes fs d q e
entered g (leaf k) fs s ps e is h = cc
entered g (all t) fs s ps e is h = entered_all g t fs ps e (subst (λ t. Completes t ps e) (sym (some_is _ s is)) h)
entered g (one_of t) fs s ps e is h = entered_one_of g t fs ps e (subst (λ t. Completes t ps e) (sym (some_is _ s is)) h)

entered_leaf : (g : List ℕ) (c : Content) (fs : List Frame) (s : State) (ps : List Piece) (e : Data) → enter_leaf g c fs ≡ Some s → Completes s ps e
    → (d : Data) × (p q : List Piece) × (leaf_opening g ∷ ps ≡ p ++ q) × Element g c d p × Closes fs d q e
entered_leaf g (leaf k) fs s ps e is h = entered_in_leaf g k fs ps e (subst (λ t. Completes t ps e) (sym (some_is _ s is)) h)
entered_leaf g (all t) fs s ps e is h = cc
entered_leaf g (one_of t) fs s ps e is h = cc

pub runs_on : (s : State) (p : Piece) (ps : List Piece) (t : State) → run (p ∷ ps) s ≡ Some t → (u : State) × (step s p ≡ Some u) × (run ps u ≡ Some t)
runs_on s p ps t h = option_and_then_some (run ps) (step s p) t h (λ u a b. (u, a, b))

-- an element in front of what completes the structure around it
completes_with : (f : Frame) (fs : List Frame) (g : List ℕ) (found : Found) (first : Piece) (ps : List Piece) (e : Data) → look f.left g ≡ Some found
    → (d : Data) × (p q : List Piece) × (first ∷ ps ≡ p ++ q) × Element g found.content d p × Closes (around f found ∷ fs) d q e
    → Completes (inside (f ∷ fs)) (first ∷ ps) e
completes_with f fs g found first ps e l t =
    let u = t.5 in (
      child found.at t.0 u.0,
      t.1 ++ u.1,
      u.2,
      t.3 ∙ ap (λ k. t.1 ++ k) u.3 ∙ sym (append_assoc t.1 u.1 (closing f.tag ∷ u.2)),
      looked f.left g found l t.0 u.0 t.1 u.1 t.4 u.4,
      u.5,
    )

opened_back : (f : Frame) (fs : List Frame) (g : List ℕ) (o : Option Found) (s : State) (ps : List Piece) (e : Data) → look f.left g ≡ o → opened f fs g o ≡ Some s
    → Completes s ps e → Completes (inside (f ∷ fs)) (opening g ∷ ps) e
opened_back f fs g None s ps e l is h = cc
opened_back f fs g (Some found) s ps e l is h = completes_with f fs g found (opening g) ps e l (entered g found.content (around f found ∷ fs) s ps e is h)

leaf_back : (f : Frame) (fs : List Frame) (g : List ℕ) (o : Option Found) (s : State) (ps : List Piece) (e : Data) → look f.left g ≡ o → leaf_opened f fs g o ≡ Some s
    → Completes s ps e → Completes (inside (f ∷ fs)) (leaf_opening g ∷ ps) e
leaf_back f fs g None s ps e l is h = cc
leaf_back f fs g (Some found) s ps e l is h = completes_with f fs g found (leaf_opening g) ps e l (entered_leaf g found.content (around f found ∷ fs) s ps e is h)

completes_closing : (f : Frame) (fs : List Frame) (g : List ℕ) (ps : List Piece) (e : Data) → f.tag ≡ g → ready f.left ≡ true
    → Completes (close fs (branch (onto f.done none))) ps e → Completes (inside (f ∷ fs)) (closing g ∷ ps) e
completes_closing f fs g ps e same r h = (none, [], ps, ap (λ k. closing k ∷ ps) (sym same), ready_is f.left r, closed fs _ ps e h)

white_back : (s : State) (text : List ℕ) (ps : List Piece) (e : Data) → IsWhite text → ((tag : List ℕ) (k : LeafKind) (fs : List Frame) → s ≡ in_leaf tag k fs → ⊥) → Completes s ps e → Completes s (blank text ∷ ps) e
white_back (inside []) text ps e w never h = absurd h
white_back (inside (f ∷ fs)) text ps e w never (cs, p, q, is, s, c) = (cs, blank text ∷ p, q, ap (λ k. blank text ∷ k) is, white_stands f.left cs text p w s, c)
white_back (in_leaf tag k fs) text ps e w never h = absurd (never tag k fs refl)
white_back (whole d) text ps e w never h = ((w, h.0), h.1)

filled_back : (tag content : List ℕ) (k : LeafKind) (fs : List Frame) (o : Option Leaf) (s : State) (ps : List Piece) (e : Data) → leaf_of k content ≡ o → filled_by fs o ≡ Some s
    → Completes s ps e → Completes (in_leaf tag k fs) (ending tag content ∷ ps) e
filled_back tag content k fs None s ps e r is h = cc
filled_back tag content k fs (Some x) s ps e r is h = (x, content, ps, refl, r, closed fs (value x) ps e (subst (λ t. Completes t ps e) (sym (some_is _ s is)) h))

-- one step back
pub back : (s : State) (p : Piece) (ps : List Piece) (e : Data) (u : State) → step s p ≡ Some u → Completes u ps e → Completes s (p ∷ ps) e
back (inside fs) (blank text) ps e u is h =
    let both = kept (is_white text) (Some (inside fs)) u is in
    white_back (inside fs) text ps e both.0 (λ tag k gs e. cc) (subst (λ t. Completes t ps e) (sym (some_is _ u both.1)) h)
back (inside fs) (declaration standalone) ps e u is h = cc
back (inside fs) (document k) ps e u is h = cc
back (inside []) (opening g) ps e u is h = cc
back (inside []) (closing g) ps e u is h = cc
back (inside []) (leaf_opening g) ps e u is h = cc
back (inside (f ∷ fs)) (opening g) ps e u is h = opened_back f fs g (look f.left g) u ps e refl is h
back (inside (f ∷ fs)) (leaf_opening g) ps e u is h = leaf_back f fs g (look f.left g) u ps e refl is h
back (inside (f ∷ fs)) (closing g) ps e u is h =
    let outer = kept (bytes_eq f.tag g && ready f.left) (Some (close fs (branch (onto f.done none)))) u is in
    let two = and_true (bytes_eq f.tag g) (ready f.left) outer.0 in
    completes_closing f fs g ps e (tag_is f.tag g two.0) two.1 (subst (λ t. Completes t ps e) (sym (some_is _ u outer.1)) h)
back (inside fs) (ending tag content) ps e u is h = cc
back (in_leaf t k fs) (declaration standalone) ps e u is h = cc
back (in_leaf t k fs) (blank text) ps e u is h = cc
back (in_leaf t k fs) (document j) ps e u is h = cc
back (in_leaf t k fs) (opening tag) ps e u is h = cc
back (in_leaf t k fs) (closing tag) ps e u is h = cc
back (in_leaf t k fs) (leaf_opening tag) ps e u is h = cc
back (in_leaf t k fs) (ending g content) ps e u is h =
    let outer = kept (bytes_eq t g) (filled_by fs (leaf_of k content)) u is in
    subst (λ l. Completes (in_leaf t k fs) (ending l content ∷ ps) e) (tag_is t g outer.0) (filled_back t content k fs (leaf_of k content) u ps e refl outer.1 h)
back (whole d) (blank text) ps e u is h =
    let both = kept (is_white text) (Some (whole d)) u is in
    white_back (whole d) text ps e both.0 (λ tag k gs e. cc) (subst (λ t. Completes t ps e) (sym (some_is _ u both.1)) h)
back (whole d) (declaration standalone) ps e u is h = cc
back (whole d) (document k) ps e u is h = cc
back (whole d) (opening tag) ps e u is h = cc
back (whole d) (closing tag) ps e u is h = cc
back (whole d) (leaf_opening tag) ps e u is h = cc
back (whole d) (ending tag content) ps e u is h = cc

-- what completes a state completes one that leads to it, after the pieces between them
pub backs : (ps qs : List Piece) (s t : State) (e : Data) → run ps s ≡ Some t → Completes t qs e → Completes s (ps ++ qs) e
backs [] qs s t e h c = subst (λ u. Completes u qs e) (sym (some_is s t h)) c
backs (p ∷ ps) qs s t e h c = let u = runs_on s p ps t h in back s p (ps ++ qs) e u.0 u.1 (backs ps qs u.0 t e u.2 c)
