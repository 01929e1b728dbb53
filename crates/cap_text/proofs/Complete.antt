-- The machine reads every element of the grammar, and gives back its tree.
use Rattle.std.proofs.Common.{ℕ, suc, ◌<◌, ◌≡◌, List, [], ◌∷◌, ◌++◌, Bool, true, false, nat_lt, Option, Some, None, refl, ◌∙◌, ap, append_assoc, cond}
use Rattle.std.specs.Prelude.{option_and_then, ⊤, ◌&&◌}
use Rattle.std.specs.Str.{bytes_eq}
use Rattle.cap_leaf.specs.declared.kinds.LeafKind.{LeafKind}
use Rattle.cap_leaf.specs.declared.leaf.Leaf.{Leaf}
use Rattle.cap_leaf.specs.Spelling.{leaf_of}
use Rattle.cap_leaf.specs.Schema.{Content, Table, end, row}
use Rattle.cap_leaf.specs.Trees.{Data, Children, value, branch, none, child}
use Rattle.cap_trees.specs.Tests.{Other, AllTags, Differ, DifferIn}
use Rattle.cap_text.specs.Pieces.{Piece, declaration, blank, document, opening, closing, leaf_opening, ending, is_white, IsWhite, AreWhite, Element, Rows, Choice, a_leaf, in_order, a_choice, no_row, white, one_more, next_row, white_first, this_row, other_row}
use Rattle.cap_text.specs.Machine.{Left, rows, choice, filled, Read, Frame, State, inside, in_leaf, Found, seek, pick, look, satisfied, ready, onto, close, fresh, enter, enter_leaf, opened, leaf_opened, filled_by, run}
use Rattle.cap_text.proofs.Common.{same_tag, not_below, below}

-- the first piece, but for white space, opens an element
abbrev StartsIn : (List ℕ → Type 0) → List Piece → Type 0
StartsIn P [] = ⊤
StartsIn P (blank text ∷ ps) = StartsIn P ps
StartsIn P (opening tag ∷ ps) = P tag
StartsIn P (leaf_opening tag ∷ ps) = P tag
StartsIn P (closing tag ∷ ps) = ⊥
StartsIn P (ending tag content ∷ ps) = ⊥
StartsIn P (declaration standalone ∷ ps) = ⊥
StartsIn P (document k ∷ ps) = ⊥

starts_element : {tag : List ℕ} {c : Content} {d : Data} {ps : List Piece} → (P : List ℕ → Type 0) → (qs : List Piece) → P tag → Element tag c d ps → StartsIn P (ps ++ qs)
starts_element P qs h (a_leaf f) = h
starts_element P qs h (in_order r) = h
starts_element P qs h (a_choice r) = h

starts_rows : {t : Table} {at n : ℕ} {cs : Children} {ps : List Piece} → (P : List ℕ → Type 0) → AllTags P t → Rows t at n cs ps → StartsIn P ps
starts_rows P h no_row = tt
starts_rows P h (white w r) = starts_rows P h r
starts_rows P h (one_more lt e r) = starts_element P _ h.0 e
starts_rows P h (next_row le r) = starts_rows P h.1 r

starts_choice : {t : Table} {at place : ℕ} {d : Data} {ps : List Piece} → (P : List ℕ → Type 0) → AllTags P t → Choice t at place d ps → StartsIn P ps
starts_choice P h (white_first w r) = starts_choice P h r
starts_choice P h (this_row e qs w) = starts_element P _ h.0 e
starts_choice P h (other_row r) = starts_choice P h.1 r

starts_both : (P Q R : List ℕ → Type 0) → ((g : List ℕ) → P g → Q g → R g) → (ps : List Piece) → StartsIn P ps → StartsIn Q ps → StartsIn R ps
starts_both P Q R f [] p q = tt
starts_both P Q R f (blank text ∷ ps) p q = starts_both P Q R f ps p q
starts_both P Q R f (opening g ∷ ps) p q = f g p q
starts_both P Q R f (leaf_opening g ∷ ps) p q = f g p q
starts_both P Q R f (closing g ∷ ps) p q = absurd p
starts_both P Q R f (ending g content ∷ ps) p q = absurd p
starts_both P Q R f (declaration standalone ∷ ps) p q = absurd p
starts_both P Q R f (document k ∷ ps) p q = absurd p

all_tags : (P : List ℕ → Type 0) → ((g : List ℕ) → P g) → (t : Table) → AllTags P t
all_tags P h end = tt
all_tags P h (row t least most c rest) = (h t, all_tags P h rest)

abbrev frame : List ℕ → Left → ℕ → List Read → Frame
frame tag left last done = record { tag = tag; left = left; last = last; done = done }

-- white space
spaced : (text : List ℕ) (ps : List Piece) (fs : List Frame) → IsWhite text → run (blank text ∷ ps) (inside fs) ≡ run ps (inside fs)
spaced text ps fs w = ap (λ b. option_and_then (run ps) (cond b (Some (inside fs)) None)) w

spaces : (qs ps : List Piece) (fs : List Frame) → AreWhite qs → run (qs ++ ps) (inside fs) ≡ run ps (inside fs)
spaces [] ps fs w = refl
spaces (blank text ∷ qs) ps fs w = spaced text (qs ++ ps) fs w.0 ∙ spaces qs ps fs w.1
spaces (declaration standalone ∷ qs) ps fs w = absurd w
spaces (document k ∷ qs) ps fs w = absurd w
spaces (opening tag ∷ qs) ps fs w = absurd w
spaces (closing tag ∷ qs) ps fs w = absurd w
spaces (leaf_opening tag ∷ qs) ps fs w = absurd w
spaces (ending tag content ∷ qs) ps fs w = absurd w

-- a closing that fits
pub shuts : (tag : List ℕ) (left : Left) (last : ℕ) (done : List Read) (fs : List Frame) (qs : List Piece) → ready left ≡ true
    → run (closing tag ∷ qs) (inside (frame tag left last done ∷ fs)) ≡ run qs (close fs (branch (onto done none)))
shuts tag left last done fs qs r =
    ap (λ b. option_and_then (run qs) (cond (b && ready left) (Some (close fs (branch (onto done none)))) None)) (same_tag tag)
    ∙ ap (λ b. option_and_then (run qs) (cond b (Some (close fs (branch (onto done none)))) None)) r

-- what stands next depends on what is found alone
same_next : (tag g : List ℕ) (left more : Left) (last : ℕ) (done : List Read) (fs : List Frame) (go : State → Option State) (o p : Option Found) → o ≡ p
    → option_and_then go (opened (frame tag left last done) fs g o) ≡ option_and_then go (opened (frame tag more last done) fs g p)
same_next tag g left more last done fs go None p e = ap (λ q. option_and_then go (opened (frame tag more last done) fs g q)) e
same_next tag g left more last done fs go (Some found) p e = ap (λ q. option_and_then go (opened (frame tag more last done) fs g q)) e

same_next_leaf : (tag g : List ℕ) (left more : Left) (last : ℕ) (done : List Read) (fs : List Frame) (go : State → Option State) (o p : Option Found) → o ≡ p
    → option_and_then go (leaf_opened (frame tag left last done) fs g o) ≡ option_and_then go (leaf_opened (frame tag more last done) fs g p)
same_next_leaf tag g left more last done fs go None p e = ap (λ q. option_and_then go (leaf_opened (frame tag more last done) fs g q)) e
same_next_leaf tag g left more last done fs go (Some found) p e = ap (λ q. option_and_then go (leaf_opened (frame tag more last done) fs g q)) e

sought_on : (t : List ℕ) (least most : ℕ) (c : Content) (rest : Table) (at n : ℕ) (g : List ℕ) → nat_lt n least ≡ false → Other t g
    → seek (row t least most c rest) at n g ≡ seek rest (suc at) 0 g
sought_on t least most c rest at n g le h =
    ap (λ b. cond b (cond (nat_lt n most) (Some record { left = rows (row t least most c rest) at (suc n); at = at; content = c }) None) (cond (nat_lt n least) None (seek rest (suc at) 0 g))) h
    ∙ ap (λ b. cond b None (seek rest (suc at) 0 g)) le

white_on : (b : Bool) (s u : State) (go : State → Option State) → go s ≡ go u → option_and_then go (cond b (Some s) None) ≡ option_and_then go (cond b (Some u) None)
white_on true s u go e = e
white_on false s u go e = refl

-- a row that has stood often enough is passed over
skips : (t : List ℕ) (least most : ℕ) (c : Content) (rest : Table) (at n : ℕ) (tag : List ℕ) (last : ℕ) (done : List Read) (fs : List Frame) (qs ps : List Piece)
    → nat_lt n least ≡ false → StartsIn (Other t) ps
    → run (ps ++ closing tag ∷ qs) (inside (frame tag (rows (row t least most c rest) at n) last done ∷ fs))
    ≡ run (ps ++ closing tag ∷ qs) (inside (frame tag (rows rest (suc at) 0) last done ∷ fs))
skips t least most c rest at n tag last done fs qs [] le h =
    ap (λ b. option_and_then (run qs) (cond (bytes_eq tag tag && (cond b false (satisfied rest 0))) (Some (close fs (branch (onto done none)))) None)) le
skips t least most c rest at n tag last done fs qs (blank text ∷ ps) le h =
    white_on (is_white text) (inside (frame tag (rows (row t least most c rest) at n) last done ∷ fs)) (inside (frame tag (rows rest (suc at) 0) last done ∷ fs)) (run (ps ++ closing tag ∷ qs))
    (skips t least most c rest at n tag last done fs qs ps le h)
skips t least most c rest at n tag last done fs qs (opening g ∷ ps) le h =
    same_next tag g (rows (row t least most c rest) at n) (rows rest (suc at) 0) last done fs (run (ps ++ closing tag ∷ qs)) _ _ (sought_on t least most c rest at n g le h)
skips t least most c rest at n tag last done fs qs (leaf_opening g ∷ ps) le h =
    same_next_leaf tag g (rows (row t least most c rest) at n) (rows rest (suc at) 0) last done fs (run (ps ++ closing tag ∷ qs)) _ _ (sought_on t least most c rest at n g le h)
skips t least most c rest at n tag last done fs qs (closing g ∷ ps) le h = absurd h
skips t least most c rest at n tag last done fs qs (ending g content ∷ ps) le h = absurd h
skips t least most c rest at n tag last done fs qs (declaration standalone ∷ ps) le h = absurd h
skips t least most c rest at n tag last done fs qs (document k ∷ ps) le h = absurd h

-- the row at the front of a table's rest, once more
seeks_here : (t : List ℕ) (least most : ℕ) (c : Content) (rest : Table) (at n : ℕ) → n < most
    → seek (row t least most c rest) at n t ≡ Some record { left = rows (row t least most c rest) at (suc n); at = at; content = c }
seeks_here t least most c rest at n lt =
    ap (λ b. cond b (cond (nat_lt n most) (Some record { left = rows (row t least most c rest) at (suc n); at = at; content = c }) None) (cond (nat_lt n least) None (seek rest (suc at) 0 t))) (same_tag t)
    ∙ ap (λ b. cond b (Some record { left = rows (row t least most c rest) at (suc n); at = at; content = c }) None) (below n most lt)

picks_here : (t : List ℕ) (least most : ℕ) (c : Content) (rest : Table) (at : ℕ) → pick (row t least most c rest) at t ≡ Some record { left = filled; at = at; content = c }
picks_here t least most c rest at = ap (λ b. cond b (Some record { left = filled; at = at; content = c }) (pick rest (suc at) t)) (same_tag t)

picks_on : (t : List ℕ) (least most : ℕ) (c : Content) (rest : Table) (at : ℕ) (g : List ℕ) → bytes_eq t g ≡ false → pick (row t least most c rest) at g ≡ pick rest (suc at) g
picks_on t least most c rest at g e = ap (λ b. cond b (Some record { left = filled; at = at; content = c }) (pick rest (suc at) g)) e

-- a leaf's content is read
leaf_read : (tag content : List ℕ) (k : LeafKind) (x : Leaf) (fs : List Frame) (qs : List Piece) → leaf_of k content ≡ Some x
    → run (ending tag content ∷ qs) (in_leaf tag k fs) ≡ run qs (close fs (value x))
leaf_read tag content k x fs qs e =
    ap (λ b. option_and_then (run qs) (cond b (filled_by fs (leaf_of k content)) None)) (same_tag tag)
    ∙ ap (λ o. option_and_then (run qs) (filled_by fs o)) e

-- the pieces of an element begin with its tag
found_by : {tag : List ℕ} {c : Content} {d : Data} {ps : List Piece} (P : List ℕ → Type 0) (qs : List Piece) → Element tag c d ps → StartsIn P (ps ++ qs) → P tag
found_by P qs (a_leaf f) h = h
found_by P qs (in_order r) h = h
found_by P qs (a_choice r) h = h

mutual
  -- an element, where its tag is found
  element_runs : {tag : List ℕ} {c : Content} {d : Data} {ps : List Piece} (outer : List ℕ) (left : Left) (last : ℕ) (done : List Read) (fs : List Frame) (qs : List Piece) (found : Found)
      → look left tag ≡ Some found → found.content ≡ c → DifferIn c → Element tag c d ps
      → run (ps ++ qs) (inside (frame outer left last done ∷ fs)) ≡ run qs (close (frame outer found.left found.at done ∷ fs) d)
  element_runs {tag = tag} {d = value x} outer left last done fs qs found l same h (a_leaf {k = k} {content = content} e) =
      ap (λ o. option_and_then (run (ending tag content ∷ qs)) (leaf_opened (frame outer left last done) fs tag o)) l
      ∙ ap (λ c. option_and_then (run (ending tag content ∷ qs)) (enter_leaf tag c (frame outer found.left found.at done ∷ fs))) same
      ∙ leaf_read tag content k x (frame outer found.left found.at done ∷ fs) qs e
  element_runs {tag = tag} outer left last done fs qs found l same h (in_order {t = t} {cs = cs} {ps = ps} r) =
      ap (λ o. option_and_then (run ((ps ++ closing tag ∷ []) ++ qs)) (opened (frame outer left last done) fs tag o)) l
      ∙ ap (λ c. option_and_then (run ((ps ++ closing tag ∷ []) ++ qs)) (enter tag c (frame outer found.left found.at done ∷ fs))) same
      ∙ ap (λ l. run l (inside (fresh tag (rows t 0 0) ∷ frame outer found.left found.at done ∷ fs))) (append_assoc ps (closing tag ∷ []) qs)
      ∙ rows_runs tag 0 [] (frame outer found.left found.at done ∷ fs) qs h r
  element_runs {tag = tag} outer left last done fs qs found l same h (a_choice {t = t} {ps = ps} r) =
      ap (λ o. option_and_then (run ((ps ++ closing tag ∷ []) ++ qs)) (opened (frame outer left last done) fs tag o)) l
      ∙ ap (λ c. option_and_then (run ((ps ++ closing tag ∷ []) ++ qs)) (enter tag c (frame outer found.left found.at done ∷ fs))) same
      ∙ ap (λ l. run l (inside (fresh tag (choice t) ∷ frame outer found.left found.at done ∷ fs))) (append_assoc ps (closing tag ∷ []) qs)
      ∙ choice_runs t tag 0 [] (frame outer found.left found.at done ∷ fs) qs h (starts_choice (λ g. pick t 0 g ≡ pick t 0 g) (all_tags _ (λ g. refl) t) r) r

  pub rows_runs : {t : Table} {at n : ℕ} {cs : Children} {ps : List Piece} (tag : List ℕ) (last : ℕ) (done : List Read) (fs : List Frame) (qs : List Piece) → Differ t → Rows t at n cs ps
      → run (ps ++ closing tag ∷ qs) (inside (frame tag (rows t at n) last done ∷ fs)) ≡ run qs (close fs (branch (onto done cs)))
  rows_runs {at = at} {n = n} tag last done fs qs h no_row = shuts tag (rows end at n) last done fs qs refl
  rows_runs {t = t} {at = at} {n = n} tag last done fs qs h (white {text = text} {ps = ps} w r) =
      spaced text (ps ++ closing tag ∷ qs) (frame tag (rows t at n) last done ∷ fs) w ∙ rows_runs tag last done fs qs h r
  rows_runs {at = at} {n = n} tag last done fs qs h (one_more {tag = g} {least = least} {most = most} {c = c} {rest = rest} {d = d} {ps = ps} {qs = rs} lt e r) =
      ap (λ l. run l (inside (frame tag (rows (row g least most c rest) at n) last done ∷ fs))) (append_assoc ps rs (closing tag ∷ qs))
      ∙ element_runs tag (rows (row g least most c rest) at n) last done fs (rs ++ closing tag ∷ qs) _ (seeks_here g least most c rest at n lt) refl h.1 e
      ∙ rows_runs tag at (record { at = at; tree = d } ∷ done) fs qs h r
  rows_runs {at = at} {n = n} {ps = ps} tag last done fs qs h (next_row {tag = g} {least = least} {most = most} {c = c} {rest = rest} le r) =
      skips g least most c rest at n tag last done fs qs ps (not_below n least le) (starts_rows (Other g) h.0 r)
      ∙ rows_runs tag last done fs qs h.2 r

  choice_runs : {t : Table} {at place : ℕ} {d : Data} {ps : List Piece} (w : Table) (tag : List ℕ) (last : ℕ) (done : List Read) (fs : List Frame) (qs : List Piece) → Differ t
      → StartsIn (λ g. pick w 0 g ≡ pick t at g) ps → Choice t at place d ps
      → run (ps ++ closing tag ∷ qs) (inside (frame tag (choice w) last done ∷ fs)) ≡ run qs (close fs (branch (onto done (child place d none))))
  choice_runs w tag last done fs qs h same (white_first {text = text} {ps = ps} s r) =
      spaced text (ps ++ closing tag ∷ qs) (frame tag (choice w) last done ∷ fs) s ∙ choice_runs w tag last done fs qs h same r
  choice_runs {at = at} {d = d} w tag last done fs qs h same (this_row {tag = g} {least = least} {most = most} {c = c} {rest = rest} {ps = ps} e rs s) =
      ap (λ l. run l (inside (frame tag (choice w) last done ∷ fs))) (append_assoc ps rs (closing tag ∷ qs))
      ∙ element_runs tag (choice w) last done fs (rs ++ closing tag ∷ qs) _ (found_by (λ k. pick w 0 k ≡ pick (row g least most c rest) at k) rs e same ∙ picks_here g least most c rest at) refl h.1 e
      ∙ spaces rs (closing tag ∷ qs) (frame tag filled at (record { at = at; tree = d } ∷ done) ∷ fs) s
      ∙ shuts tag filled at (record { at = at; tree = d } ∷ done) fs qs refl
  choice_runs {at = at} {ps = ps} w tag last done fs qs h same (other_row {tag = g} {least = least} {most = most} {c = c} {rest = rest} r) =
      choice_runs w tag last done fs qs h.2
      (starts_both _ (Other g) _ (λ k p q. p ∙ picks_on g least most c rest at k q) ps same (starts_choice (Other g) h.0 r)) r
