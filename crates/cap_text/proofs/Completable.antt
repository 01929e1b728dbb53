-- Whatever the machine has read can be completed, since every table can be filled.
use Rattle.std.proofs.Common.{ℕ, zero, suc, ◌<◌, ◌≤◌, ◌+◌, ◌-◌, ◌≡◌, List, [], ◌∷◌, ◌++◌, true, nat_lt, Option, Some, None, refl, arith, subst, cond, inl, inr}
use Rattle.std.specs.Prelude.{⊤, ◌&&◌}
use Rattle.std.specs.Str.{bytes_eq}
use Rattle.cap_leaf.specs.declared.kinds.LeafKind.{LeafKind}
use Rattle.cap_leaf.specs.declared.leaf.Leaf.{Leaf}
use Rattle.cap_leaf.specs.Spelling.{leaf_of, is_kind}
use Rattle.cap_leaf.specs.Schema.{Content, Table, leaf, all, one_of, end, row}
use Rattle.cap_leaf.specs.Trees.{Data, Children, value, branch, none, child}
use Rattle.cap_trees.specs.Tests.{Sound, SoundIn, has_row, is_name}
use Rattle.cap_text.specs.Pieces.{Piece, declaration, blank, document, opening, closing, leaf_opening, ending, is_white, Element, Rows, a_leaf, in_order, a_choice, no_row, one_more, next_row, this_row}
use Rattle.cap_text.specs.Machine.{Left, rows, choice, filled, Frame, State, inside, in_leaf, whole, Found, seek, pick, look, ready, onto, close, enter, enter_leaf, around, opened, leaf_opened, filled_by, step}
use Rattle.cap_text.proofs.Common.{tag_is, some_is, chosen, kept, passed, and_true}
use Rattle.cap_text.proofs.Sound.{Stands, Closes, Completes}

-- an example of an element, and its pieces
abbrev Example : List ℕ → Content → Type 0
Example tag c = (d : Data) × (ps : List Piece) × Element tag c d ps

abbrev Filling : Table → ℕ → ℕ → Type 0
Filling t at n = (cs : Children) × (ps : List Piece) × Rows t at n cs ps

stand : (tag : List ℕ) (least most : ℕ) (c : Content) (rest : Table) (at : ℕ) (k n : ℕ) → least ≤ n + k → (0 < k → n + k ≤ most) → Example tag c → Filling rest (suc at) 0
    → Filling (row tag least most c rest) at n
stand tag least most c rest at zero n enough few x r = (r.0, r.1, next_row (let e : least ≤ n = omega arith in e) r.2)
stand tag least most c rest at (suc k) n enough few x r =
    let lt : n < most = omega (arith, few (omega arith)) in
    let more = stand tag least most c rest at k (suc n) (omega arith) (λ p. omega (arith, few (omega arith))) x r in
    (child at x.0 more.0, x.1 ++ more.1, one_more lt x.2 more.2)

mutual
  example : (tag : List ℕ) (c : Content) → SoundIn c → Example tag c
  example tag (leaf k) h = (value h.1, leaf_opening tag ∷ ending tag h.0 ∷ [], a_leaf h.2)
  example tag (all t) h = let r = fill t 0 0 h in (branch r.0, opening tag ∷ (r.1 ++ closing tag ∷ []), in_order r.2)
  example tag (one_of end) h = cc
  example tag (one_of (row t least most c rest)) h =
      let x = example t c h.0.2 in (branch (child 0 x.0 none), opening tag ∷ ((x.1 ++ []) ++ closing tag ∷ []), a_choice (this_row x.2 [] tt))

  fill : (t : Table) (at n : ℕ) → Sound t → Filling t at n
  fill end at n h = (none, [], no_row)
  fill (row t least most c rest) at n h = stand t least most c rest at (least - n) n (omega arith) (λ p. omega (arith, h.0)) (example t c h.2) (fill rest (suc at) 0 h.3)

-- what may stand in a structure can be written
abbrev pub SoundLeft : Left → Type 0
SoundLeft (rows t at n) = Sound t
SoundLeft (choice t) = Sound t × (has_row t ≡ true)
SoundLeft filled = ⊤

abbrev pub SoundFrames : List Frame → Type 0
SoundFrames [] = ⊤
SoundFrames (f ∷ fs) = (is_name f.tag ≡ true) × SoundLeft f.left × SoundFrames fs

abbrev pub SoundState : State → Type 0
SoundState (inside []) = ⊥
SoundState (inside (f ∷ fs)) = SoundFrames (f ∷ fs)
SoundState (in_leaf tag k fs) = (is_name tag ≡ true) × SoundIn (leaf k) × SoundFrames fs
SoundState (whole d) = ⊤

stands : (left : Left) → SoundLeft left → (cs : Children) × (ps : List Piece) × Stands left cs ps
stands (rows t at n) h = fill t at n h
stands (choice end) h = cc
stands (choice (row t least most c rest)) h = let x = example t c h.0.2 in (child 0 x.0 none, x.1 ++ [], (0, x.0, refl, this_row x.2 [] tt))
stands filled h = (none, [], (refl, tt))

closes : (fs : List Frame) → SoundFrames fs → (d : Data) → (ps : List Piece) × (e : Data) × Closes fs d ps e
closes [] h d = ([], d, (tt, refl))
closes (f ∷ fs) h d =
    let s = stands f.left h.1 in
    let out = closes fs h.2 (branch (onto f.done (child f.last d s.0))) in
    (s.1 ++ closing f.tag ∷ out.0, out.1, (s.0, s.1, out.0, refl, s.2, out.2))

-- a state can be completed to a whole element
pub completable : (s : State) → SoundState s → (ps : List Piece) × (e : Data) × Completes s ps e
completable (inside []) h = absurd h
completable (inside (f ∷ fs)) h =
    let s = stands f.left h.1 in
    let out = closes fs h.2 (branch (onto f.done s.0)) in
    (s.1 ++ closing f.tag ∷ out.0, out.1, (s.0, s.1, out.0, refl, s.2, out.2))
completable (in_leaf tag k fs) h =
    let out = closes fs h.2 (value h.1.1) in
    (ending tag h.1.0 ∷ out.0, out.1, (h.1.1, h.1.0, out.0, refl, h.1.2, out.2))
completable (whole d) h = ([], d, (tt, refl))

-- ---- the machine keeps this

sought_sound : (t : Table) (at n : ℕ) (g : List ℕ) (f : Found) → seek t at n g ≡ Some f → Sound t → (is_name g ≡ true) × SoundLeft f.left × SoundIn f.content
sought_sound end at n g f e h = cc
sought_sound (row t least most c rest) at n g f e h =
    elim (chosen (bytes_eq t g) (cond (nat_lt n most) (Some record { left = rows (row t least most c rest) at (suc n); at = at; content = c }) None)
    (cond (nat_lt n least) None (seek rest (suc at) 0 g)) (Some f) e) [
      | inl (same, e') ↦
          (let both = kept (nat_lt n most) (Some record { left = rows (row t least most c rest) at (suc n); at = at; content = c }) f e' in
          let P : Found → Type 0 = λ f. (is_name g ≡ true) × SoundLeft f.left × SoundIn f.content in
          subst P (some_is _ f both.1) (subst (λ k. is_name k ≡ true) (tag_is t g same) h.1, h, h.2))
      | inr (other, e') ↦
          (let both = passed (nat_lt n least) (seek rest (suc at) 0 g) f e' in sought_sound rest (suc at) 0 g f both.1 h.3)
    ]

picked_sound : (t : Table) (at : ℕ) (g : List ℕ) (f : Found) → pick t at g ≡ Some f → Sound t → (is_name g ≡ true) × SoundLeft f.left × SoundIn f.content
picked_sound end at g f e h = cc
picked_sound (row t least most c rest) at g f e h =
    elim (chosen (bytes_eq t g) (Some record { left = filled; at = at; content = c }) (pick rest (suc at) g) (Some f) e) [
      | inl (same, e') ↦
          (let P : Found → Type 0 = λ f. (is_name g ≡ true) × SoundLeft f.left × SoundIn f.content in
          subst P (some_is _ f e') (subst (λ k. is_name k ≡ true) (tag_is t g same) h.1, tt, h.2))
      | inr (other, e') ↦ picked_sound rest (suc at) g f e' h.3
    ]

looked_sound : (left : Left) (g : List ℕ) (f : Found) → look left g ≡ Some f → SoundLeft left → (is_name g ≡ true) × SoundLeft f.left × SoundIn f.content
looked_sound (rows t at n) g f e h = sought_sound t at n g f e h
looked_sound (choice t) g f e h = picked_sound t 0 g f e h.0
looked_sound filled g f e h = cc

close_sound : (fs : List Frame) (d : Data) → SoundFrames fs → SoundState (close fs d)
close_sound [] d h = tt
close_sound (f ∷ fs) d h = h

enter_sound : (g : List ℕ) (c : Content) (fs : List Frame) (s : State) → enter g c fs ≡ Some s → is_name g ≡ true → SoundIn c → SoundFrames fs → SoundState s
enter_sound g (leaf k) fs s e n h o = cc
enter_sound g (all t) fs s e n h o = subst SoundState (some_is _ s e) (n, h, o)
enter_sound g (one_of t) fs s e n h o = subst SoundState (some_is _ s e) (n, h, o)

enter_leaf_sound : (g : List ℕ) (c : Content) (fs : List Frame) (s : State) → enter_leaf g c fs ≡ Some s → is_name g ≡ true → SoundIn c → SoundFrames fs → SoundState s
enter_leaf_sound g (leaf k) fs s e n h o = subst SoundState (some_is _ s e) (n, h, o)
enter_leaf_sound g (all t) fs s e n h o = cc
enter_leaf_sound g (one_of t) fs s e n h o = cc

opened_sound : (f : Frame) (fs : List Frame) (g : List ℕ) (o : Option Found) (s : State) → look f.left g ≡ o → opened f fs g o ≡ Some s → SoundFrames (f ∷ fs)
    → (is_name g ≡ true) × SoundState s
opened_sound f fs g None s l e h = cc
opened_sound f fs g (Some found) s l e h =
    let k = looked_sound f.left g found l h.1 in
    (k.0, enter_sound g found.content (around f found ∷ fs) s e k.0 k.2 (h.0, k.1, h.2))

leaf_opened_sound : (f : Frame) (fs : List Frame) (g : List ℕ) (o : Option Found) (s : State) → look f.left g ≡ o → leaf_opened f fs g o ≡ Some s → SoundFrames (f ∷ fs)
    → (is_name g ≡ true) × SoundState s
leaf_opened_sound f fs g None s l e h = cc
leaf_opened_sound f fs g (Some found) s l e h =
    let k = looked_sound f.left g found l h.1 in
    (k.0, enter_leaf_sound g found.content (around f found ∷ fs) s e k.0 k.2 (h.0, k.1, h.2))

filled_sound : (fs : List Frame) (o : Option Leaf) (s : State) → filled_by fs o ≡ Some s → SoundFrames fs → SoundState s
filled_sound fs None s e h = cc
filled_sound fs (Some x) s e h = subst SoundState (some_is _ s e) (close_sound fs (value x) h)

-- the tag that a piece names
abbrev pub Tagged : Piece → Type 0
Tagged (declaration standalone) = ⊤
Tagged (blank text) = is_white text ≡ true
Tagged (document k) = ⊤
Tagged (opening tag) = is_name tag ≡ true
Tagged (closing tag) = is_name tag ≡ true
Tagged (leaf_opening tag) = is_name tag ≡ true
Tagged (ending tag content) = (is_name tag ≡ true) × ((k : LeafKind) × (x : Leaf) × (leaf_of k content ≡ Some x) × (is_kind k ≡ true))

filled_some : (fs : List Frame) (k : LeafKind) (content : List ℕ) (o : Option Leaf) (s : State) → is_kind k ≡ true → leaf_of k content ≡ o → filled_by fs o ≡ Some s
    → (j : LeafKind) × (x : Leaf) × (leaf_of j content ≡ Some x) × (is_kind j ≡ true)
filled_some fs k content None s i r e = cc
filled_some fs k content (Some x) s i r e = (k, x, r, i)

pub step_sound : (s : State) (p : Piece) (u : State) → step s p ≡ Some u → SoundState s → Tagged p × SoundState u
step_sound (inside []) p u e h = absurd h
step_sound (inside (f ∷ fs)) (blank text) u e h = let both = kept (is_white text) (Some (inside (f ∷ fs))) u e in (both.0, subst SoundState (some_is _ u both.1) h)
step_sound (inside (f ∷ fs)) (declaration standalone) u e h = cc
step_sound (inside (f ∷ fs)) (document k) u e h = cc
step_sound (inside (f ∷ fs)) (opening g) u e h = opened_sound f fs g (look f.left g) u refl e h
step_sound (inside (f ∷ fs)) (leaf_opening g) u e h = leaf_opened_sound f fs g (look f.left g) u refl e h
step_sound (inside (f ∷ fs)) (closing g) u e h =
    let outer = kept (bytes_eq f.tag g && ready f.left) (Some (close fs (branch (onto f.done none)))) u e in
    let two = and_true (bytes_eq f.tag g) (ready f.left) outer.0 in
    (subst (λ k. is_name k ≡ true) (tag_is f.tag g two.0) h.0, subst SoundState (some_is _ u outer.1) (close_sound fs (branch (onto f.done none)) h.2))
step_sound (inside (f ∷ fs)) (ending tag content) u e h = cc
step_sound (in_leaf t k fs) (declaration standalone) u e h = cc
step_sound (in_leaf t k fs) (blank text) u e h = cc
step_sound (in_leaf t k fs) (document j) u e h = cc
step_sound (in_leaf t k fs) (opening tag) u e h = cc
step_sound (in_leaf t k fs) (closing tag) u e h = cc
step_sound (in_leaf t k fs) (leaf_opening tag) u e h = cc
step_sound (in_leaf t k fs) (ending g content) u e h =
    let outer = kept (bytes_eq t g) (filled_by fs (leaf_of k content)) u e in
    ((subst (λ k. is_name k ≡ true) (tag_is t g outer.0) h.0, filled_some fs k content (leaf_of k content) u h.1.3 refl outer.1), filled_sound fs (leaf_of k content) u outer.1 h.2)
step_sound (whole d) (blank text) u e h = let both = kept (is_white text) (Some (whole d)) u e in (both.0, subst SoundState (some_is _ u both.1) h)
step_sound (whole d) (declaration standalone) u e h = cc
step_sound (whole d) (document k) u e h = cc
step_sound (whole d) (opening tag) u e h = cc
step_sound (whole d) (closing tag) u e h = cc
step_sound (whole d) (leaf_opening tag) u e h = cc
step_sound (whole d) (ending tag content) u e h = cc
