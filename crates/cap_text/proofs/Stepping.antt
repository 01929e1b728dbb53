-- One byte, by what it is.
use Rattle.std.proofs.Common.{ℕ, ◌≡◌, ◌+◌, List, [], ◌∷◌, ◌++◌, length, take, sym, refl, ◌∙◌, ap, Bool, true, false, nat_lt, Some, cond, not}
use Rattle.std.specs.Prelude.{◌&&◌, ◌||◌, Result, Ok, Err, OnOk}
use Rattle.cap_text.specs.Pieces.{blank, is_space}
use Rattle.cap_text.specs.Faults.{Known, is_end}
use Rattle.cap_text.specs.Machine.{Doc}
use Rattle.cap_text.specs.Bytes.{Reading, most, is_empty, may_blank, piece_of, standing, barred, moved, ended, on_byte, blanked, passed_by}
use Rattle.cap_text.proofs.Common.{and_true}
use Rattle.cap_text.proofs.Tokens.{blank_steps}

abbrev pub reading : Doc → Known → List ℕ → Bool → Bool → Reading
reading d n held stuck ends = record { doc = d; known = n; held = held; stuck = stuck; ends = ends }

unstuck : (r : Reading) (b : ℕ) → r.stuck ≡ false → on_byte r b
    ≡ cond (is_empty r.held && (is_space b && may_blank r.doc)) (ended r.doc r.known (b ∷ []) (Some (blank (b ∷ []))))
    (cond (is_end b) (ended r.doc r.known (r.held ++ b ∷ []) (piece_of r.doc (r.held ++ b ∷ [])))
    (cond (nat_lt (length r.held + 1) most) (standing r.doc r.known (r.held ++ b ∷ [])) (barred r.doc r.known (r.held ++ b ∷ []) false)))
unstuck r b e = ap (λ t. cond t (barred r.doc r.known (take most (r.held ++ b ∷ [])) (r.ends || is_end b))
    (cond (is_empty r.held && (is_space b && may_blank r.doc)) (ended r.doc r.known (b ∷ []) (Some (blank (b ∷ []))))
    (cond (is_end b) (ended r.doc r.known (r.held ++ b ∷ []) (piece_of r.doc (r.held ++ b ∷ [])))
    (cond (nat_lt (length r.held + 1) most) (standing r.doc r.known (r.held ++ b ∷ [])) (barred r.doc r.known (r.held ++ b ∷ []) false))))) e

pub empty_is : (h : List ℕ) → is_empty h ≡ true → h ≡ []
empty_is [] e = refl
empty_is (b ∷ bs) e = cc

-- white space that is skipped
pub skips_byte : (d e : Doc) (n : Known) (held : List ℕ) (stuck ends : Bool) (b : ℕ) → stuck ≡ false → ends ≡ false → true ≡ (is_empty held && (is_space b && may_blank d)) → e ≡ blanked d
    → reading e (passed_by n 1) held stuck ends ≡ on_byte (reading d n held stuck ends) b
skips_byte d e n held stuck ends b s f skip same =
    let two = and_true (is_empty held) (is_space b && may_blank d) (sym skip) in
    let more = and_true (is_space b) (may_blank d) two.1 in
    ap (λ k. reading k (passed_by n 1) held stuck ends) same
    ∙ ap (λ h. reading (blanked d) (passed_by n 1) h stuck ends) (empty_is held two.0)
    ∙ ap (λ t. reading (blanked d) (passed_by n 1) [] t ends) s
    ∙ ap (λ t. reading (blanked d) (passed_by n 1) [] false t) f
    ∙ sym (unstuck (reading d n held stuck ends) b s
    ∙ ap (λ t. cond t (ended d n (b ∷ []) (Some (blank (b ∷ [])))) (cond (is_end b) (ended d n (held ++ b ∷ []) (piece_of d (held ++ b ∷ []))) (cond (nat_lt (length held + 1) most) (standing d n (held ++ b ∷ [])) (barred d n (held ++ b ∷ []) false)))) (sym skip)
    ∙ ap (moved d n (b ∷ []) (blank (b ∷ []))) (blank_steps d (b ∷ []) more.1 (ap (λ t. t && true) more.0)))

-- a byte that isn't skipped
kept_on : (d : Doc) (n : Known) (held : List ℕ) (stuck ends : Bool) (b : ℕ) → stuck ≡ false → false ≡ (is_empty held && (is_space b && may_blank d))
    → on_byte (reading d n held stuck ends) b ≡ cond (is_end b) (ended d n (held ++ b ∷ []) (piece_of d (held ++ b ∷ []))) (cond (nat_lt (length held + 1) most) (standing d n (held ++ b ∷ [])) (barred d n (held ++ b ∷ []) false))
kept_on d n held stuck ends b s skip = unstuck (reading d n held stuck ends) b s
    ∙ ap (λ t. cond t (ended d n (b ∷ []) (Some (blank (b ∷ [])))) (cond (is_end b) (ended d n (held ++ b ∷ []) (piece_of d (held ++ b ∷ []))) (cond (nat_lt (length held + 1) most) (standing d n (held ++ b ∷ [])) (barred d n (held ++ b ∷ []) false)))) (sym skip)

-- the end of a piece
pub ends_piece : (d : Doc) (n : Known) (held : List ℕ) (stuck ends : Bool) (b : ℕ) → stuck ≡ false → false ≡ (is_empty held && (is_space b && may_blank d)) → b ≡ 62
    → ended d n (held ++ 62 ∷ []) (piece_of d (held ++ 62 ∷ [])) ≡ on_byte (reading d n held stuck ends) b
ends_piece d n held stuck ends b s skip is =
    let e : is_end b ≡ true = ap is_end is in
    ap (λ c. ended d n (held ++ c ∷ []) (piece_of d (held ++ c ∷ []))) (sym is)
    ∙ sym (kept_on d n held stuck ends b s skip ∙ ap (λ t. cond t (ended d n (held ++ b ∷ []) (piece_of d (held ++ b ∷ []))) (cond (nat_lt (length held + 1) most) (standing d n (held ++ b ∷ [])) (barred d n (held ++ b ∷ []) false))) e)

held_by : (t : Bool) (d : Doc) (n : Known) (h : List ℕ) → reading d n h (not t) false ≡ cond t (standing d n h) (barred d n h false)
held_by true d n h = refl
held_by false d n h = refl

-- a byte that is held
pub holds_byte : (d : Doc) (n : Known) (held text : List ℕ) (stuck ends new_stuck new_ends : Bool) (b : ℕ) → stuck ≡ false → ends ≡ false → false ≡ (is_empty held && (is_space b && may_blank d)) → is_end b ≡ false
    → text ≡ held ++ b ∷ [] → new_stuck ≡ not (nat_lt (length held + 1) 128) → new_ends ≡ ends
    → reading d n text new_stuck new_ends ≡ on_byte (reading d n held stuck ends) b
holds_byte d n held text stuck ends new_stuck new_ends b s f skip e is ns ne =
    ap (λ t. reading d n t new_stuck new_ends) is
    ∙ ap (λ t. reading d n (held ++ b ∷ []) t new_ends) ns
    ∙ ap (λ t. reading d n (held ++ b ∷ []) (not (nat_lt (length held + 1) 128)) t) (ne ∙ f)
    ∙ held_by (nat_lt (length held + 1) 128) d n (held ++ b ∷ [])
    ∙ sym (kept_on d n held stuck ends b s skip ∙ ap (λ t. cond t (ended d n (held ++ b ∷ []) (piece_of d (held ++ b ∷ []))) (cond (nat_lt (length held + 1) most) (standing d n (held ++ b ∷ [])) (barred d n (held ++ b ∷ []) false))) e)

pub on_ok : {A E : Type 0} (result : Result A E) (P Q : Type 0) → (P → Q) → OnOk result P → OnOk result Q
on_ok (Ok x) P Q f h = f h
on_ok (Err e) P Q f h = tt
