-- The reader accepts exactly the texts of documents, with their trees, and gives the first fault of all others.
use Rattle.std.proofs.Common.{ℕ, zero, suc, ◌<◌, ◌≤◌, ◌+◌, ◌≡◌, List, [], ◌∷◌, ◌++◌, Bool, true, false, nat_lt, Option, Some, None, refl, sym, ◌∙◌, ap, arith, append-nil, cond, subst, length, take, drop, length-append, ◌⊎◌, inl, inr, not}
use Rattle.std.proofs.lemmas.List.Sums.{fold-append}
use Rattle.std.proofs.Math.Seq.{drop-append_seam}
use Rattle.std.proofs.lemmas.List.{length-take}
use Rattle.std.specs.Prelude.{◌&&◌, ◌||◌, ◌==◌, fold, codes}
use Rattle.std.specs.List.{list_any}
use Rattle.std.specs.Char.{is_ascii_digit}
use Rattle.cap_base.specs.declared.codes.Reason.TheVariants.{Imsg, Pars, Secu, Vers, Msgt}
use Rattle.cap_leaf.specs.declared.kinds.Kind.{Kind}
use Rattle.cap_leaf.specs.Trees.{Data, value, branch, none, child}
use Rattle.cap_leaf.specs.declared.fault.Fault.{Fault}
use Rattle.cap_text.specs.Pieces.{Piece, blank, piece_text, text_of, IsDocument, Spells}
use Rattle.cap_text.specs.Faults.{Begins, IsLongest, Known, nothing, after, known, body_ended, begins_with, version_ends, first_is_digit, other_version, is_end, is_none, last_reason, leaf_reason, reason_by, reason_of, fault_by, FirstFault}
use Rattle.cap_text.specs.Machine.{inside, in_leaf, whole, Doc, first, prolog, within, doc_step, doc_run}
use Rattle.cap_text.specs.Bytes.{is_empty, may_blank, piece_of, Reading, most, standing, barred, moved, ended, on_byte, on_bytes, begun, Verdict, spells, fault, fault_at, message_in, document_at, verdict_of, run_bytes}
use Rattle.cap_text.specs.Pieces.{is_space}
use Rattle.cap_text.proofs.Common.{some_is, or_false}
use Rattle.cap_text.proofs.Docs.{doc_run_front, document_read, read_document, begins, closed_document}
use Rattle.cap_text.proofs.Tokens.{reads_all}
use Rattle.cap_text.proofs.Came.{Came, came, piece_says}

-- ---- the place

told_place : (n : Known) (p : Piece) → (after n p).place ≡ n.place + length (piece_text p)
told_place n p = refl

places : (ps : List Piece) (n : Known) → (fold after n ps).place ≡ n.place + length (text_of ps)
places [] n = omega arith
places (p ∷ ps) n = places ps (after n p) ∙ (let e : n.place + length (piece_text p) + length (text_of ps) ≡ n.place + length (piece_text p ++ text_of ps) = omega (arith, length-append (piece_text p) (text_of ps)) in e)

pub place_of : (ps : List Piece) → (known ps).place ≡ length (text_of ps)
place_of ps = places ps nothing ∙ (let e : 0 + length (text_of ps) ≡ length (text_of ps) = omega arith in e)

moved_far : (d : Doc) (n : Known) (text : List ℕ) (p : Piece) (o : Option Doc) → n.place ≤ (moved d n text p o).known.place
moved_far d n text p None = omega arith
moved_far d n text p (Some u) = omega arith

ended_far : (d : Doc) (n : Known) (text : List ℕ) (o : Option Piece) → n.place ≤ (ended d n text o).known.place
ended_far d n text None = omega arith
ended_far d n text (Some p) = moved_far d n text p (doc_step d p)

by_test : {A : Type 0} (P : A → Type 0) (b : Bool) (x y : A) → P x → P y → P (cond b x y)
by_test P true x y f g = f
by_test P false x y f g = g

one_far : (r : Reading) (b : ℕ) → r.known.place ≤ (on_byte r b).known.place
one_far r b =
    let P : Reading → Type 0 = λ q. r.known.place ≤ q.known.place in
    by_test P r.stuck (barred r.doc r.known (take most (r.held ++ b ∷ [])) (r.ends || is_end b)) _ (let e : r.known.place ≤ r.known.place = omega arith in e)
    (by_test P (is_empty r.held && (is_space b && may_blank r.doc)) (ended r.doc r.known (b ∷ []) (Some (blank (b ∷ [])))) _ (ended_far r.doc r.known (b ∷ []) (Some (blank (b ∷ []))))
    (by_test P (is_end b) (ended r.doc r.known (r.held ++ b ∷ []) (piece_of r.doc (r.held ++ b ∷ []))) _ (ended_far r.doc r.known (r.held ++ b ∷ []) (piece_of r.doc (r.held ++ b ∷ [])))
    (by_test P (nat_lt (length r.held + 1) most) (standing r.doc r.known (r.held ++ b ∷ [])) (barred r.doc r.known (r.held ++ b ∷ []) false) (let e : r.known.place ≤ r.known.place = omega arith in e) (let e : r.known.place ≤ r.known.place = omega arith in e))))

far : (bytes : List ℕ) (r : Reading) → r.known.place ≤ (on_bytes r bytes).known.place
far [] r = omega arith
far (b ∷ bs) r = omega (arith, one_far r b, far bs (on_byte r b))

-- the text of pieces that begin a document is read to them
begins_read : (ps : List Piece) → Begins ps → (d : Doc) × (on_bytes begun (text_of ps) ≡ standing d (known ps) [])
begins_read ps (k, d, rest, doc) =
    let front = doc_run_front ps rest first (closed_document k d) (document_read k d (ps ++ rest) doc) in
    (front.0, reads_all ps first nothing front.0 front.1 tt)

-- what was read is the longest
pub came_longest : (bytes : List ℕ) (c : Came bytes (on_bytes begun bytes)) → IsLongest bytes c.pieces
came_longest bytes c = record {
  begins = begins c.pieces (on_bytes begun bytes).doc c.ran;
  stands = (c.rest, c.is);
  longest = λ qs b (rest, is).
      let r = begins_read qs b in
      let whole_run : on_bytes begun bytes ≡ on_bytes (standing r.0 (known qs) []) rest = ap (on_bytes begun) is ∙ fold-append on_byte begun (text_of qs) rest ∙ ap (λ q. on_bytes q rest) r.1 in
      let more = far rest (standing r.0 (known qs) []) in
      let end : (on_bytes begun bytes).known.place ≡ (on_bytes (standing r.0 (known qs) []) rest).known.place = ap (λ q. q.known.place) whole_run in
      let mine : (on_bytes begun bytes).known.place ≡ (known c.pieces).place = ap (λ n. n.place) c.knows in
      omega (arith, more, end, mine, place_of qs, place_of c.pieces);
}

-- ---- the reason depends on the front of the rest alone

begins_take : (front r : List ℕ) (m : ℕ) → length front ≤ m → begins_with front (take m r) ≡ begins_with front r
begins_take [] r m h = refl
begins_take (a ∷ front) [] zero h = refl
begins_take (a ∷ front) (b ∷ r) zero h = absurd (omega (arith, h))
begins_take (a ∷ front) [] (suc m) h = refl
begins_take (a ∷ front) (b ∷ r) (suc m) h = ap (λ t. (a == b) && t) (begins_take front r m (omega (arith, h)))

digit_take : (r : List ℕ) (m : ℕ) → 0 < m → first_is_digit (take m r) ≡ first_is_digit r
digit_take [] zero h = refl
digit_take [] (suc m) h = refl
digit_take (b ∷ r) zero h = absurd (omega (arith, h))
digit_take (b ∷ r) (suc m) h = refl

version_take : (n : ℕ) (r : List ℕ) (m : ℕ) → n < m → version_ends n (take m r) ≡ version_ends n r
version_take n [] zero h = refl
version_take n [] (suc m) h = refl
version_take n (b ∷ r) zero h = absurd (omega (arith, h))
version_take zero (b ∷ r) (suc m) h = refl
version_take (suc n) (b ∷ r) (suc m) h = ap (λ t. (b == 58) || (is_ascii_digit b && t)) (version_take n r m (omega (arith, h)))

take_nil : (n : ℕ) → take {A = ℕ} n [] ≡ []
take_nil zero = refl
take_nil (suc n) = refl

drop_take : (k m : ℕ) (r : List ℕ) → drop k (take (k + m) r) ≡ take m (drop k r)
drop_take zero m r = ap (λ n. take n r) (let e : 0 + m ≡ m = omega arith in e)
drop_take (suc k) m [] = ap (drop (suc k)) (take_nil (suc k + m)) ∙ sym (take_nil m)
drop_take (suc k) m (b ∷ r) = ap (λ n. drop (suc k) (take n (b ∷ r))) (let e : suc k + m ≡ suc (k + m) = omega arith in e) ∙ drop_take k m r

other_take : (r : List ℕ) → other_version (drop 29 (take 128 r)) ≡ other_version (drop 29 r)
other_take r =
    ap other_version (drop_take 29 99 r)
    ∙ ap (λ t. (t && version_ends 3 (take 99 (drop 29 r))) && not (begins_with (codes "1:") (take 99 (drop 29 r)))) (digit_take (drop 29 r) 99 (omega arith))
    ∙ ap (λ t. (first_is_digit (drop 29 r) && t) && not (begins_with (codes "1:") (take 99 (drop 29 r)))) (version_take 3 (drop 29 r) 99 (omega arith))
    ∙ ap (λ t. (first_is_digit (drop 29 r) && version_ends 3 (drop 29 r)) && not t) (begins_take (codes "1:") (drop 29 r) 99 (omega arith))

last_take : (n : Known) (r : List ℕ) → last_reason n (take 128 r) ≡ last_reason n r
last_take n r =
    ap (λ t. cond (body_ended n && t) Secu (cond (begins_with (codes "<") (take 128 r)) Imsg Pars)) (begins_take (codes "<SctyTrlr>") r 128 (omega arith))
    ∙ ap (λ t. cond (body_ended n && begins_with (codes "<SctyTrlr>") r) Secu (cond t Imsg Pars)) (begins_take (codes "<") r 128 (omega arith))

leaf_take : (n : Known) (r : List ℕ) → leaf_reason n (take 128 r) ≡ leaf_reason n r
leaf_take n r =
    ap (λ t. cond n.open_leaf (cond (n.version && t) Vers Imsg) (last_reason n (take 128 r))) (digit_take r 128 (omega arith))
    ∙ ap (λ t. cond n.open_leaf (cond (n.version && first_is_digit r) Vers Imsg) t) (last_take n r)

pub reason_take : (n : Known) (ends : Bool) (r : List ℕ) → reason_by n ends (take 128 r) ≡ reason_by n ends r
reason_take n ends r =
    let front = codes "<Document xmlns=\"urn:x-cap20:" in
    let short = codes "<Document xmlns=\"" in
    ap (λ t. cond (not ends) Pars (cond (is_none n.named && (t && other_version (drop 29 (take 128 r)))) Vers (cond (is_none n.named && begins_with short (take 128 r)) Msgt (leaf_reason n (take 128 r))))) (begins_take front r 128 (omega arith))
    ∙ ap (λ t. cond (not ends) Pars (cond (is_none n.named && (begins_with front r && t)) Vers (cond (is_none n.named && begins_with short (take 128 r)) Msgt (leaf_reason n (take 128 r))))) (other_take r)
    ∙ ap (λ t. cond (not ends) Pars (cond (is_none n.named && (begins_with front r && other_version (drop 29 r))) Vers (cond (is_none n.named && t) Msgt (leaf_reason n (take 128 r))))) (begins_take short r 128 (omega arith))
    ∙ ap (λ t. cond (not ends) Pars (cond (is_none n.named && (begins_with front r && other_version (drop 29 r))) Vers (cond (is_none n.named && begins_with short r) Msgt t))) (leaf_take n r)

-- ---- the verdict

-- a document is read, with its kind and tree
pub document_verdict : (k : Kind) (d : Data) (bytes : List ℕ) → Spells k d bytes → run_bytes bytes ≡ spells k d
document_verdict k d bytes (ps, doc, is) =
    ap run_bytes is ∙ ap verdict_of (reads_all ps first nothing (closed_document k d) (document_read k d ps doc) tt)

split : (b : Bool) (x y : Verdict) (P : Verdict → Type 0) → P (cond b x y) → ((b ≡ true) × P x) ⊎ ((b ≡ false) × P y)
split true x y P h = inl (refl, h)
split false x y P h = inr (refl, h)

same_spells : (j k : Kind) (c d : Data) → spells j c ≡ spells k d → (j ≡ k) × (c ≡ d)
same_spells j k c d e = (cc, cc)

same_fault : (f g : Fault) → fault f ≡ fault g → f ≡ g
same_fault f g e = cc

document_says : (doc : Doc) (f : Fault) (k : Kind) (d : Data) (ps : List Piece) → doc_run ps first ≡ Some doc → document_at doc (fault f) ≡ spells k d → IsDocument k d ps
document_says first f k d ps ran e = cc
document_says prolog f k d ps ran e = cc
document_says (within j (inside fs)) f k d ps ran e = cc
document_says (within j (in_leaf tag i fs)) f k d ps ran e = cc
document_says (within j (whole t)) f k d ps ran e =
    let r = read_document j t ps ran in
    let same = same_spells j k r.0 d (sym (ap (λ u. message_in j u (fault f)) r.1) ∙ e) in
    subst (λ i. IsDocument i d ps) same.0 (subst (λ t. IsDocument j t ps) same.1 r.2)

empty_is : (h : List ℕ) → not (is_empty h) ≡ false → h ≡ []
empty_is [] e = refl
empty_is (b ∷ bs) e = cc

-- what is read as a document is one
pub verdict_document : (k : Kind) (d : Data) (bytes : List ℕ) → run_bytes bytes ≡ spells k d → Spells k d bytes
verdict_document k d bytes e =
    let r = on_bytes begun bytes in
    let c = came bytes in
    elim (split (r.stuck || not (is_empty r.held)) (fault_at r) (document_at r.doc (fault_at r)) (λ v. v ≡ spells k d) e) [
      | inl (t, x) ↦ absurd (let no : ⊥ = cc in no)
      | inr (t, x) ↦
          (let two = or_false r.stuck (not (is_empty r.held)) t in
          let nothing_left : c.rest ≡ [] = (c.free two.0).0 ∙ empty_is r.held two.1 in (
            c.pieces,
            document_says r.doc (fault_by r.known (reason_by r.known r.ends r.held)) k d c.pieces c.ran x,
            c.is ∙ ap (λ l. text_of c.pieces ++ l) nothing_left ∙ append-nil (text_of c.pieces),
          ))
    ]

message_fault : (j : Kind) (t : Data) (f g : Fault) → message_in j t (fault f) ≡ fault g → f ≡ g
message_fault j (value x) f g e = same_fault f g e
message_fault j (branch none) f g e = same_fault f g e
message_fault j (branch (child at d none)) f g e = cc
message_fault j (branch (child at d (child i b cs))) f g e = same_fault f g e

document_fault : (doc : Doc) (f g : Fault) → document_at doc (fault f) ≡ fault g → f ≡ g
document_fault first f g e = same_fault f g e
document_fault prolog f g e = same_fault f g e
document_fault (within j (inside fs)) f g e = same_fault f g e
document_fault (within j (in_leaf tag i fs)) f g e = same_fault f g e
document_fault (within j (whole t)) f g e = message_fault j t f g e

verdict_is : (r : Reading) (g : Fault) → verdict_of r ≡ fault g → fault_by r.known (reason_by r.known r.ends r.held) ≡ g
verdict_is r g e =
    elim (split (r.stuck || not (is_empty r.held)) (fault_at r) (document_at r.doc (fault_at r)) (λ v. v ≡ fault g) e) [
      | inl (t, x) ↦ same_fault _ g x
      | inr (t, x) ↦ document_fault r.doc (fault_by r.known (reason_by r.known r.ends r.held)) g x
    ]

spells_no_fault : (k : Kind) (d : Data) (f : Fault) → spells k d ≡ fault f → ⊥
spells_no_fault k d f e = cc

-- what isn't read as one has this first fault
pub verdict_fault : (f : Fault) (bytes : List ℕ) → run_bytes bytes ≡ fault f → FirstFault bytes f
verdict_fault f bytes e =
    let r = on_bytes begun bytes in
    let c = came bytes in
    record {
      pieces = c.pieces;
      rest = c.rest;
      longest = came_longest bytes c;
      is = c.is;
      no_document = λ k d s. spells_no_fault k d f (sym (document_verdict k d bytes s) ∙ e);
      fault =
          sym (verdict_is r f e)
          ∙ ap (λ n. fault_by n (reason_by n r.ends r.held)) c.knows
          ∙ ap (λ t. fault_by (known c.pieces) (reason_by (known c.pieces) t r.held)) c.ends
          ∙ ap (λ h. fault_by (known c.pieces) (reason_by (known c.pieces) (list_any is_end c.rest) h)) c.holds
          ∙ ap (fault_by (known c.pieces)) (reason_take (known c.pieces) (list_any is_end c.rest) c.rest);
    }

-- ---- there is one first fault

moved_still : (d : Doc) (n : Known) (text : List ℕ) (p : Piece) (o : Option Doc) → 0 < length (piece_text p) → (moved d n text p o).known.place ≡ n.place → (moved d n text p o).known ≡ n
moved_still d n text p None h e = refl
moved_still d n text p (Some u) h e = absurd (omega (arith, h, e))

-- pieces in any order of the bytes: each reading keeps what it knows while the place stands still
ended_still : (d : Doc) (n : Known) (text : List ℕ) (o : Option Piece) → ((p : Piece) → o ≡ Some p → 0 < length (piece_text p)) → (ended d n text o).known.place ≡ n.place → (ended d n text o).known ≡ n
ended_still d n text None h e = refl
ended_still d n text (Some p) h e = moved_still d n text p (doc_step d p) (h p refl) e

by_cases : {A : Type 0} (P : A → Type 0) (b : Bool) (x y : A) → P x → P y → P (cond b x y)
by_cases P true x y f g = f
by_cases P false x y f g = g

blank_is : (b : ℕ) (p : Piece) → Some (blank (b ∷ [])) ≡ Some p → 0 < length (piece_text p)
blank_is b p e = subst (λ q. 0 < length (piece_text q)) (some_is (blank (b ∷ [])) p e) (omega arith)

piece_is : (d : Doc) (held : List ℕ) (b : ℕ) (p : Piece) → piece_of d (held ++ b ∷ []) ≡ Some p → 0 < length (piece_text p)
piece_is d held b p e = omega (arith, ap length (piece_says d (held ++ b ∷ []) p e), length-append held (b ∷ []))

one_still : (r : Reading) (b : ℕ) → (on_byte r b).known.place ≡ r.known.place → (on_byte r b).known ≡ r.known
one_still r b =
    let P : Reading → Type 0 = λ q. q.known.place ≡ r.known.place → q.known ≡ r.known in
    by_cases P r.stuck (barred r.doc r.known (take most (r.held ++ b ∷ [])) (r.ends || is_end b)) _ (λ e. refl)
    (by_cases P (is_empty r.held && (is_space b && may_blank r.doc)) (ended r.doc r.known (b ∷ []) (Some (blank (b ∷ [])))) _ (ended_still r.doc r.known (b ∷ []) (Some (blank (b ∷ []))) (blank_is b))
    (by_cases P (is_end b) (ended r.doc r.known (r.held ++ b ∷ []) (piece_of r.doc (r.held ++ b ∷ []))) _ (ended_still r.doc r.known (r.held ++ b ∷ []) (piece_of r.doc (r.held ++ b ∷ [])) (piece_is r.doc r.held b))
    (by_cases P (nat_lt (length r.held + 1) most) (standing r.doc r.known (r.held ++ b ∷ [])) (barred r.doc r.known (r.held ++ b ∷ []) false) (λ e. refl) (λ e. refl))))

still : (bytes : List ℕ) (r : Reading) → (on_bytes r bytes).known.place ≡ r.known.place → (on_bytes r bytes).known ≡ r.known
still [] r e = refl
still (b ∷ bs) r e =
    let first_step : (on_byte r b).known.place ≡ r.known.place = omega (arith, one_far r b, far bs (on_byte r b), e) in
    still bs (on_byte r b) (e ∙ sym first_step) ∙ one_still r b first_step

-- Two lists that are the longest tell the same, and leave the same rest.
longest_same : (bytes : List ℕ) (ps : List Piece) (rest : List ℕ) → IsLongest bytes ps → bytes ≡ text_of ps ++ rest → (known ps ≡ (on_bytes begun bytes).known)
longest_same bytes ps rest l is =
    let r = begins_read ps l.begins in
    let c = came bytes in
    let whole_run : on_bytes begun bytes ≡ on_bytes (standing r.0 (known ps) []) rest = ap (on_bytes begun) is ∙ fold-append on_byte begun (text_of ps) rest ∙ ap (λ q. on_bytes q rest) r.1 in
    let end : (on_bytes begun bytes).known.place ≡ (on_bytes (standing r.0 (known ps) []) rest).known.place = ap (λ q. q.known.place) whole_run in
    let mine : (on_bytes begun bytes).known.place ≡ (known c.pieces).place = ap (λ n. n.place) c.knows in
    let most_of_all = l.longest c.pieces (came_longest bytes c).begins (c.rest, c.is) in
    let back = far rest (standing r.0 (known ps) []) in
    let same : (on_bytes (standing r.0 (known ps) []) rest).known.place ≡ (known ps).place = omega (arith, end, mine, most_of_all, back, place_of ps, place_of c.pieces) in
    sym (still rest (standing r.0 (known ps) []) same) ∙ ap (λ q. q.known) (sym whole_run)

rest_same : (ps qs : List Piece) (rest more bytes : List ℕ) → bytes ≡ text_of ps ++ rest → bytes ≡ text_of qs ++ more → length (text_of ps) ≡ length (text_of qs) → rest ≡ more
rest_same ps qs rest more bytes a b e =
    sym (drop-append_seam (text_of ps) rest) ∙ ap (drop (length (text_of ps))) (sym a ∙ b) ∙ ap (λ n. drop n (text_of qs ++ more)) e ∙ drop-append_seam (text_of qs) more

-- bytes have one first fault
pub one_fault : (bytes : List ℕ) (f g : Fault) → FirstFault bytes f → FirstFault bytes g → f ≡ g
one_fault bytes f g x y =
    let same : known x.pieces ≡ known y.pieces = longest_same bytes x.pieces x.rest x.longest x.is ∙ sym (longest_same bytes y.pieces y.rest y.longest y.is) in
    let far : length (text_of x.pieces) ≡ length (text_of y.pieces) = sym (place_of x.pieces) ∙ ap (λ n. n.place) same ∙ place_of y.pieces in
    x.fault
    ∙ ap (λ n. fault_by n (reason_of n x.rest)) same
    ∙ ap (λ r. fault_by (known y.pieces) (reason_of (known y.pieces) r)) (rest_same x.pieces y.pieces x.rest y.rest bytes x.is y.is far)
    ∙ sym y.fault

fault_from : (v : Verdict) (bytes : List ℕ) (f : Fault) → run_bytes bytes ≡ v → FirstFault bytes f → v ≡ fault f
fault_from (spells k d) bytes f e x = absurd (x.no_document k d (verdict_document k d bytes e))
fault_from (fault g) bytes f e x = ap fault (one_fault bytes g f (verdict_fault g bytes e) x)

-- and the reader gives it
pub fault_verdict : (f : Fault) (bytes : List ℕ) → FirstFault bytes f → run_bytes bytes ≡ fault f
fault_verdict f bytes x = fault_from (run_bytes bytes) bytes f refl x

-- bytes in pieces
pub in_pieces : (front back : List ℕ) → on_bytes (on_bytes begun front) back ≡ on_bytes begun (front ++ back)
in_pieces front back = sym (fold-append on_byte begun front back)

-- at most 128 bytes are held
pub held_few : (bytes : List ℕ) → length (on_bytes begun bytes).held ≤ 128
held_few bytes = let c = came bytes in omega (arith, ap length c.holds, length-take 128 c.rest)

-- bytes spell one tree of one kind
pub one_tree : (bytes : List ℕ) (k j : Kind) (d e : Data) → Spells k d bytes → Spells j e bytes → (k ≡ j) × (d ≡ e)
one_tree bytes k j d e x y = same_spells k j d e (sym (document_verdict k d bytes x) ∙ document_verdict j e bytes y)

either_of : (v : Verdict) (bytes : List ℕ) → run_bytes bytes ≡ v → ((k : Kind) × (d : Data) × Spells k d bytes) ⊎ ((f : Fault) × FirstFault bytes f)
either_of (spells k d) bytes e = inl (k, d, verdict_document k d bytes e)
either_of (fault f) bytes e = inr (f, verdict_fault f bytes e)

-- bytes spell a tree or have a first fault
pub either : (bytes : List ℕ) → ((k : Kind) × (d : Data) × Spells k d bytes) ⊎ ((f : Fault) × FirstFault bytes f)
either bytes = either_of (run_bytes bytes) bytes refl
