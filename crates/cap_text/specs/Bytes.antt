-- The reader of bytes, over the machine of pieces.
use Rattle.std.specs.Prelude.{ℕ, ◌+◌, ◌-◌, Bool, true, false, ◌&&◌, ◌||◌, not, if◌then◌else◌, nat_lt, List, [], ◌∷◌, ◌++◌, length, take, drop, fold, Option, Some, None}
use Rattle.std.specs.Str.{bytes_eq}
use Rattle.cap_leaf.specs.declared.kinds.Kind.{Kind}
use Rattle.cap_leaf.specs.declared.kinds.Kind.TheVariants.{Caaa001, Caaa002, Caaa003, Caaa004, Caaa005, Caaa006, Caaa007, Caaa008, Caaa009, Caaa010, Caaa011, Caaa012, Caaa013, Caaa014, Caaa015, Catm001, Catm002, Catm003, Catm004}
use Rattle.cap_leaf.specs.Schema.{Content, leaf, all, one_of}
use Rattle.cap_leaf.specs.Trees.{Data, value, branch, none, child}
use Rattle.cap_leaf.specs.declared.fault.Fault.{Fault}
use Rattle.cap_text.specs.Pieces.{Piece, declaration, blank, document, opening, closing, leaf_opening, ending, opening_text, closing_text, document_text, declaration_text, is_space}
use Rattle.cap_text.specs.Faults.{Known, nothing, after, is_end, reason_by, fault_by}
use Rattle.cap_text.specs.Machine.{State, inside, in_leaf, whole, Found, look, Doc, first, prolog, within, doc_step}

-- what stands between the first byte and the last
abbrev pub inner : List ℕ → List ℕ
inner text = take (length text - 2) (drop 1 text)

-- what stands before the closing of this tag
abbrev pub content_of : List ℕ → List ℕ → List ℕ
content_of tag text = take (length text - (length tag + 3)) text

abbrev pub is_empty : List ℕ → Bool
is_empty [] = true
is_empty (b ∷ bs) = false

abbrev pub may_space : State → Bool
may_space (inside fs) = true
may_space (in_leaf tag k fs) = false
may_space (whole d) = true

abbrev pub may_blank : Doc → Bool
may_blank first = true
may_blank prolog = true
may_blank (within k s) = may_space s

-- where white space leads
abbrev pub blanked : Doc → Doc
blanked first = prolog
blanked prolog = prolog
blanked (within k s) = within k s

-- so many bytes of white space are passed
abbrev pub passed_by : Known → ℕ → Known
passed_by n m = record n { place = n.place + m }

unfoldable pub kinds : List Kind
kinds = Caaa001 ∷ Caaa002 ∷ Caaa003 ∷ Caaa004 ∷ Caaa005 ∷ Caaa006 ∷ Caaa007 ∷ Caaa008 ∷ Caaa009 ∷ Caaa010 ∷ Caaa011 ∷ Caaa012 ∷ Caaa013 ∷ Caaa014 ∷ Caaa015 ∷ Catm001 ∷ Catm002 ∷ Catm003 ∷ Catm004 ∷ []

-- the opening of `Document` that a text is
abbrev pub document_in : List Kind → List ℕ → Option Piece
document_in [] text = None
document_in (k ∷ ks) text = if bytes_eq (document_text k) text then Some (document k) else document_in ks text

abbrev pub first_piece : List ℕ → Option Piece
first_piece text =
    if bytes_eq (declaration_text false) text then Some (declaration false)
    else if bytes_eq (declaration_text true) text then Some (declaration true)
    else document_in kinds text

abbrev pub opening_by : Content → List ℕ → Piece
opening_by (leaf k) tag = leaf_opening tag
opening_by (all t) tag = opening tag
opening_by (one_of t) tag = opening tag

abbrev pub opening_of : Option Found → List ℕ → Option Piece
opening_of None tag = None
opening_of (Some found) tag = Some (opening_by found.content tag)

-- the piece that a text up to a `>` is, where it may stand
abbrev pub inner_piece : State → List ℕ → Option Piece
inner_piece (inside []) text = None
inner_piece (inside (f ∷ fs)) text =
    if bytes_eq (closing_text f.tag) text then Some (closing f.tag)
    else if bytes_eq (opening_text (inner text)) text then opening_of (look f.left (inner text)) (inner text) else None
inner_piece (in_leaf tag k fs) text =
    if bytes_eq (content_of tag text ++ closing_text tag) text then Some (ending tag (content_of tag text)) else None
inner_piece (whole d) text = None

abbrev pub piece_of : Doc → List ℕ → Option Piece
piece_of first text = first_piece text
piece_of prolog text = document_in kinds text
piece_of (within k s) text = inner_piece s text

-- Where the reader stands: what was read, what it tells, the front of what wasn't (at most 128 bytes), whether it can't be
-- read any more, and whether a `>` stands in it.
pub record Reading : Type 0 where
  pub doc : Doc
  pub known : Known
  pub held : List ℕ
  pub stuck : Bool
  pub ends : Bool

abbrev pub most : ℕ
most = 128

abbrev pub standing : Doc → Known → List ℕ → Reading
standing d n held = record { doc = d; known = n; held = held; stuck = false; ends = false }

abbrev pub barred : Doc → Known → List ℕ → Bool → Reading
barred d n held ends = record { doc = d; known = n; held = held; stuck = true; ends = ends }

-- a piece is read, if it may stand
abbrev pub moved : Doc → Known → List ℕ → Piece → Option Doc → Reading
moved d n text p None = barred d n text true
moved d n text p (Some e) = standing e (after n p) []

abbrev pub ended : Doc → Known → List ℕ → Option Piece → Reading
ended d n text None = barred d n text true
ended d n text (Some p) = moved d n text p (doc_step d p)

abbrev pub on_byte : Reading → ℕ → Reading
on_byte r b =
    if r.stuck then barred r.doc r.known (take most (r.held ++ b ∷ [])) (r.ends || is_end b)
    else if is_empty r.held && (is_space b && may_blank r.doc) then ended r.doc r.known (b ∷ []) (Some (blank (b ∷ [])))
    else if is_end b then ended r.doc r.known (r.held ++ b ∷ []) (piece_of r.doc (r.held ++ b ∷ []))
    else if nat_lt (length r.held + 1) most then standing r.doc r.known (r.held ++ b ∷ [])
    else barred r.doc r.known (r.held ++ b ∷ []) false

abbrev pub on_bytes : Reading → List ℕ → Reading
on_bytes r bytes = fold on_byte r bytes

abbrev pub begun : Reading
begun = standing first nothing []

-- what the bytes are: a document, or their first fault
pub data Verdict : Type 0 where
  spells : Kind → Data → Verdict
  fault : Fault → Verdict

abbrev pub fault_at : Reading → Verdict
fault_at r = fault (fault_by r.known (reason_by r.known r.ends r.held))

-- the message element of `Document`
abbrev pub message_in : Kind → Data → Verdict → Verdict
message_in k (branch (child at d none)) other = spells k d
message_in k (branch (child at d (child i e cs))) other = other
message_in k (branch none) other = other
message_in k (value x) other = other

abbrev pub whole_in : Kind → State → Verdict → Verdict
whole_in k (whole e) other = message_in k e other
whole_in k (inside fs) other = other
whole_in k (in_leaf tag j fs) other = other

abbrev pub document_at : Doc → Verdict → Verdict
document_at (within k s) other = whole_in k s other
document_at first other = other
document_at prolog other = other

abbrev pub verdict_of : Reading → Verdict
verdict_of r = if r.stuck || not (is_empty r.held) then fault_at r else document_at r.doc (fault_at r)

-- what all bytes are
abbrev pub run_bytes : List ℕ → Verdict
run_bytes bytes = verdict_of (on_bytes begun bytes)
