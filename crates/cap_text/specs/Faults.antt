-- The first fault of bytes that are no document.
use Rattle.std.specs.Prelude.{ℕ, zero, suc, ◌≡◌, ◌≤◌, ◌+◌, ◌-◌, Bool, true, false, ◌&&◌, ◌||◌, not, if◌then◌else◌, ◌==◌, List, [], ◌∷◌, ◌++◌, length, drop, codes, fold, Option, Some, None, unwrap_or}
use Rattle.std.specs.List.{list_any}
use Rattle.std.specs.Char.{is_ascii_digit}
use Rattle.std.specs.Str.{bytes_eq}
use Rattle.cap_base.specs.Text.{ident_of}
use Rattle.cap_base.specs.Number.{number_of}
use Rattle.cap_base.specs.declared.codes.Reason.{Reason}
use Rattle.cap_base.specs.declared.codes.Reason.TheVariants.{Imsg, Pars, Secu, Vers, Msgt}
use Rattle.cap_leaf.specs.declared.kinds.Kind.{Kind}
use Rattle.cap_leaf.specs.declared.kinds.Kind.TheVariants.{Catm001, Catm002, Catm003, Catm004}
use Rattle.cap_leaf.specs.Trees.{Data}
use Rattle.cap_leaf.specs.declared.fault.Fault.{Fault}
use Rattle.cap_text.specs.Pieces.{Piece, declaration, blank, document, opening, closing, leaf_opening, ending, piece_text, text_of, IsDocument, Spells}

-- the pieces begin a document
abbrev pub Begins : List Piece → Type 0
Begins ps = (k : Kind) × (d : Data) × (rest : List Piece) × IsDocument k d (ps ++ rest)

abbrev pub StartsWith : List ℕ → List ℕ → Type 0
StartsWith bytes front = (rest : List ℕ) × (bytes ≡ front ++ rest)

-- of all lists of pieces that begin a document, and whose text begins the bytes, this one is the longest
pub record IsLongest (bytes : List ℕ) (ps : List Piece) : Type 0 where
  pub begins : Begins ps
  pub stands : StartsWith bytes (text_of ps)
  pub longest : (qs : List Piece) → Begins qs → StartsWith bytes (text_of qs) → length (text_of qs) ≤ length (text_of ps)

-- What pieces tell.
pub record Known : Type 0 where
  -- the number of their bytes
  pub place : ℕ
  -- what the opening of `Document` names
  pub named : Option Kind
  -- the value of `XchgId`, else 0
  pub exchange : ℕ
  -- the structure that was opened last is `InitgPty`
  pub initiator : Bool
  -- the id of `InitgPty`
  pub from : Option (List ℕ)
  -- how many structures are open, and whether one is closed and the one that was closed last isn't the header
  pub depth : ℕ
  pub closed : Bool
  -- the last piece is the opening of a leaf, and it is that of `PrtcolVrsn`
  pub open_leaf : Bool
  pub version : Bool

abbrev pub nothing : Known
nothing = record { place = 0; named = None; exchange = 0; initiator = false; from = None; depth = 0; closed = false; open_leaf = false; version = false }

-- what a piece tells besides the number of its bytes
abbrev pub told : Known → Piece → Known
told n (declaration standalone) = n
told n (blank text) = n
told n (document k) = record n { named = Some k; depth = 1 }
told n (opening tag) = record n { depth = n.depth + 1; initiator = bytes_eq tag (codes "InitgPty") }
told n (closing tag) = record n { depth = n.depth - 1; closed = not (bytes_eq tag (codes "Hdr")) }
told n (leaf_opening tag) = record n { open_leaf = true; version = bytes_eq tag (codes "PrtcolVrsn") }
told n (ending tag content) = record n {
  exchange = if bytes_eq tag (codes "XchgId") then unwrap_or (number_of 10 content) 0 else n.exchange;
  from = if bytes_eq tag (codes "Id") && n.initiator then ident_of content else n.from;
  open_leaf = false;
  version = false;
}

-- the same, with the number of its bytes
abbrev pub told_by : Known → Piece → ℕ → Known
told_by n p bytes = record (told n p) { place = n.place + bytes }

abbrev pub after : Known → Piece → Known
after n p = told_by n p (length (piece_text p))

abbrev pub known : List Piece → Known
known ps = fold after nothing ps

-- the body is closed and its message element isn't: `Document` and the message element are open, and the structure
-- that was closed last isn't the header
abbrev pub body_ended : Known → Bool
body_ended n = (n.depth == 2) && n.closed

abbrev pub begins_with : List ℕ → List ℕ → Bool
begins_with [] bytes = true
begins_with (b ∷ front) [] = false
begins_with (b ∷ front) (c ∷ bytes) = (b == c) && begins_with front bytes

-- at most so many digits, and then a colon
abbrev pub version_ends : ℕ → List ℕ → Bool
version_ends n [] = false
version_ends zero (b ∷ bs) = b == 58
version_ends (suc n) (b ∷ bs) = (b == 58) || (is_ascii_digit b && version_ends n bs)

abbrev pub first_is_digit : List ℕ → Bool
first_is_digit [] = false
first_is_digit (b ∷ bs) = is_ascii_digit b

-- 1 to 3 digits other than the one digit 1, and then a colon
abbrev pub other_version : List ℕ → Bool
other_version bytes = (first_is_digit bytes && version_ends 3 bytes) && not (begins_with (codes "1:") bytes)

abbrev pub is_end : ℕ → Bool
is_end b = b == 62

abbrev pub is_none : {A : Type 0} → Option A → Bool
is_none None = true
is_none (Some x) = false

abbrev pub last_reason : Known → List ℕ → Reason
last_reason n r =
    if body_ended n && begins_with (codes "<SctyTrlr>") r then Secu
    else if begins_with (codes "<") r then Imsg else Pars

abbrev pub leaf_reason : Known → List ℕ → Reason
leaf_reason n r = if n.open_leaf then (if n.version && first_is_digit r then Vers else Imsg) else last_reason n r

-- the reason, by what the pieces tell, whether a `>` stands in the rest, and the rest
abbrev pub reason_by : Known → Bool → List ℕ → Reason
reason_by n ends r =
    if not ends then Pars
    else if is_none n.named && (begins_with (codes "<Document xmlns=\"urn:x-cap20:") r && other_version (drop 29 r)) then Vers
    else if is_none n.named && begins_with (codes "<Document xmlns=\"") r then Msgt
    else leaf_reason n r

abbrev pub reason_of : Known → List ℕ → Reason
reason_of n r = reason_by n (list_any is_end r) r

abbrev pub is_management : Option Kind → Bool
is_management None = false
is_management (Some Catm001) = true
is_management (Some Catm002) = true
is_management (Some Catm003) = true
is_management (Some Catm004) = true
is_management (Some k) = false

abbrev pub fault_by : Known → Reason → Fault
fault_by n reason = record { place = n.place; reason = reason; exchange = n.exchange; from = n.from; management = is_management n.named }

-- the first fault of bytes that are no document
pub record FirstFault (bytes : List ℕ) (f : Fault) : Type 0 where
  pub pieces : List Piece
  pub rest : List ℕ
  pub longest : IsLongest bytes pieces
  pub is : bytes ≡ text_of pieces ++ rest
  pub no_document : (k : Kind) (d : Data) → Spells k d bytes → ⊥
  pub fault : f ≡ fault_by (known pieces) (reason_of (known pieces) rest)
