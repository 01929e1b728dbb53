-- Bytes read as one message or one fault; a message reads back from its text.
use Rattle.std.proofs.Common.{ℕ, ◌+◌, ◌^◌, ◌<◌, ◌≤◌, ◌≡◌, ◌⊎◌, inl, inr, Bool, true, false, List, [], ◌∷◌, ◌++◌, length, Option, Some, None, refl, sym, ap, ◌∙◌, arith, subst, cond, length-append}
use Rattle.std.specs.Prelude.{fold, unwrap_or, option_map, codes}
use Rattle.std.specs.Str.{bytes_eq}
use Rattle.cap_base.specs.Number.{number_of}
use Rattle.cap_leaf.specs.Trees.{Data}
use Rattle.cap_leaf.specs.declared.fault.Fault.{Fault}
use Rattle.cap_leaf.specs.declared.kinds.Kind.{Kind}
use Rattle.cap_leaf.specs.declared.kinds.LeafKind.TheVariants as kind
use Rattle.cap_leaf.specs.declared.leaf.Leaf.TheVariants as leaf_of
use Rattle.cap_trees.specs.Fits.{FitsKind}
use Rattle.cap_text.specs.Pieces.{Piece, declaration, blank, document, opening, closing, leaf_opening, ending, text_of, Spells}
use Rattle.cap_text.specs.Canon.{canonical_text}
use Rattle.cap_text.specs.Faults.{Known, nothing, after, known, FirstFault}
use Rattle.cap_text.proofs.LeavesRead.{leaf_holds}
use Rattle.cap_text.proofs.Verdict.{place_of, one_tree, one_fault, either}
use Rattle.cap_text.proofs.WrittenAgain.{spells_fit}
use Rattle.cap_msgs.specs.declared.message.Message.{Message}
use Rattle.cap_msgs.specs.Trees.{message_kind, message_tree, text_of as message_text}
use Rattle.cap_msgs.specs.Ranges.{is_message, HasFew, IsSpellable}
use Rattle.cap_msgs.specs.Received.{Received, Read, Unread}
use Rattle.cap_msgs.specs.Reads.{Reads}
use Rattle.cap_msgs.proofs.Whole.{message_shape, message_fits, same_message}
use Rattle.cap_msgs.proofs.Values.{spells_values, fits_spells}
use Rattle.cap_msgs.proofs.Sizes.{text_size, text_some}

-- what spells the tree of a message reads as it
pub reads_of : (bytes : List ℕ) (k : Kind) (d : Data) (m : Message) → Spells k d bytes → message_kind m ≡ k → d ≡ message_tree m → Reads bytes (Read m)
reads_of bytes k d m s e t =
    subst (λ (j : Kind). Spells j (message_tree m) bytes) (sym e) (subst (λ (x : Data). Spells k x bytes) t s)

pub reads_some : (bytes : List ℕ) → (r : Received) × Reads bytes r
reads_some bytes =
    elim (either bytes) [
      | inl x ↦ (let h = message_shape x.0 x.1 (spells_fit x.0 x.1 bytes x.2) in (Read h.message, reads_of bytes x.0 x.1 h.message x.2 h.kind h.is))
      | inr y ↦ (Unread y.0, y.1)
    ]

pub reads_one : (bytes : List ℕ) (r s : Received) → Reads bytes r → Reads bytes s → r ≡ s
reads_one bytes (Read m) (Read n) a b =
    let e = one_tree bytes (message_kind m) (message_kind n) (message_tree m) (message_tree n) a b in ap Read (same_message m n e.0 e.1)
reads_one bytes (Read m) (Unread f) a b = absurd (b.no_document (message_kind m) (message_tree m) a)
reads_one bytes (Unread f) (Read n) a b = absurd (a.no_document (message_kind n) (message_tree n) b)
reads_one bytes (Unread f) (Unread g) a b = ap Unread (one_fault bytes f g a b)

-- ---- messages and their texts

pub read_spellable : (bytes : List ℕ) (m : Message) → Reads bytes (Read m) → IsSpellable m
read_spellable bytes m s =
    let h = message_shape (message_kind m) (message_tree m) (spells_fit (message_kind m) (message_tree m) bytes s) in
    let e = same_message h.message m h.kind (sym h.is) in
    record {
      range = ap is_message (sym e) ∙ h.range;
      few = subst (λ (x : Message). HasFew x.body) e h.few;
      values = spells_values (message_kind m) (message_tree m) bytes s;
    }

pub reads_again : (m : Message) → IsSpellable m → Reads (message_text m) (Read m)
reads_again m h = fits_spells (message_kind m) (message_tree m) (message_fits m h.range h.few) h.values

pub message_size : (m : Message) → IsSpellable m → (1 ≤ length (message_text m)) × (length (message_text m) ≤ 32768)
message_size m h =
    (text_some (message_kind m) (message_tree m), text_size (message_kind m) (message_tree m) (message_fits m h.range h.few) h.values)

-- what was written is the text of a message
pub record IsText (m : Message) (text : List ℕ) : Type 0 where
  pub text_is : text ≡ message_text m
  pub reads : Reads text (Read m)
  pub some : 1 ≤ length text
  pub few : length text ≤ 32768

pub written : (k : Kind) (d : Data) (m : Message) (text : List ℕ) → text ≡ canonical_text k d → k ≡ message_kind m → d ≡ message_tree m → Spells k d text → IsText m text
written k d m text e p q s =
    let r = reads_of text k d m s (sym p) q in
    let z = message_size m (read_spellable text m r) in
    let t = e ∙ ap (λ j. canonical_text j d) p ∙ ap (canonical_text (message_kind m)) q in
    record {
      text_is = t;
      reads = r;
      some = subst (λ (x : List ℕ). 1 ≤ length x) (sym t) z.0;
      few = subst (λ (x : List ℕ). length x ≤ 32768) (sym t) z.1;
    }

-- ---- faults

place_within : (bytes front rest : List ℕ) → bytes ≡ front ++ rest → length front ≤ length bytes
place_within bytes front rest e = let l = ap length e ∙ length-append front rest in omega (arith, l)

pub fault_within : (bytes : List ℕ) (f : Fault) → FirstFault bytes f → f.place ≤ length bytes
fault_within bytes f h =
    let e = ap (λ (g : Fault). g.place) h.fault ∙ place_of h.pieces in
    let l = place_within bytes (text_of h.pieces) h.rest h.is in omega (arith, e, l)

number_small : (content : List ℕ) (o : Option ℕ) → number_of 10 content ≡ o → unwrap_or o 0 < 10 ^ 10
number_small content None e = omega arith
number_small content (Some n) e = (leaf_holds (kind.Num 10) content (leaf_of.Num n) refl (ap (option_map leaf_of.Num) e)).of

chosen_small : (b : Bool) (x y : ℕ) → x < 10 ^ 10 → y < 10 ^ 10 → cond b x y < 10 ^ 10
chosen_small true x y p q = p
chosen_small false x y p q = q

one_kept : (n : Known) (p : Piece) → n.exchange < 10 ^ 10 → (after n p).exchange < 10 ^ 10
one_kept n (declaration standalone) h = h
one_kept n (blank text) h = h
one_kept n (document k) h = h
one_kept n (opening tag) h = h
one_kept n (closing tag) h = h
one_kept n (leaf_opening tag) h = h
one_kept n (ending tag content) h = chosen_small (bytes_eq tag (codes "XchgId")) _ _ (number_small content (number_of 10 content) refl) h

all_kept : (ps : List Piece) (n : Known) → n.exchange < 10 ^ 10 → (fold after n ps).exchange < 10 ^ 10
all_kept [] n h = h
all_kept (p ∷ ps) n h = all_kept ps (after n p) (one_kept n p h)

pub fault_exchange : (bytes : List ℕ) (f : Fault) → FirstFault bytes f → f.exchange < 10 ^ 10
fault_exchange bytes f h =
    let e = ap (λ (g : Fault). g.exchange) h.fault in
    let l = all_kept h.pieces nothing (omega arith) in omega (arith, e, l)
