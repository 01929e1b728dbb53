-- The canonical pieces of a tree that fits, with each leaf spelt, are a document of it.
use Rattle.std.proofs.Common.{◌≡◌, ℕ, List, [], ◌∷◌, ◌++◌, refl, sym, ◌∙◌, ap, subst, Option, Some, None, append-nil, append_assoc}
use Rattle.std.specs.Prelude.{slice_get, option_map, codes}
use Rattle.std.proofs.lemmas.Grind.{flat_map-append}
use Rattle.cap_leaf.specs.declared.kinds.Kind.{Kind}
use Rattle.cap_leaf.specs.declared.schema.Node.{Node}
use Rattle.cap_leaf.specs.Schema.{Content, Table, row, Row}
use Rattle.cap_leaf.specs.Trees.{Data, Children, none, child}
use Rattle.cap_leaf.specs.View.{table_view, content_view, row_of}
use Rattle.cap_trees.specs.Tables.{table_of}
use Rattle.cap_trees.specs.Fits.{Fits, FitsRows, FitsRow, FitsKind}
use Rattle.cap_trees.specs.Fits as fits
use Rattle.cap_text.specs.Pieces.{closing, piece_text, text_of, document_text, closing_text, Element, Rows, Choice, a_leaf, in_order, a_choice, no_row, one_more, next_row, this_row, other_row, IsDocument, Spells}
use Rattle.cap_text.specs.Canon.{row_at, by_row, element, children, canonical, canonical_text}
use Rattle.cap_text.specs.Written.{FitsAt, EachFits, SpeltAt, AreSpelt, EachSpelt}
use Rattle.cap_text.proofs.Seeing.{row_lookup}
use Rattle.cap_text.proofs.Writing.{Within, within_first, within_rest, within_self, each_rows}

abbrev at_row : List ℕ → ℕ → ℕ → Content → Row
at_row tag least most c = record { tag = tag; least = least; most = most; content = c }

mutual
  element_spelt : {c : Content} {d : Data} (tag : List ℕ) (least most : ℕ) → Fits c d → AreSpelt d (at_row tag least most c) → Element tag c d (element d (at_row tag least most c))
  element_spelt tag least most (fits.a_leaf i h r) s = a_leaf s
  element_spelt tag least most (fits.in_order {t} r) s = in_order (rows_spelt t (within_self t) r s)
  element_spelt tag least most (fits.a_choice {t} r) s = a_choice (row_spelt t (within_self t) r s.0)

  rows_spelt : {t : Table} {at n : ℕ} {cs : Children} (whole : Table) → Within t at whole → FitsRows t at n cs → EachSpelt cs whole → Rows t at n cs (children cs whole)
  rows_spelt whole h fits.no_row s = no_row
  rows_spelt whole h (fits.one_more {tag} {least} {most} {c} {rest} {at} {n} {d} {cs} lt f r) s =
      let e = within_first tag least most c rest at whole h in
      let P : Option Row → Type 0 = λ o. Rows (row tag least most c rest) at n (child at d cs) (by_row o (element d) ++ children cs whole) in
      let Q : Option Row → Type 0 = λ o. SpeltAt o (AreSpelt d) in
      subst P (sym e) (one_more lt (element_spelt tag least most f (subst Q e s.0)) (rows_spelt whole h r s.1))
  rows_spelt whole h (fits.next_row {tag} {least} {most} {c} {rest} {at} le r) s = next_row le (rows_spelt whole (within_rest tag least most c rest at whole h) r s)

  row_spelt : {t : Table} {at place : ℕ} {d : Data} (whole : Table) → Within t at whole → FitsRow t at place d → SpeltAt (row_at whole place) (AreSpelt d)
      → Choice t at place d (children (child place d none) whole)
  row_spelt whole h (fits.this_row {tag} {least} {most} {c} {rest} {at} {d} f) s =
      let e = within_first tag least most c rest at whole h in
      let P : Option Row → Type 0 = λ o. Choice (row tag least most c rest) at at d (by_row o (element d) ++ []) in
      let Q : Option Row → Type 0 = λ o. SpeltAt o (AreSpelt d) in
      subst P (sym e) (this_row (element_spelt tag least most f (subst Q e s)) [] tt)
  row_spelt whole h (fits.other_row {tag} {least} {most} {c} {rest} {at} r) s = other_row (row_spelt whole (within_rest tag least most c rest at whole h) r s)

-- the document
pub canonical_document : (k : Kind) (d : Data) → FitsKind k d → EachSpelt (child 0 d none) (table_of k) → IsDocument k d (canonical k d)
canonical_document k d h s = record {
  front = [];
  body = children (child 0 d none) (table_of k);
  back = [];
  is = refl;
  prolog = tt;
  message = rows_spelt (table_of k) (within_self (table_of k)) h s;
  spaces = tt;
}

pub canonical_spells : (k : Kind) (d : Data) → FitsKind k d → EachSpelt (child 0 d none) (table_of k) → Spells k d (canonical_text k d)
canonical_spells k d h s = (canonical k d, canonical_document k d h s, refl)

-- ---- the message element's row, as the code has it

pub record Root (ns : List Node) (k : Kind) (d : Data) : Type 0 where
  pub node : Node
  pub is : slice_get ns 0 ≡ Some node
  pub fits : Fits (content_view node.shape) d
  pub row : row_at (table_of k) 0 ≡ Some (row_of node)

rooted : (ns : List Node) (k : Kind) (d : Data) (o : Option Node) → slice_get ns 0 ≡ o → row_at (table_of k) 0 ≡ option_map row_of o → FitsAt (option_map row_of o) d → Root ns k d
rooted ns k d None e r h = absurd h
rooted ns k d (Some n) e r h = record { node = n; is = e; fits = h; row = r }

pub root_of : (ns : List Node) (k : Kind) (d : Data) → table_view ns ≡ table_of k → FitsKind k d → Root ns k d
root_of ns k d e h =
    let each : EachFits (child 0 d none) (table_of k) = each_rows (table_of k) (within_self (table_of k)) h in
    let r : row_at (table_of k) 0 ≡ option_map row_of (slice_get ns 0) = ap (λ t. row_at t 0) (sym e) ∙ row_lookup ns 0 in
    let Q : Option Row → Type 0 = λ o. FitsAt o d in
    rooted ns k d (slice_get ns 0) refl r (subst Q r each.0)

-- what is written of the document
pub document_written : (k : Kind) (d : Data) (n : Node) → row_at (table_of k) 0 ≡ Some (row_of n)
    → document_text k ++ text_of (element d (row_of n)) ++ closing_text (codes "Document") ≡ canonical_text k d
document_written k d n e =
    let inner : children (child 0 d none) (table_of k) ≡ element d (row_of n) = ap (λ o. by_row o (element d) ++ []) e ∙ append-nil (element d (row_of n)) in
    append_assoc (document_text k) (text_of (element d (row_of n))) (closing_text (codes "Document"))
    ∙ ap (λ t. document_text k ++ t)
    (sym (ap (λ ps. text_of (ps ++ closing (codes "Document") ∷ [])) inner
    ∙ flat_map-append piece_text (element d (row_of n)) (closing (codes "Document") ∷ [])
    ∙ ap (λ t. text_of (element d (row_of n)) ++ t) (append-nil (closing_text (codes "Document")))))

pub document_spelt : (k : Kind) (d : Data) (n : Node) → row_at (table_of k) 0 ≡ Some (row_of n) → AreSpelt d (row_of n) → EachSpelt (child 0 d none) (table_of k)
document_spelt k d n e s = let Q : Option Row → Type 0 = λ o. SpeltAt o (AreSpelt d) in (subst Q (sym e) s, tt)

-- ---- three texts one after the other

pub three_written : (old one two three a b c : List ℕ) → one ≡ old ++ a → two ≡ one ++ b → three ≡ two ++ c → three ≡ old ++ (a ++ (b ++ c))
three_written old one two three a b c p q r =
    r ∙ ap (λ l. l ++ c) (q ∙ ap (λ l. l ++ b) p) ∙ append_assoc (old ++ a) b c ∙ append_assoc old a (b ++ c)

pub whole_written : (k : Kind) (d : Data) (n : Node) (old one two three : List ℕ) → row_at (table_of k) 0 ≡ Some (row_of n)
    → one ≡ old ++ document_text k → two ≡ one ++ text_of (element d (row_of n)) → three ≡ two ++ closing_text (codes "Document") → three ≡ old ++ canonical_text k d
whole_written k d n old one two three e p q r =
    three_written old one two three (document_text k) (text_of (element d (row_of n))) (closing_text (codes "Document")) p q r
    ∙ ap (λ l. old ++ l) (sym (append_assoc (document_text k) (text_of (element d (row_of n))) (closing_text (codes "Document"))) ∙ document_written k d n e)
