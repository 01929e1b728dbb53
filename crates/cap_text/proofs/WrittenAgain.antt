-- What was read fits its kind, and its canonical text spells it again.
use Rattle.std.proofs.Common.{ℕ, ◌≡◌, List, Option, sym, ap, subst}
use Rattle.std.specs.Prelude.{◌↔◌}
use Rattle.cap_leaf.specs.declared.kinds.Kind.{Kind}
use Rattle.cap_leaf.specs.Schema.{Content, Table, Row}
use Rattle.cap_leaf.specs.Trees.{Data, Children, none, child}
use Rattle.cap_leaf.proofs.LeavesBack.{reads_back}
use Rattle.cap_trees.specs.Tables.{table_of}
use Rattle.cap_trees.specs.Tests.{Sound, SoundIn}
use Rattle.cap_trees.specs.Fits.{Fits, FitsRows, FitsRow, FitsKind}
use Rattle.cap_trees.specs.Fits as fits
use Rattle.cap_trees.proofs.Tables.{tables_sound}
use Rattle.cap_text.specs.Pieces.{Piece, Element, Rows, Choice, a_leaf, in_order, a_choice, no_row, white, one_more, next_row, white_first, this_row, other_row, Spells}
use Rattle.cap_text.specs.Canon.{row_at, canonical_text}
use Rattle.cap_text.specs.Written.{SpeltAt, AreSpelt, EachSpelt}
use Rattle.cap_text.proofs.Writing.{Within, within_first, within_rest, within_self}
use Rattle.cap_text.proofs.Canonicals.{canonical_spells}
use Rattle.cap_text.proofs.LeavesRead.{leaf_holds}
use Rattle.cap_text.proofs.Verdict.{one_tree}

abbrev at_row : List ℕ → ℕ → ℕ → Content → Row
at_row tag least most c = record { tag = tag; least = least; most = most; content = c }

mutual
  element_fits : {tag : List ℕ} {c : Content} {d : Data} {ps : List Piece} (least most : ℕ) → Element tag c d ps → SoundIn c → Fits c d × AreSpelt d (at_row tag least most c)
  element_fits least most (a_leaf {k = k} {x = x} {content = content} e) s =
      let h = leaf_holds k content x s.3 e in (fits.a_leaf s.3 h.of h.range, reads_back k x s.3 h.of h.range h.value)
  element_fits least most (in_order {t = t} r) s = let f = rows_fit t (within_self t) r s in (fits.in_order f.0, f.1)
  element_fits least most (a_choice {t = t} r) s = let f = choice_fits t (within_self t) r s.0 in (fits.a_choice f.0, (f.1, tt))

  rows_fit : {t : Table} {at n : ℕ} {cs : Children} {ps : List Piece} (whole : Table) → Within t at whole → Rows t at n cs ps → Sound t → FitsRows t at n cs × EachSpelt cs whole
  rows_fit whole h no_row s = (fits.no_row, tt)
  rows_fit whole h (white w r) s = rows_fit whole h r s
  rows_fit whole h (one_more {tag} {least} {most} {c} {rest} {at} {n} {d} {cs} lt e r) s =
      let f = element_fits least most e s.2 in
      let g = rows_fit whole h r s in
      let P : Option Row → Type 0 = λ o. SpeltAt o (AreSpelt d) in
      (fits.one_more lt f.0 g.0, (subst P (sym (within_first tag least most c rest at whole h)) f.1, g.1))
  rows_fit whole h (next_row {tag} {least} {most} {c} {rest} {at} le r) s =
      let g = rows_fit whole (within_rest tag least most c rest at whole h) r s.3 in (fits.next_row le g.0, g.1)

  choice_fits : {t : Table} {at place : ℕ} {d : Data} {ps : List Piece} (whole : Table) → Within t at whole → Choice t at place d ps → Sound t
      → FitsRow t at place d × SpeltAt (row_at whole place) (AreSpelt d)
  choice_fits whole h (white_first w r) s = choice_fits whole h r s
  choice_fits whole h (this_row {tag} {least} {most} {c} {rest} {at} {d} e qs w) s =
      let f = element_fits least most e s.2 in
      let P : Option Row → Type 0 = λ o. SpeltAt o (AreSpelt d) in
      (fits.this_row f.0, subst P (sym (within_first tag least most c rest at whole h)) f.1)
  choice_fits whole h (other_row {tag} {least} {most} {c} {rest} {at} r) s =
      let g = choice_fits whole (within_rest tag least most c rest at whole h) r s.3 in (fits.other_row g.0, g.1)

both_of : (k : Kind) (d : Data) (bytes : List ℕ) → Spells k d bytes → FitsKind k d × EachSpelt (child 0 d none) (table_of k)
both_of k d bytes s = rows_fit (table_of k) (within_self (table_of k)) s.1.message (tables_sound k)

pub spells_fit : (k : Kind) (d : Data) (bytes : List ℕ) → Spells k d bytes → FitsKind k d
spells_fit k d bytes s = (both_of k d bytes s).0

pub spells_again : (k : Kind) (d : Data) (bytes : List ℕ) → Spells k d bytes → Spells k d (canonical_text k d)
spells_again k d bytes s = let b = both_of k d bytes s in canonical_spells k d b.0 b.1

pub same_tree : (k : Kind) (d e : Data) (a b : List ℕ) → Spells k d a → Spells k e b → (d ≡ e) ↔ (canonical_text k d ≡ canonical_text k e)
same_tree k d e a b s t = (
  λ same. ap (canonical_text k) same,
  λ texts. (one_tree (canonical_text k d) k k d e (spells_again k d a s) (let P : List ℕ → Type 0 = λ x. Spells k e x in subst P (sym texts) (spells_again k e b t))).1,
)
