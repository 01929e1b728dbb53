-- The leaves of what was read keep the rules of their types; and such leaves are spelt by their canonical texts.
use Rattle.std.proofs.Common.{ℕ, suc, ◌+◌, ◌<◌, ◌≤◌, ◌≡◌, true, List, [], ◌∷◌, Option, Some, None, sym, ap, subst}
use Rattle.cap_leaf.specs.Schema.{Content, Table, Row, leaf, all, one_of, end, row}
use Rattle.cap_leaf.specs.Trees.{Data, Children, value, branch, none, child}
use Rattle.cap_leaf.specs.declared.kinds.Kind.{Kind}
use Rattle.cap_leaf.proofs.LeavesBack.{reads_back}
use Rattle.cap_trees.specs.Tables.{table_of}
use Rattle.cap_trees.specs.Tests.{Sound, SoundIn}
use Rattle.cap_trees.specs.Fits.{Fits, FitsRows, FitsRow, FitsKind}
use Rattle.cap_trees.specs.Fits as fits
use Rattle.cap_trees.proofs.Tables.{tables_sound}
use Rattle.cap_text.specs.Pieces.{Piece, Element, Rows, Choice, a_leaf, in_order, a_choice, no_row, white, one_more, next_row, white_first, this_row, other_row, Spells}
use Rattle.cap_text.specs.Canon.{row_at, canonical_text}
use Rattle.cap_text.specs.Written.{SpeltAt, AreSpelt, EachSpelt}
use Rattle.cap_text.proofs.LeavesRead.{leaf_holds}
use Rattle.cap_text.proofs.Writing.{Within, within_first, within_rest, within_self}
use Rattle.cap_text.proofs.Canonicals.{canonical_spells}
use Rattle.cap_msgs.specs.Ranges.{HasValues, AllHaveValues}

mutual
  element_values : {tag : List ℕ} {c : Content} {d : Data} {ps : List Piece} → Element tag c d ps → SoundIn c → HasValues d
  element_values (a_leaf {k = k} {x = x} {content = content} e) s = (leaf_holds k content x s.3 e).value
  element_values (in_order r) s = rows_values r s
  element_values (a_choice r) s = (choice_values r s.0, tt)

  rows_values : {t : Table} {at n : ℕ} {cs : Children} {ps : List Piece} → Rows t at n cs ps → Sound t → AllHaveValues cs
  rows_values no_row s = tt
  rows_values (white w r) s = rows_values r s
  rows_values (one_more lt e r) s = (element_values e s.2, rows_values r s)
  rows_values (next_row le r) s = rows_values r s.3

  choice_values : {t : Table} {at place : ℕ} {d : Data} {ps : List Piece} → Choice t at place d ps → Sound t → HasValues d
  choice_values (white_first w r) s = choice_values r s
  choice_values (this_row e qs w) s = element_values e s.2
  choice_values (other_row r) s = choice_values r s.3

pub spells_values : (k : Kind) (d : Data) (bytes : List ℕ) → Spells k d bytes → HasValues d
spells_values k d bytes s = (rows_values s.1.message (tables_sound k)).0

abbrev at_row : List ℕ → ℕ → ℕ → Content → Row
at_row tag least most c = record { tag = tag; least = least; most = most; content = c }

mutual
  element_spelt : {c : Content} {d : Data} (tag : List ℕ) (least most : ℕ) → Fits c d → HasValues d → AreSpelt d (at_row tag least most c)
  element_spelt tag least most (fits.a_leaf {k = k} {x = x} i h r) v = reads_back k x i h r v
  element_spelt tag least most (fits.in_order {t} r) v = rows_spelt t (within_self t) r v
  element_spelt tag least most (fits.a_choice {t} r) v = (choice_spelt t (within_self t) r v.0, tt)

  rows_spelt : {t : Table} {at n : ℕ} {cs : Children} (whole : Table) → Within t at whole → FitsRows t at n cs → AllHaveValues cs → EachSpelt cs whole
  rows_spelt whole h fits.no_row v = tt
  rows_spelt whole h (fits.one_more {tag} {least} {most} {c} {rest} {at} {n} {d} {cs} lt f r) v =
      let P : Option Row → Type 0 = λ o. SpeltAt o (AreSpelt d) in
      (subst P (sym (within_first tag least most c rest at whole h)) (element_spelt tag least most f v.0), rows_spelt whole h r v.1)
  rows_spelt whole h (fits.next_row {tag} {least} {most} {c} {rest} {at} le r) v = rows_spelt whole (within_rest tag least most c rest at whole h) r v

  choice_spelt : {t : Table} {at place : ℕ} {d : Data} (whole : Table) → Within t at whole → FitsRow t at place d → HasValues d → SpeltAt (row_at whole place) (AreSpelt d)
  choice_spelt whole h (fits.this_row {tag} {least} {most} {c} {rest} {at} {d} f) v =
      let P : Option Row → Type 0 = λ o. SpeltAt o (AreSpelt d) in
      subst P (sym (within_first tag least most c rest at whole h)) (element_spelt tag least most f v)
  choice_spelt whole h (fits.other_row {tag} {least} {most} {c} {rest} {at} r) v = choice_spelt whole (within_rest tag least most c rest at whole h) r v

-- a tree that fits, of leaves that keep their rules, is spelt by its canonical text
pub fits_spells : (k : Kind) (d : Data) → FitsKind k d → HasValues d → Spells k d (canonical_text k d)
fits_spells k d f v = canonical_spells k d f (rows_spelt (table_of k) (within_self (table_of k)) f (v, tt))
