-- The bodies of messages on periods and batches that fit.
use Rattle.std.proofs.Common.{ℕ, suc, ◌+◌, ◌<◌, ◌≤◌, ◌≡◌, inl, inr, Bool, true, false, List, [], ◌∷◌, length, Option, Some, None, refl, sym, ap, ◌∙◌, arith, subst}
use Rattle.std.specs.Prelude.{◌&&◌, codes, map}
use Rattle.std.specs.List.{list_all}
use Rattle.cap_base.specs.declared.codes.Response.{Response}
use Rattle.cap_base.specs.declared.item.Totals.{Totals}
use Rattle.cap_base.specs.declared.item.Item.{Item}
use Rattle.cap_base.specs.declared.item.Item.TheVariants.{Sale, Void, Cancel, Close}
use Rattle.cap_leaf.specs.Schema.{Content, Table, leaf, all, one_of, end, row}
use Rattle.cap_leaf.specs.Trees.{Data, Children, value, branch, none, child}
use Rattle.cap_leaf.specs.declared.header.Refused.{Refused}
use Rattle.cap_leaf.specs.declared.kinds.Kind.TheVariants.{Caaa009, Caaa010, Caaa011, Caaa012, Caaa013, Caaa014, Caaa015}
use Rattle.cap_leaf.specs.declared.kinds.LeafKind.TheVariants as kind
use Rattle.cap_leaf.specs.declared.leaf.Leaf.TheVariants as leaf_of
use Rattle.cap_trees.specs.Tables.{totals, sale, void, cancel, period, item, response, last_item, rejection}
use Rattle.cap_trees.specs.Fits.{Fits, FitsRows, FitsRow, in_order, a_choice, no_row, this_row, other_row}
use Rattle.cap_fields.specs.Codes.{response_code, reason_code}
use Rattle.cap_fields.specs.Fields.{record_of, maybe_num, repeated}
use Rattle.cap_fields.specs.Refused.{in_digits, in_digits_if, is_refused, refused_tree}
use Rattle.cap_fields.specs.Sales.{chosen}
use Rattle.cap_batch_msgs.specs.declared.body.BatchBody.{BatchBody}
use Rattle.cap_batch_msgs.specs.declared.body.BatchBody.TheVariants.{Reconcile, ReconcileAnswer, Batch, BatchAnswer, Diagnostic, DiagnosticAnswer, Rejection}
use Rattle.cap_batch_msgs.specs.Items.{IsBatch}
use Rattle.cap_batch_msgs.specs.Bodies.{batch_kind, is_totals, is_item, is_batch_body, totals_tree, period_tree, item_tree, batch_body_tree}
use Rattle.cap_batch_msgs.specs.Shapes.{HasBatchShape, HasFewItems}
use Rattle.cap_msgs.specs.Shapes.{FitsBody}
use Rattle.cap_msgs.proofs.Inverts.{once_in, maybe_in, ends, chain, put, put_maybe, skip, and_join, both, many_in, put_many, IsTree, all_trees, all_fit, map_length}
use Rattle.cap_msgs.proofs.LeafShapes.{num_in, sum_in, response_in, reason_in, num_10, sum_fits, response_fits, reason_fits}
use Rattle.cap_msgs.proofs.SaleShapes.{sale_in, sale_fits, void_in, void_fits, cancel_in, cancel_fits}

totals_in : {d : Data} → Fits (all totals) d → (t : Totals) × (d ≡ totals_tree t) × (is_totals t ≡ true)
totals_in (in_order r) =
    let a = once_in (omega arith) (omega arith) r in
    let b = once_in (omega arith) (omega arith) a.left in
    let c = once_in (omega arith) (omega arith) b.left in
    let e = once_in (omega arith) (omega arith) c.left in
    let x = num_in a.fits in
    let y = sum_in b.fits in
    let z = num_in c.fits in
    let w = sum_in e.fits in (
      record { sales = x.0; sales_sum = y.0; cancels = z.0; cancels_sum = w.0 },
      ap branch (chain a.is x.1 (chain b.is y.1 (chain c.is z.1 (chain e.is w.1 (ends e.left))))),
      and_join (in_digits 10 x.0) _ x.2 (and_join (in_digits 19 y.0) _ y.2 (and_join (in_digits 10 z.0) _ z.2 w.2)),
    )

totals_fits : (t : Totals) → is_totals t ≡ true → Fits (all totals) (totals_tree t)
totals_fits t h =
    let p = both (in_digits 10 t.sales) _ h in
    let q = both (in_digits 19 t.sales_sum) _ p.1 in
    let s = both (in_digits 10 t.cancels) _ q.1 in
    in_order (put (num_10 t.sales p.0) (put (sum_fits t.sales_sum q.0) (put (num_10 t.cancels s.0) (put (sum_fits t.cancels_sum s.1) no_row))))

period_in : {d : Data} → Fits (all period) d → (p : ℕ) × (t : Totals) × (d ≡ period_tree p t) × ((in_digits 10 p && is_totals t) ≡ true)
period_in (in_order r) =
    let a = once_in (omega arith) (omega arith) r in
    let b = once_in (omega arith) (omega arith) a.left in
    let x = num_in a.fits in
    let y = totals_in b.fits in
    (x.0, y.0, ap branch (chain a.is x.1 (chain b.is y.1 (ends b.left))), and_join (in_digits 10 x.0) (is_totals y.0) x.2 y.2)

period_fits : (p : ℕ) (t : Totals) → (in_digits 10 p && is_totals t) ≡ true → Fits (all period) (period_tree p t)
period_fits p t h = let q = both (in_digits 10 p) (is_totals t) h in in_order (put (num_10 p q.0) (put (totals_fits t q.1) no_row))

item_in : (d : Data) → Fits (one_of item) d → IsTree item_tree is_item d
item_in _ (a_choice (this_row f)) = let s = sale_in f in record { item = Sale s.n s.amount s.account s.code; is = ap (chosen 0) s.is; pass = s.range }
item_in _ (a_choice (other_row (this_row f))) = let v = void_in f in record { item = Void v.0; is = ap (chosen 1) v.1; pass = v.2 }
item_in _ (a_choice (other_row (other_row (this_row f)))) = let c = cancel_in f in record { item = Cancel c.0 c.1; is = ap (chosen 2) c.2; pass = c.3 }
item_in _ (a_choice (other_row (other_row (other_row (this_row f))))) = let p = period_in f in record { item = Close p.0 p.1; is = ap (chosen 3) p.2; pass = p.3 }
item_in _ (a_choice (other_row (other_row (other_row (other_row r))))) = elim r [ ]

item_fits : (x : Item) → is_item x ≡ true → Fits (one_of item) (item_tree x)
item_fits (Sale n amount account code) h = a_choice (this_row (sale_fits n amount account code h))
item_fits (Void n) h = a_choice (other_row (this_row (void_fits n h)))
item_fits (Cancel n amount) h = a_choice (other_row (other_row (this_row (cancel_fits n amount h))))
item_fits (Close p t) h = a_choice (other_row (other_row (other_row (this_row (period_fits p t h)))))

-- ---- why a message was rejected

pub record IsRejection (d : Data) : Type 0 where
  pub refused : Refused
  pub is : d ≡ refused_tree refused
  pub range : is_refused refused ≡ true

-- a number that may stand, the last of its table
pub record IsMaybe (at : ℕ) (cs : Children) : Type 0 where
  pub number : Option ℕ
  pub range : in_digits_if 10 number ≡ true
  pub is : cs ≡ maybe_num at number none

place_in : {at : ℕ} {cs : Children} → FitsRows (row (codes "FltPlc") 0 1 (leaf (kind.Num 10)) end) at 0 cs → IsMaybe at cs
place_in r =
    elim (maybe_in (omega arith) r) [
      | inl a ↦ (let n = num_in a.fits in record { number = Some n.0; range = n.2; is = chain a.is n.1 (ends a.left) })
      | inr e ↦ record { number = None; range = refl; is = ends e }
    ]

pub rejection_in : {d : Data} → Fits (all rejection) d → IsRejection d
rejection_in (in_order r) =
    let a = once_in (omega arith) (omega arith) r in
    let x = reason_in a.fits in
    elim (maybe_in (omega arith) a.left) [
      | inl b ↦ (let n = num_in b.fits in let p = place_in b.left in record {
        refused = record { reason = x.0; expected = Some n.0; place = p.number };
        is = ap branch (chain a.is x.1 (chain b.is n.1 p.is));
        range = and_join (in_digits 10 n.0) (in_digits_if 10 p.number) n.2 p.range;
      })
      | inr l ↦ (let p = place_in l in record {
        refused = record { reason = x.0; expected = None; place = p.number };
        is = ap branch (chain a.is x.1 p.is);
        range = p.range;
      })
    ]

place_fits : (at : ℕ) (o : Option ℕ) → in_digits_if 10 o ≡ true → FitsRows (row (codes "FltPlc") 0 1 (leaf (kind.Num 10)) end) at 0 (maybe_num at o none)
place_fits at None h = skip no_row
place_fits at (Some n) h = put_maybe (num_10 n h) no_row

numbers_fit : (o p : Option ℕ) → in_digits_if 10 o ≡ true → in_digits_if 10 p ≡ true
    → FitsRows (row (codes "XpctdItm") 0 1 (leaf (kind.Num 10)) (row (codes "FltPlc") 0 1 (leaf (kind.Num 10)) end)) 1 0 (maybe_num 1 o (maybe_num 2 p none))
numbers_fit None p h g = skip (place_fits 2 p g)
numbers_fit (Some n) p h g = put_maybe (num_10 n h) (place_fits 2 p g)

pub rejection_fits : (r : Refused) → is_refused r ≡ true → Fits (all rejection) (refused_tree r)
rejection_fits r h = let p = both (in_digits_if 10 r.expected) (in_digits_if 10 r.place) h in in_order (put (reason_fits r.reason) (numbers_fit r.expected r.place p.0 p.1))

-- ---- the bodies

pub batch_009 : (d : Data) → FitsBody Caaa009 d → HasBatchShape Caaa009 d
batch_009 d f = let x = period_in f in record { body = Reconcile x.0 x.1; kind = refl; range = x.3; few = tt; is = x.2 }

pub batch_010 : (d : Data) → FitsBody Caaa010 d → HasBatchShape Caaa010 d
batch_010 _ (in_order r) =
    let a = once_in (omega arith) (omega arith) r in
    let b = once_in (omega arith) (omega arith) a.left in
    let c = once_in (omega arith) (omega arith) b.left in
    let x = response_in a.fits in
    let y = num_in b.fits in
    let z = totals_in c.fits in
    record {
      body = ReconcileAnswer x.0 y.0 z.0;
      kind = refl;
      range = and_join (in_digits 10 y.0) (is_totals z.0) y.2 z.2;
      few = tt;
      is = ap branch (chain a.is x.1 (chain b.is y.1 (chain c.is z.1 (ends c.left))));
    }

pub batch_011 : (d : Data) → FitsBody Caaa011 d → HasBatchShape Caaa011 d
batch_011 _ (in_order r) =
    let m = many_in (omega arith) r in
    let x = all_trees item_tree is_item (one_of item) item_in m.trees m.fits in
    record {
      body = Batch x.items;
      kind = refl;
      range = x.pass;
      few = record { some = omega (arith, m.some, x.many); few = omega (arith, m.few, x.many) };
      is = ap branch (m.is ∙ ap (repeated 0) x.are);
    }

last_in : {d : Data} → Fits (all (response last_item)) d → (r : Response) × (n : ℕ) × (d ≡ record_of (response_code r ∷ leaf_of.Num n ∷ [])) × (in_digits 10 n ≡ true)
last_in (in_order r) =
    let a = once_in (omega arith) (omega arith) r in
    let b = once_in (omega arith) (omega arith) a.left in
    let x = response_in a.fits in
    let y = num_in b.fits in
    (x.0, y.0, ap branch (chain a.is x.1 (chain b.is y.1 (ends b.left))), y.2)

pub batch_012 : (d : Data) → FitsBody Caaa012 d → HasBatchShape Caaa012 d
batch_012 d f = let x = last_in f in record { body = BatchAnswer x.0 x.1; kind = refl; range = x.3; few = tt; is = x.2 }

pub batch_013 : (d : Data) → FitsBody Caaa013 d → HasBatchShape Caaa013 d
batch_013 _ (in_order r) =
    let a = once_in (omega arith) (omega arith) r in
    let x = num_in a.fits in
    record { body = Diagnostic x.0; kind = refl; range = x.2; few = tt; is = ap branch (chain a.is x.1 (ends a.left)) }

pub batch_014 : (d : Data) → FitsBody Caaa014 d → HasBatchShape Caaa014 d
batch_014 d f = let x = last_in f in record { body = DiagnosticAnswer x.0 x.1; kind = refl; range = x.3; few = tt; is = x.2 }

pub batch_015 : (d : Data) → FitsBody Caaa015 d → HasBatchShape Caaa015 d
batch_015 d f = let x = rejection_in f in record { body = Rejection x.refused; kind = refl; range = x.range; few = tt; is = x.is }

items_fit : (xs : List Item) → IsBatch xs → list_all is_item xs ≡ true → FitsBody Caaa011 (branch (repeated 0 (map item_tree xs)))
items_fit xs few h =
    let n = map_length item_tree xs in
    in_order (put_many (map item_tree xs) (all_fit item_tree is_item (one_of item) item_fits xs h) (omega (arith, few.some, n)) (omega (arith, few.few, n)))

pub batch_body_fits : (b : BatchBody) → is_batch_body b ≡ true → HasFewItems b → FitsBody (batch_kind b) (batch_body_tree b)
batch_body_fits (Reconcile p t) h few = period_fits p t h
batch_body_fits (ReconcileAnswer r p t) h few =
    let q = both (in_digits 10 p) (is_totals t) h in
    in_order (put (response_fits r) (put (num_10 p q.0) (put (totals_fits t q.1) no_row)))
batch_body_fits (Batch xs) h few = items_fit xs few h
batch_body_fits (BatchAnswer r n) h few = in_order (put (response_fits r) (put (num_10 n h) no_row))
batch_body_fits (Diagnostic n) h few = in_order (put (num_10 n h) no_row)
batch_body_fits (DiagnosticAnswer r n) h few = in_order (put (response_fits r) (put (num_10 n h) no_row))
batch_body_fits (Rejection refused) h few = rejection_fits refused h
