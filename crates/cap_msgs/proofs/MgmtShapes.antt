-- The bodies of messages of terminal management that fit.
use Rattle.std.proofs.Common.{ℕ, suc, ◌+◌, ◌<◌, ◌≤◌, ◌≡◌, Bool, true, false, List, [], ◌∷◌, length, refl, sym, ap, ◌∙◌, arith, subst}
use Rattle.std.specs.Prelude.{◌&&◌, map}
use Rattle.std.specs.List.{list_all}
use Rattle.cap_base.specs.Rows.{IsPartRows}
use Rattle.cap_base.specs.declared.parameters.Row.{Row}
use Rattle.cap_base.specs.declared.parameters.ConfigPart.{ConfigPart}
use Rattle.cap_leaf.specs.Schema.{Content, Table, leaf, all, one_of, end, row}
use Rattle.cap_leaf.specs.Trees.{Data, Children, value, branch, none, child}
use Rattle.cap_leaf.specs.declared.kinds.Kind.TheVariants.{Catm001, Catm002, Catm003, Catm004}
use Rattle.cap_trees.specs.Tables.{action, pair}
use Rattle.cap_trees.specs.Fits.{Fits, FitsRows, in_order, no_row}
use Rattle.cap_fields.specs.Fields.{repeated}
use Rattle.cap_fields.specs.Refused.{in_digits}
use Rattle.cap_mgmt_msgs.specs.declared.actions.Action.{Action}
use Rattle.cap_mgmt_msgs.specs.declared.body.MgmtBody.{MgmtBody}
use Rattle.cap_mgmt_msgs.specs.declared.body.MgmtBody.TheVariants.{Status, Plan, Part, ManagementRejection}
use Rattle.cap_mgmt_msgs.specs.Actions.{IsPlan}
use Rattle.cap_mgmt_msgs.specs.Bodies.{mgmt_kind, is_wanted, is_action, is_part, is_mgmt_body, action_tree, row_tree, part_tree, mgmt_body_tree}
use Rattle.cap_mgmt_msgs.specs.Shapes.{HasMgmtShape, HasFewParts}
use Rattle.cap_msgs.specs.Shapes.{FitsBody}
use Rattle.cap_msgs.proofs.Inverts.{once_in, ends, chain, put, and_join, both, many_in, put_many, IsTree, all_trees, all_fit, map_length}
use Rattle.cap_msgs.proofs.LeafShapes.{num_in, date_in, ident_in, wanted_in, set_in, act_in, num_10, num_6, num_3, date_fits, ident_fits, wanted_fits, set_fits, act_fits}
use Rattle.cap_msgs.proofs.BatchShapes.{rejection_in, rejection_fits}

action_in : (d : Data) → Fits (all action) d → IsTree action_tree is_action d
action_in _ (in_order r) =
    let a = once_in (omega arith) (omega arith) r in
    let b = once_in (omega arith) (omega arith) a.left in
    let c = once_in (omega arith) (omega arith) b.left in
    let e = once_in (omega arith) (omega arith) c.left in
    let x = act_in a.fits in
    let y = set_in b.fits in
    let z = date_in c.fits in
    let w = num_in e.fits in
    record {
      item = record { act = x.0; set = y.0; start = z.0; minutes = w.0 };
      is = ap branch (chain a.is x.1 (chain b.is y.1 (chain c.is z.1 (chain e.is w.1 (ends e.left)))));
      pass = w.2;
    }

action_fits : (a : Action) → is_action a ≡ true → Fits (all action) (action_tree a)
action_fits a h = in_order (put (act_fits a.act) (put (set_fits a.set) (put (date_fits a.start) (put (num_6 a.minutes h) no_row))))

row_in : (d : Data) → Fits (all pair) d → IsTree row_tree (λ r. true) d
row_in _ (in_order r) =
    let a = once_in (omega arith) (omega arith) r in
    let b = once_in (omega arith) (omega arith) a.left in
    let x = ident_in a.fits in
    let y = ident_in b.fits in
    record { item = record { key = x.0; value = y.0 }; is = ap branch (chain a.is x.1 (chain b.is y.1 (ends b.left))); pass = refl }

row_fits : (r : Row) → Fits (all pair) (row_tree r)
row_fits r = in_order (put (ident_fits r.key) (put (ident_fits r.value) no_row))

all_true : (xs : List Row) → list_all (λ r. true) xs ≡ true
all_true [] = refl
all_true (x ∷ xs) = all_true xs

-- ---- the bodies

pub mgmt_001 : (d : Data) → FitsBody Catm001 d → HasMgmtShape Catm001 d
mgmt_001 _ (in_order r) =
    let a = once_in (omega arith) (omega arith) r in
    let b = once_in (omega arith) (omega arith) a.left in
    let c = once_in (omega arith) (omega arith) b.left in
    let e = once_in (omega arith) (omega arith) c.left in
    let x = wanted_in a.fits in
    let y = num_in b.fits in
    let z = num_in c.fits in
    let w = num_in e.fits in
    record {
      body = Status x.0 y.0 z.0 w.0;
      kind = refl;
      range = and_join (is_wanted x.0) _ x.2 (and_join (in_digits 10 y.0) _ y.2 (and_join (in_digits 10 z.0) _ z.2 w.2));
      few = tt;
      is = ap branch (chain a.is x.1 (chain b.is y.1 (chain c.is z.1 (chain e.is w.1 (ends e.left)))));
    }

pub mgmt_002 : (d : Data) → FitsBody Catm002 d → HasMgmtShape Catm002 d
mgmt_002 _ (in_order r) =
    let m = many_in (omega arith) r in
    let x = all_trees action_tree is_action (all action) action_in m.trees m.fits in
    record {
      body = Plan x.items;
      kind = refl;
      range = x.pass;
      few = record { some = omega (arith, m.some, x.many); few = omega (arith, m.few, x.many) };
      is = ap branch (m.is ∙ ap (repeated 0) x.are);
    }

pub mgmt_003 : (d : Data) → FitsBody Catm003 d → HasMgmtShape Catm003 d
mgmt_003 _ (in_order r) =
    let a = once_in (omega arith) (omega arith) r in
    let b = once_in (omega arith) (omega arith) a.left in
    let c = once_in (omega arith) (omega arith) b.left in
    let x = num_in a.fits in
    let y = num_in b.fits in
    let z = num_in c.fits in
    let m = many_in (omega arith) c.left in
    let w = all_trees row_tree (λ r. true) (all pair) row_in m.trees m.fits in
    record {
      body = Part record { version = x.0; part = y.0; parts = z.0; rows = w.items };
      kind = refl;
      range = and_join (in_digits 10 x.0) _ x.2 (and_join (in_digits 3 y.0) _ y.2 z.2);
      few = record { some = omega (arith, m.some, w.many); few = omega (arith, m.few, w.many) };
      is = ap branch (chain a.is x.1 (chain b.is y.1 (chain c.is z.1 (m.is ∙ ap (repeated 3) w.are))));
    }

pub mgmt_004 : (d : Data) → FitsBody Catm004 d → HasMgmtShape Catm004 d
mgmt_004 d f = let x = rejection_in f in record { body = ManagementRejection x.refused; kind = refl; range = x.range; few = tt; is = x.is }

plan_fits : (xs : List Action) → IsPlan xs → list_all is_action xs ≡ true → FitsBody Catm002 (branch (repeated 0 (map action_tree xs)))
plan_fits xs few h =
    let n = map_length action_tree xs in
    in_order (put_many (map action_tree xs) (all_fit action_tree is_action (all action) action_fits xs h) (omega (arith, few.some, n)) (omega (arith, few.few, n)))

part_fits : (p : ConfigPart) → IsPartRows p.rows → is_part p ≡ true → FitsBody Catm003 (part_tree p)
part_fits p few h =
    let n = map_length row_tree p.rows in
    let q = both (in_digits 10 p.version) _ h in
    let s = both (in_digits 3 p.part) (in_digits 3 p.parts) q.1 in
    in_order (put (num_10 p.version q.0) (put (num_3 p.part s.0) (put (num_3 p.parts s.1)
    (put_many (map row_tree p.rows) (all_fit row_tree (λ r. true) (all pair) (λ r e. row_fits r) p.rows (all_true p.rows)) (omega (arith, few.some, n)) (omega (arith, few.few, n))))))

pub mgmt_body_fits : (b : MgmtBody) → is_mgmt_body b ≡ true → HasFewParts b → FitsBody (mgmt_kind b) (mgmt_body_tree b)
mgmt_body_fits (Status wanted in_force staged parts) h few =
    let p = both (is_wanted wanted) _ h in
    let q = both (in_digits 10 in_force) _ p.1 in
    let s = both (in_digits 10 staged) (in_digits 3 parts) q.1 in
    in_order (put (wanted_fits wanted p.0) (put (num_10 in_force q.0) (put (num_10 staged s.0) (put (num_3 parts s.1) no_row))))
mgmt_body_fits (Plan xs) h few = plan_fits xs few h
mgmt_body_fits (Part part) h few = part_fits part few h
mgmt_body_fits (ManagementRejection refused) h few = rejection_fits refused h
