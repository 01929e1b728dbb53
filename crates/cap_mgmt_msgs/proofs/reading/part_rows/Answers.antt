use Rattle.std.proofs.Common.{◌≡◌, Some, sym, ap, ◌∙◌}
use Rattle.cap_leaf.specs.Trees.{children_view, data_of}
use Rattle.cap_fields.specs.Fields.{all_among}
use Rattle.cap_mgmt_msgs.specs.Reading.{row_in}
use Rattle.cap_mgmt_msgs.proofs.Parts.{three_at_least, rows_are_some, rows_found, rows_are_few, is_given}
use Rattle.cap_mgmt_msgs.proofs.reading.part_rows.Goals as goal

pub behind-rest-requires : goal.behind-rest-requires
behind-rest-requires c = three_at_least (data_of c.args.tree.now) c.children_of-children.result.now c.requires c.children_of-children.ensures

pub rows-requires : goal.rows-requires
rows-requires c = rw c.behind-rest.ensures (rows_are_some (data_of c.args.tree.now) c.children_of-children.result.now c.requires c.children_of-children.ensures)

pub unwrap-requires : goal.unwrap-requires
unwrap-requires c =
    c.new.ensures.exact.1 (rows_are_few (data_of c.args.tree.now) c.in_ok-found.found.items c.requires
    (rows_found (data_of c.args.tree.now) c.children_of-children.result.now c.in_ok-found.found.items c.children_of-children.ensures
    (ap (λ l. all_among row_in (children_view l)) (sym c.behind-rest.ensures) ∙ c.in_ok-found.ensures)))

pub returns : goal.returns
returns c =
    let e : c.new.result ≡ Some c.unwrap.result = cc in
    rows_found (data_of c.args.tree.now) c.children_of-children.result.now c.in_ok-found.found.items c.children_of-children.ensures
    (ap (λ l. all_among row_in (children_view l)) (sym c.behind-rest.ensures) ∙ c.in_ok-found.ensures)
    ∙ ap (λ l. Some l) (is_given c.new.result c.unwrap.result c.in_ok-found.found.items c.new.ensures.value e)
