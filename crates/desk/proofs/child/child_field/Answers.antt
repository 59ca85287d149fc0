-- The part that is reached.
use Rattle.std.proofs.Common.{◌≡◌, Ok, sym}
use Rattle.desk.specs.Child.Code.{asked_of, field_bounds, hands_field}
use Rattle.desk.proofs.child.child_field.Goals as goal

pub slice_bounds-result-end : goal.slice_bounds-result-end
slice_bounds-result-end c =
    let a : asked_of c.args.children.now c.args.k ≡ Ok tt = sym c.in_ok-check_child.ensures in
    (field_bounds c.args.children.now c.args.k a c.child_start-at.ensures c.part_end-end.ensures).1

pub returns-clause-part : goal.returns-clause-part
returns-clause-part c =
    let a : asked_of c.args.children.now c.args.k ≡ Ok tt = sym c.in_ok-check_child.ensures in
    hands_field c.args.children.now c.args.k a c.child_start-at.ensures c.part_end-end.ensures c.args.children.ref_ptr
