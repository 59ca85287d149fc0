-- The place is that of one of the children.
use Rattle.std.proofs.Common.{arith}
use Rattle.desk.specs.Desk.Laws.{place-few}
use Rattle.desk.proofs.answer.desk_first_fault.Goals as goal

pub overflow_cast-result : goal.overflow_cast-result
overflow_cast-result c =
    let found = rw c.in-Ok-Some.field-0-is at c.in-Ok-Some.ensures in
    omega (arith, place-few c.args.model.now c.args.children.now c.in-Ok-Some.place found)
