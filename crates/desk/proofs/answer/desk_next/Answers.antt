-- A list has as many names as the model at most.
use Rattle.std.proofs.Common.{arith, length}
use Rattle.desk.specs.Desk.Laws.{names-few}
use Rattle.desk.proofs.answer.desk_next.Goals as goal

pub overflow_cast-result : goal.overflow_cast-result
overflow_cast-result c = omega (arith, names-few c.args.model.now c.args.children.now (length c.args.row.now) c.in-Ok.count c.in-Ok.ensures.0)
