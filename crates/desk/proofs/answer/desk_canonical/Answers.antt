-- A model text is not long.
use Rattle.std.proofs.Common.{arith, length}
use Rattle.desk.specs.Desk.Laws.{length-few}
use Rattle.desk.proofs.answer.desk_canonical.Goals as goal

pub overflow_cast-result : goal.overflow_cast-result
overflow_cast-result c = omega (arith, length-few c.args.model.now (length c.args.buffer.now) c.in-Ok.length c.in-Ok.ensures.value)
