use Rattle.std.proofs.Common.{arith, add-one}
use Rattle.sheet.specs.Cues.Laws.{value-more, limit-small}
use Rattle.sheet.proofs.cues.value_of.Goals as goal

pub overflow_mul-number : goal.overflow_mul-number
overflow_mul-number c = omega (arith, limit-small c.loop-digit.digit-index (omega arith))

pub loop-digit-preserved : goal.loop-digit-preserved
loop-digit-preserved c = (omega (arith, value-more c.args.digits.now c.loop-digit.digit-index c.loop-digit-test.true), rw add-one (omega arith))
