use Rattle.std.proofs.Common.{arith}
use Rattle.judge.specs.Row.Attribute.{unpack-attribute}
use Rattle.judge.proofs.attribute.attribute_word.Goals as goal

pub returns : goal.returns
returns c = rw (c.from.ensures, c.from-2.ensures, c.from-3.ensures, c.from-4.ensures) (unpack-attribute c.args.x (omega arith) (omega arith))
