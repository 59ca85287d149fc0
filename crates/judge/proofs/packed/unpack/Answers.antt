use Rattle.std.proofs.Common.{arith}
use Rattle.fields.specs.Limits.{max_nodes}
use Rattle.model.specs.Rule.{unused}
use Rattle.judge.specs.{Packed.node_in, Reading.Filled.fill-turn}
use Rattle.judge.proofs.packed.unpack.Goals as goal

pub loop-i-preserved : goal.loop-i-preserved
loop-i-preserved c = rw (c.loop-i.invariant, c.unpacked.ensures) (fill-turn node_in unused c.args.words.now max_nodes c.loop-i.i 0 (omega arith) (omega arith))
