use Rattle.judge.specs.Packed.{unpack-marked}
use Rattle.judge.proofs.packed.packed_marked.Goals as goal

pub returns : goal.returns
returns c = rw c.mark_number.ensures (unpack-marked c.args.word c.args.mark)
