use Rattle.std.proofs.Common.{arith}
use Rattle.judge.specs.Packed.{unpack}
use Rattle.judge.proofs.packed.packed_atom.Goals as goal

pub returns-in-Number : goal.returns-in-Number
returns-in-Number c =
    rw (c.packed.ensures, c.in-Number.is) (unpack 1 c.args.min c.in-Number.n (omega arith) (omega arith) (omega arith))

pub returns-in-Unbounded : goal.returns-in-Unbounded
returns-in-Unbounded c =
    rw (c.packed-in-Unbounded.ensures, c.in-Unbounded.is) (unpack 2 c.args.min 0 (omega arith) (omega arith) (omega arith))
