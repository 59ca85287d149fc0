use Rattle.std.proofs.Common.{arith}
use Rattle.judge.proofs.NextCode.{found_none, found-by, found-few, found-all}
use Rattle.judge.proofs.next.size.Goals as goal

pub loop-name-init : goal.loop-name-init
loop-name-init c = found_none _ _

pub overflow_add-found : goal.overflow_add-found
overflow_add-found c =
    let k = found-by c.loop-name.invariant (omega arith) _ c.is_in.ensures (omega arith) in
    rw c.from-found.ensures (omega (arith, found-few k (omega arith)))

pub loop-name-preserved : goal.loop-name-preserved
loop-name-preserved c = rw c.from-found.ensures (found-by c.loop-name.invariant (omega arith) _ c.is_in.ensures (omega arith))

pub returns : goal.returns
returns c = found-all c.loop-name.invariant (omega arith) (omega arith)

pub returns-2 : goal.returns-2
returns-2 c =
    let k = found-by c.loop-name.invariant (omega arith) _ c.is_in.ensures (omega arith) in
    rw c.from-found.ensures (found-all k (omega arith) (omega arith))
