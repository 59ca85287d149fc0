use Rattle.judge.proofs.NextCode.{Found}
use Rattle.judge.proofs.next.size.Given as goal

abbrev pub invariant-loop-name : goal.invariant-loop-name
invariant-loop-name l = Found l.set l.n l.name l.found
