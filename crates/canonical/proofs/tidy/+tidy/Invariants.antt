use Rattle.std.proofs.Common.{◌-◌, length}
use Rattle.canonical.specs.Writer.Recursion.{Looping}
use Rattle.canonical.proofs.tidy.+tidy.Given as goal

abbrev pub decreases-tidy : goal.decreases-tidy
decreases-tidy l = length l.text.now - l.at

abbrev pub invariant-loop-p : goal.invariant-loop-p
invariant-loop-p l = Looping l.text l.fn.stack l.stack l.at l.top l.p l.sign l.g

abbrev pub decreases-loop-p : goal.decreases-loop-p
decreases-loop-p l = length l.text - l.p
