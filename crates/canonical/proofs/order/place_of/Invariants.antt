use Rattle.std.proofs.Common.{◌-◌}
use Rattle.canonical.specs.Writer.Lists.{Narrowed}
use Rattle.canonical.proofs.order.place_of.Given as goal

abbrev pub invariant-loop-low : goal.invariant-loop-low
invariant-loop-low l = Narrowed l.text l.stack l.list l.start l.end l.m l.low l.high

abbrev pub decreases-loop-low : goal.decreases-loop-low
decreases-loop-low l = l.high - l.low
