-- The walk stands where the child of the counter begins.
use Rattle.std.proofs.Common.{◌-◌}
use Rattle.desk.specs.Child.Code.{ChildReached}
use Rattle.desk.proofs.child.child_start.Given as goal

abbrev pub invariant-loop : goal.invariant-loop
invariant-loop l = ChildReached l.children (l.counter - 1) l.at
