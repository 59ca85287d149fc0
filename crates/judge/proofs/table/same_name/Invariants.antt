-- the first i bytes were compared
use Rattle.std.proofs.Common.{◌-◌}
use Rattle.judge.specs.Reading.Table.Key.{Compared}
use Rattle.judge.proofs.table.same_name.Given as goal

abbrev pub invariant-loop-i : goal.invariant-loop-i
invariant-loop-i l = Compared l.a l.b l.i

abbrev pub decreases-loop-i : goal.decreases-loop-i
decreases-loop-i l = l.last - l.i
