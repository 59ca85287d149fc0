use mathlib.Core.{Path.◌≡◌, List.◌++◌}
use Rattle.std.proofs.Common.{◌-◌, drop}
use Rattle.judge.proofs.NextCode.{Found, names_in}
use Rattle.judge.proofs.next.put_names.Given as goal

abbrev pub invariant-loop-name : goal.invariant-loop-name
invariant-loop-name l = record {
  looked : Found l.set l.n l.name l.found;
  row_is : l.row ≡ names_in l.set (l.name - 1) ++ drop l.found l.fn.row;
}
