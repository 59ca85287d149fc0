-- Number by number.
use Rattle.std.proofs.Common.{◌≡◌, ◌&&◌, drop}
use Rattle.judge.specs.Row.{upto}
use Rattle.judge.proofs.row.all_named.Given as goal

abbrev pub invariant-loop-name : goal.invariant-loop-name
invariant-loop-name l = upto l.names l.row ≡ (l.named && upto l.names (drop l.name-index l.row))
