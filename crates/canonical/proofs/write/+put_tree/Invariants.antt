use Rattle.std.proofs.Common.{◌-◌}
use Rattle.canonical.specs.Writer.Written.{Writing}
use Rattle.canonical.proofs.write.+put_tree.Given as goal

-- the members of a group stand at higher places of the stack than its head
abbrev pub decreases-put_tree : goal.decreases-put_tree
decreases-put_tree l = 128 - l.at

abbrev pub invariant-loop-k : goal.invariant-loop-k
invariant-loop-k l = Writing l.text l.stack l.initial.list l.list l.initial.buffer l.buffer l.at l.start l.end l.to l.before l.p l.k
