-- The loop fills the rule from the front.
use mathlib.Core.{Path.◌≡◌}
use Rattle.fields.specs.Limits.{max_nodes}
use Rattle.model.specs.Rule.{unused}
use Rattle.judge.specs.{Packed.node_in, Reading.Filled.filled}
use Rattle.judge.proofs.packed.unpack.Given as goal

abbrev pub invariant-loop-i : goal.invariant-loop-i
invariant-loop-i l = l.rule.nodes ≡ filled node_in unused l.words max_nodes l.i
