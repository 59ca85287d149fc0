-- the nodes from i on are sound, and make so many trees
use Rattle.std.proofs.Common.{◌≡◌, true, ◌≤◌, ◌+◌, length, drop}
use Rattle.model.specs.{Model.trees_in, Check.sound}
use Rattle.model.proofs.check.is_one_tree.Given as goal

abbrev pub invariant-loop-i : goal.invariant-loop-i
invariant-loop-i l =
    (l.trees + l.i ≤ length l.nodes) × (sound (drop l.i l.nodes) ≡ true) × (l.trees ≡ trees_in (drop l.i l.nodes))
