-- behind i nodes, the node is found among the rest, with the names passed taken off
use Rattle.std.proofs.Common.{◌≡◌, ◌<◌}
use Rattle.model.specs.{Rule.used, Rule.node_of_name, Rule.Numbers.node_behind}
use Rattle.model.proofs.nodes.node_of_name.Given as goal

abbrev pub invariant-loop-i : goal.invariant-loop-i
invariant-loop-i l = let r = l.fn.rule in
    (l.node-items ≡ used r) × (0 < l.left) × (node_behind r l.i l.left ≡ node_of_name r l.fn.name.0)
