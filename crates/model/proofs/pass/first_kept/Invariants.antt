-- Walked holds of the nodes from i on
use Rattle.std.proofs.Common.{◌≤◌, length, take, drop}
use Rattle.fields.specs.Limits.{max_nodes}
use Rattle.model.specs.{Model.Walk.Walked}
use Rattle.model.proofs.pass.first_kept.Given as goal

abbrev pub invariant-loop-i : goal.invariant-loop-i
invariant-loop-i g l =
    let nodes = take max_nodes (g.N.Nodes.nodes l.nodes) in
    (l.i ≤ length nodes) × (l.i ≤ l.top) × (l.top ≤ max_nodes) × Walked g.V.Kept.algebra (drop l.i nodes) l.stack l.top
