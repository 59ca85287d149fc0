-- The nodes before place i are packed, and behind the nodes their upper counts are known.
use mathlib.Core.{Path.◌≡◌}
use Rattle.std.proofs.Common.{◌+◌, take}
use Rattle.fields.specs.Limits.{max_nodes}
use Rattle.model.specs.{Model.atoms_in, Rule.used}
use Rattle.judge.specs.{Packed.node_in, Reading.Buffer.Stores, Row.Tally.limits_in}
use Rattle.judge.proofs.packed.pack.Given as goal

abbrev pub invariant-loop-i : goal.invariant-loop-i
invariant-loop-i l = record {
  place_is : l.place ≡ max_nodes + atoms_in (take l.i (used l.rule));
  stored : Stores node_in max_nodes (limits_in (take l.i (used l.rule))) l.words l.i (take l.i (used l.rule));
}
