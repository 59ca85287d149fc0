-- Evaluated holds behind each node, of the attributes in the places of nodes; before it the nodes stand as at the start, and so does what is seen; within
-- a node, x is the attribute by the members passed.
use mathlib.Core.{Path.◌≡◌, List.map}
use Rattle.std.proofs.Common.{◌-◌, ◌≤◌, take, drop, get_or, ◌==◌}
use Rattle.fields.specs.Limits.{max_atoms, max_nodes}
use Rattle.judge.specs.{Packed.node_in, Packed.seen_in, Row.Tally.seen_of}
use Rattle.judge.specs.Row.{Attribute.attribute_in, Attribute.attribute_by, Root.part_attribute, Stack.Standing, Stack.Evaluated}
use Rattle.judge.proofs.row.root.Given as goal

abbrev pub invariant-loop-i : goal.invariant-loop-i
invariant-loop-i l = record {
  room : l.i ≤ l.top;
  within : l.top ≤ max_nodes;
  few : l.name ≤ max_atoms;
  standing : Standing l.fn.words l.words l.i;
  evaluated : Evaluated (attribute_by l.read.children (λ k. seen_of l.read.children (get_or (seen_in l.fn.words) k 0)))
      (map node_in (take l.read.nodes l.fn.words)) l.i (map attribute_in (take max_nodes l.words)) l.top l.name;
}

abbrev pub invariant-loop-at : goal.invariant-loop-at
invariant-loop-at l = record {
  is_first : l.first ≡ (l.at == l.top);
  passed : l.x ≡ part_attribute l.read.children l.kind (seen_of l.read.children (get_or (seen_in l.words) l.name 0))
      (take (l.at - l.top) (drop l.top (map attribute_in (take max_nodes l.words))));
}
