-- As in row::root, of attributes in the places of nodes and sets beside them; within a node, x is what is ahead of it by the members passed.
use mathlib.Core.{Path.◌≡◌, List.map}
use Rattle.std.proofs.Common.{◌-◌, ◌≤◌, take, drop, get_or}
use Rattle.fields.specs.Limits.{max_atoms, max_nodes}
use Rattle.judge.specs.{Packed.node_in, Packed.seen_in, Row.Tally.seen_of}
use Rattle.judge.specs.{Next.Ahead.ahead_by, Next.Ahead.part_ahead, Next.Ahead.Laws.aheads_in, Row.Stack.Standing, Row.Stack.Evaluated}
use Rattle.judge.proofs.next.root_next.Given as goal

abbrev pub invariant-loop-i : goal.invariant-loop-i
invariant-loop-i l = record {
  room : l.i ≤ l.top;
  within : l.top ≤ max_nodes;
  few : l.name ≤ max_atoms;
  standing : Standing l.fn.words l.words l.i;
  evaluated : Evaluated (ahead_by l.read.children (λ k. seen_of l.read.children (get_or (seen_in l.fn.words) k 0)))
      (map node_in (take l.read.nodes l.fn.words)) l.i (aheads_in (take max_nodes l.words) l.sets) l.top l.name;
}

abbrev pub invariant-loop-at : goal.invariant-loop-at
invariant-loop-at l =
    l.x ≡ part_ahead l.read.children l.kind l.name (seen_of l.read.children (get_or (seen_in l.words) l.name 0))
    (take (l.at - l.top) (drop l.top (aheads_in (take max_nodes l.words) l.sets)))
