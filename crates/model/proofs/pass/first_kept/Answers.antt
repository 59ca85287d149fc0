-- The stack fits since what is kept is small.
use Rattle.std.proofs.Common.{◌≡◌, ◌∙◌, ◌-◌, ◌<◌, arith, rules, refl, take, length-take, get_or-take, sym, drop_of_length-le}
use Rattle.std.proofs.Math.Nat.{mul-le-mul_right}
use Rattle.fields.specs.Limits.{max_nodes}
use Rattle.model.specs.Rule.{unused}
use Rattle.model.specs.Model.Walk.{walked_none, walked_empty, walked-turn}
use Rattle.model.proofs.pass.first_kept.Goals as goal

pub shared_whole_as_slice-entries : goal.shared_whole_as_slice-entries
shared_whole_as_slice-entries g c = g.met.V.Kept.small

pub offset_bounds-stack-top : goal.offset_bounds-stack-top
offset_bounds-stack-top g c = let s = g.met.V.Kept.small in search (rules, mul-le-mul_right)

pub loop-i-init : goal.loop-i-init
loop-i-init g c =
    let all = g.N.Nodes.nodes c.args.nodes.now in
    let l = length-take max_nodes all in
    (omega arith, omega arith, omega arith, walked_none _ _ (drop_of_length-le (take max_nodes all) {i = c.min-i.result} (omega arith)) refl)

pub loop-i-preserved : goal.loop-i-preserved
loop-i-preserved g c =
    let v = c.loop-i in
    let all = g.N.Nodes.nodes c.args.nodes.now in
    let l = length-take max_nodes all in
    let k : v.i - 1 < max_nodes = omega arith in (
      omega arith,
      omega arith,
      omega arith,
      walked-turn g.V.Kept.of_node g.met.V.Kept.is_step (take max_nodes all) v.i
          (omega arith) v.invariant.0 (c.node-node.ensures ∙ sym (get_or-take max_nodes all (v.i - 1) unused k))
          (omega arith) v.invariant.2 c.members_of.ensures c.min.ensures c.of_node-kept.ensures
          v.invariant.3,
    )

pub offset_bounds-stack-top-then-top-lt-MAX_NODES : goal.offset_bounds-stack-top-then-top-lt-MAX_NODES
offset_bounds-stack-top-then-top-lt-MAX_NODES g c = let s = g.met.V.Kept.small in search (rules, mul-le-mul_right)

pub returns-else-top-lt-MAX_NODES : goal.returns-else-top-lt-MAX_NODES
returns-else-top-lt-MAX_NODES g c =
    let v = c.loop-i in
    let z : v.i ≡ 0 = omega arith in
    c.nothing.ensures ∙ walked_empty (rw z at v.invariant.3) _ (omega arith)
