use Rattle.std.proofs.Common.{◌≡◌, ◌+◌, ◌<◌, ◌≤◌, sym, refl, arith, rules}
use lib.{ListN.length, ListN.take, Seq.get_or-take, Seq.length-take-le}
use Rattle.fields.specs.{Stack.unmapped, Limits.max_nodes, Limits.max_atoms}
use Rattle.model.specs.declared.rule.{Kind.TheVariants.Atom, Upper.TheVariants.Number, Mark.TheVariants.Plain, Node.Node}
use Rattle.model.specs.{Model.atoms_in, Rule.used}
use Rattle.judge.specs.Row.Tally.Limits.{limits-none, place-turn, limits-turn}
use Rattle.judge.proofs.packed.pack.Goals as goal
use Rattle.judge.proofs.packed.pack.Goals.{After-atoms_of-place, After-limited, Start}

pub loop-i-init : goal.loop-i-init
loop-i-init c = record { place_is = refl; stored = rw limits-none (record { whole = c.requires.2.0; behind = c.requires.2.1; few = omega arith; held = refl }) }

-- what an array of nodes has past its end
abbrev blank : Node
blank = record { kind = Atom 0 (Number 0); mark = Plain }

long : (c : After-atoms_of-place) → length c.args.rule.nodes ≡ max_nodes
long c = search (rules, unmapped)

inside : (c : After-atoms_of-place) → c.loop-i.i < length (used c.args.rule)
inside c = omega (arith, length-take-le c.args.rule.len c.args.rule.nodes (omega (arith, long c)))

placed : (c : After-atoms_of-place)
    → (c.loop-i.place + c.atoms_of-place.result ≡ max_nodes + atoms_in (take (c.loop-i.i + 1) (used c.args.rule)))
    × (c.loop-i.place + c.atoms_of-place.result ≤ max_nodes + max_atoms)
placed c =
    let r = c.args.rule in
    place-turn (used r) c.loop-i.i blank (inside c) c.requires.1 (sym (get_or-take r.len r.nodes c.loop-i.i blank c.loop-i-test.true))
    c.loop-i.invariant.place_is c.atoms_of-place.ensures.0

pub overflow_add-place : goal.overflow_add-place
overflow_add-place c = omega (arith, (placed c).1)

pub offset_bounds-words-place : goal.offset_bounds-words-place
offset_bounds-words-place c = omega (arith, (placed c).1)

pub bounds-words-place : goal.bounds-words-place
bounds-words-place c = omega (arith, (placed c).1)

pub offset_bounds-words-place-in-loop-i : goal.offset_bounds-words-place-in-loop-i
offset_bounds-words-place-in-loop-i c = omega (arith, (placed c.before.before).1)

pub bounds-words-place-in-loop-i : goal.bounds-words-place-in-loop-i
bounds-words-place-in-loop-i c = omega (arith, (placed c.before.before).1)

pub loop-i-preserved : goal.loop-i-preserved
loop-i-preserved c =
    let r = c.args.rule in
    record {
      place_is = (placed c.before.before).0;
      stored = limits-turn (used r) c.loop-i.i blank (inside c.before.before) c.requires.1 (sym (get_or-take r.len r.nodes c.loop-i.i blank c.loop-i-test.true))
          c.loop-i.invariant.place_is c.atoms_of-place.ensures.0
          c.loop-i.words c.packed_node.result (omega arith) c.packed_node.ensures c.limited.ensures c.loop-i.invariant.stored;
    }
