use borrow.Author.{Tests.eq-eqb, Tests.ne_eqb}
use Rattle.std.proofs.Common.{ℕ, ◌+◌, ◌-◌, ◌<◌, arith, rules, length-take-le, get_or-drop, get_or-take}
use mathlib.Core.{Path.◌≡◌, Path.refl, Path.sym, Path.ap, Path.◌∙◌, List.List, List.map}
use lib.{ListN.take, ListN.get_or, ListN.set, ListN.length-map, ListN.get_or-map}
use lib.Seq.{take-set-lt}
use Rattle.fields.specs.{Limits.max_nodes, Stack.map-set}
use Rattle.judge.specs.declared.attribute.Attribute.{Attribute}
use Rattle.judge.specs.Packed.{node_in, seen_in, kind-node}
use Rattle.judge.specs.Reading.Buffer.{holds-own}
use Rattle.judge.specs.Row.{Attribute.attribute_in, Tally.seen_of, Root.attribute-parts}
use Rattle.judge.specs.Row.Stack.{standing-turn, part_none, part-turn, name-turn, pass-none, pass-turn, pass-top}
use Rattle.judge.proofs.row.root.Goals as goal

-- the stack in the places of nodes
abbrev stack_in : List ℕ → List Attribute
stack_in words = map attribute_in (take max_nodes words)

stack_at : (words : List ℕ) (i : ℕ) → i < max_nodes → get_or (stack_in words) i (attribute_in 0) ≡ attribute_in (get_or words i 0)
stack_at words i h = get_or-map attribute_in (take max_nodes words) i 0 ∙ ap attribute_in (get_or-take max_nodes words i 0 h)

stack_set : (words : List ℕ) (i w : ℕ) → i < max_nodes → stack_in (set words i w) ≡ set (stack_in words) i (attribute_in w)
stack_set words i w h = rw (take-set-lt max_nodes words i w h) (map-set attribute_in (take max_nodes words) i w)

pub loop-i-init : goal.loop-i-init
loop-i-init c =
    let words = c.args.words.now in
    record {
      room = search rules;
      within = search rules;
      few = search rules;
      standing = record { seen_same = refl; node_same = λ k h. refl };
      evaluated = pass-none (holds-own c.requires.whole c.requires.few)
          (length-map (take max_nodes words) attribute_in ∙ length-take-le max_nodes words c.requires.whole)
          c.requires.names_are;
    }

pub loop-at-init : goal.loop-at-init
loop-at-init c =
    let v = c.loop-i in
    let b = rw (c.seen_of-here.ensures, ← get_or-drop max_nodes v.words v.name 0) at c.begin-x.ensures in
    record {
      is_first = sym (eq-eqb v.top _ refl);
      passed = part_none (attribute-parts _ (λ k. seen_of c.args.read.children (get_or (seen_in v.words) k 0))) (stack_in v.words) v.top b;
    }

pub loop-at-preserved : goal.loop-at-preserved
loop-at-preserved c =
    let u = c.loop-at in
    let v = c.loop-i in
    let n = v.invariant.evaluated.long in
    let y = c.attribute_in.ensures ∙ sym (stack_at v.words u.at (omega arith)) in
    let g = rw (u.invariant.is_first, y) at c.grown-x.ensures in
    record {
      is_first = sym (ne_eqb (u.at + 1) v.top (λ e. omega arith));
      passed = part-turn (attribute-parts _ (λ k. seen_of c.args.read.children (get_or (seen_in v.words) k 0))) (stack_in v.words) v.top u.at _
          (omega arith) (omega arith) g u.invariant.passed;
    }

pub overflow_sub-name : goal.overflow_sub-name
overflow_sub-name c =
    let v = c.loop-i.invariant in
    let held = holds-own c.requires.whole c.requires.few in
    let read = kind-node _ c.kind_in-kind.ensures ∙ ap node_in (v.standing.node_same (c.loop-i.i - 1) (omega arith)) in
    omega (arith, c.atoms_of-name.ensures.0, name-turn held (omega arith) (omega arith) read v.evaluated.name_is)

pub loop-i-preserved : goal.loop-i-preserved
loop-i-preserved c =
    let v = c.loop-i.invariant in
    let words = c.loop-i.words in
    let place = c.min.result + c.loop-i.top - 1 in
    let z : c.loop-at.at ≡ c.min.result + c.loop-i.top = omega arith in
    let held = holds-own c.requires.whole c.requires.few in
    let read = kind-node _ c.kind_in-kind.ensures ∙ ap node_in (v.standing.node_same (c.loop-i.i - 1) (omega arith)) in
    record {
      room = omega arith;
      within = omega arith;
      few = omega arith;
      standing = standing-turn v.standing place _ (omega arith) (omega arith);
      evaluated = rw (stack_set words place c.attribute_word.result (omega arith), c.attribute_word.ensures)
          (pass-turn (attribute-parts _ (λ k. seen_of c.args.read.children (get_or (seen_in c.args.words.now) k 0))) held (omega arith) (omega arith) read
          v.evaluated (omega arith) v.within c.members_of.ensures (omega arith) c.atoms_of-name.ensures.0
          (rw (z, v.standing.seen_same) at c.loop-at.invariant.passed)
          c.marked_in.ensures);
    }

pub returns-then-top-lt-MAX_NODES : goal.returns-then-top-lt-MAX_NODES
returns-then-top-lt-MAX_NODES c =
    let l = c.loop-i in
    c.attribute_in-then-top-lt-MAX_NODES.ensures ∙ sym (stack_at l.words l.top (omega arith)) ∙ pass-top l.invariant.evaluated (omega arith) _ _ (omega arith)
