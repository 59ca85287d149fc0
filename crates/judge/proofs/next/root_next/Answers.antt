use Rattle.std.proofs.Common.{ℕ, ◌+◌, ◌-◌, ◌<◌, arith, length-take-le, get_or-drop, get_or-take, rules}
use mathlib.Core.{Path.◌≡◌, Path.refl, Path.sym, Path.ap, Path.◌∙◌, List.List}
use lib.{ListN.length, ListN.take, ListN.get_or, ListN.set}
use lib.Seq.{take-set-lt}
use Rattle.fields.specs.Limits.{max_nodes}
use Rattle.judge.specs.{declared.ahead.Ahead.Ahead, Packed.node_in, Packed.seen_in, Packed.kind-node, Reading.Buffer.holds-own}
use Rattle.judge.specs.{Row.Tally.seen_of, Row.Attribute.attribute_in, Next.Ahead.empty_ahead}
use Rattle.judge.specs.Next.Ahead.Laws.{ahead-parts, aheads_in, aheads-long, aheads-at, aheads-set}
use Rattle.judge.specs.Row.Stack.{standing-turn, part_none, part-turn, name-turn, pass-none, pass-turn, pass-top, pass-empty}
use Rattle.judge.proofs.next.root_next.Goals as goal

-- the stack in the places of nodes, and its sets
abbrev stack_in : List ℕ → List ℕ → List Ahead
stack_in words sets = aheads_in (take max_nodes words) sets

stack_at : (words sets : List ℕ) (i : ℕ) (d : Ahead) → length (stack_in words sets) ≡ max_nodes → i < max_nodes
    → get_or (stack_in words sets) i d ≡ record { part = attribute_in (get_or words i 0); next = get_or sets i 0 }
stack_at words sets i d l h = aheads-at (take max_nodes words) sets i d (omega arith) ∙ rw (get_or-take max_nodes words i 0 h)

stack_set : (words sets : List ℕ) (i w s : ℕ) {x : Ahead} → i < max_nodes → attribute_in w ≡ x.part → s ≡ x.next
    → stack_in (set words i w) (set sets i s) ≡ set (stack_in words sets) i x
stack_set words sets i w s h e f = rw (take-set-lt max_nodes words i w h) (aheads-set (take max_nodes words) sets i w s ∙ rw (e, f))

-- what is read past the stack's end: nothing
abbrev blank : Ahead
blank = record { part = attribute_in 0; next = 0 }

pub loop-i-init : goal.loop-i-init
loop-i-init c =
    let words = c.args.words.now in
    let n = length-take-le max_nodes words c.requires.whole in
    record {
      room = search rules;
      within = search rules;
      few = search rules;
      standing = record { seen_same = refl; node_same = λ k h. refl };
      evaluated = pass-none (holds-own c.requires.whole c.requires.few) (aheads-long (take max_nodes words) _ ∙ rw n refl) c.requires.names_are;
    }

pub begin_ahead-x-requires : goal.begin_ahead-x-requires
begin_ahead-x-requires c =
    let v = c.loop-i.invariant in
    let held = holds-own c.requires.whole c.requires.few in
    let read = kind-node _ c.kind_in-kind.ensures ∙ ap node_in (v.standing.node_same (c.loop-i.i - 1) (omega arith)) in
    (name-turn held (omega arith) (omega arith) read v.evaluated.name_is, v.few)

pub loop-at-init : goal.loop-at-init
loop-at-init c =
    let v = c.loop-i in
    let b = rw (c.seen_of-here.ensures, ← get_or-drop max_nodes v.words v.name 0) at c.begin_ahead-x.ensures in
    part_none (ahead-parts _ (λ k. seen_of c.args.read.children (get_or (seen_in v.words) k 0))) (stack_in v.words v.sets) v.top b

pub loop-at-preserved : goal.loop-at-preserved
loop-at-preserved c =
    let u = c.loop-at in
    let v = c.loop-i in
    let n = v.invariant.evaluated.long in
    let y = sym (stack_at v.words v.sets u.at blank n (omega arith)) in
    let g = rw (c.attribute_in.ensures, y) at c.grown_ahead-x.ensures in
    part-turn (ahead-parts _ (λ k. seen_of c.args.read.children (get_or (seen_in v.words) k 0))) (stack_in v.words v.sets) v.top u.at _
    (omega arith) (omega arith) g u.invariant

pub overflow_sub-name : goal.overflow_sub-name
overflow_sub-name c =
    let v = c.loop-i.invariant in
    let held = holds-own c.requires.whole c.requires.few in
    let read = kind-node _ c.kind_in-kind.ensures ∙ ap node_in (v.standing.node_same (c.loop-i.i - 1) (omega arith)) in
    omega (arith, c.atoms_of-name.ensures.0, name-turn held (omega arith) (omega arith) read v.evaluated.name_is)

pub loop-i-preserved : goal.loop-i-preserved
loop-i-preserved c =
    let v = c.loop-i.invariant in
    let place = c.min.result + c.loop-i.top - 1 in
    let z : c.loop-at.at ≡ c.min.result + c.loop-i.top = omega arith in
    let held = holds-own c.requires.whole c.requires.few in
    let read = kind-node _ c.kind_in-kind.ensures ∙ ap node_in (v.standing.node_same (c.loop-i.i - 1) (omega arith)) in
    record {
      room = omega arith;
      within = omega arith;
      few = omega arith;
      standing = standing-turn v.standing place _ (omega arith) (omega arith);
      evaluated = rw (stack_set c.loop-i.words c.loop-i.sets place c.attribute_word.result _ (omega arith) c.attribute_word.ensures refl)
          (pass-turn (ahead-parts _ (λ k. seen_of c.args.read.children (get_or (seen_in c.args.words.now) k 0))) held (omega arith) (omega arith) read
          v.evaluated (omega arith) v.within c.members_of.ensures (omega arith) c.atoms_of-name.ensures.0
          (rw (z, v.standing.seen_same) at c.loop-at.invariant)
          c.marked_ahead-whole.ensures);
    }

pub returns-then-top-lt-MAX_NODES : goal.returns-then-top-lt-MAX_NODES
returns-then-top-lt-MAX_NODES c =
    let l = c.loop-i in
    ap (λ (x : Ahead). x.next)
    (sym (stack_at l.words l.sets l.top blank l.invariant.evaluated.long (omega arith))
    ∙ pass-top l.invariant.evaluated (omega arith) blank (empty_ahead _) (omega arith))

pub returns-else-top-lt-MAX_NODES : goal.returns-else-top-lt-MAX_NODES
returns-else-top-lt-MAX_NODES c = ap (λ (x : Ahead). x.next) (pass-empty c.loop-i.invariant.evaluated (omega arith) (empty_ahead _) (omega arith))
