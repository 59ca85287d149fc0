-- A pass over nodes, from the last to the first, with a stack that grows down in an array: it computes what an algebra gives that looks at no numbers of
-- atoms (`Model.eval`).
use mathlib.Core.{Path.◌≡◌, Path.◌∙◌, List.List, List.[], List.◌∷◌}
use Rattle.std.specs.Prelude.{ℕ, ◌+◌, ◌-◌, ◌≤◌, ◌<◌, min, length, take, drop, set, get_or}
use Rattle.std.proofs.Common.{arith, length-set, drop_of_length-le}
use Rattle.model.specs.{declared.rule.Mark.Mark, declared.rule.Kind.Kind, declared.rule.Node.Node as RuleNode}
use Rattle.model.specs.{Model.Algebra, Model.after, Model.needed, Model.eval, Rule.unused, Pass.IsStep}
use Rattle.fields.specs.{Limits.max_nodes, Stack.drop-back, Stack.first-entries, Stack.replaced}

-- of the nodes l: what their trees give stands on the stack
pub record Walked {A : Type 0} (g : Algebra A) (l : List RuleNode) (stack : List A) (top : ℕ) : Type 0 where
  pub long : length stack ≡ max_nodes
  pub stack_is : (k : ℕ) → drop top stack ≡ eval g l k

module _ {A : Type 0} {g : Algebra A} where
  pub walked_none : (l : List RuleNode) (stack : List A) → l ≡ [] → length stack ≡ max_nodes → Walked g l stack max_nodes
  walked_none l stack e h = record { long = h; stack_is = λ k. rw (e, drop_of_length-le stack {i = max_nodes} (omega arith)) }

  -- no tree
  pub walked_empty : {l : List RuleNode} {stack : List A} {top : ℕ} → Walked g l stack top → (d : A) → max_nodes ≤ top → d ≡ get_or (eval g l 0) 0 d
  walked_empty {stack = stack} {top = top} t d h = rw (← t.stack_is 0, drop_of_length-le stack {i = top} (omega (arith, t.long)))

  -- `part` is what a node gives, by what its members give
  module _ (part : Kind → Mark → List A → A) (step : IsStep part g) where
    -- one node more: the entries up to end are its members
    walked-node : {x : RuleNode} {l : List RuleNode} {stack : List A} {top : ℕ} → Walked g l stack top → (end : ℕ) (y : A) → 0 < top → top ≤ max_nodes
        → end ≡ min (needed x.kind) (max_nodes - top) + top → y ≡ part x.kind x.mark (take (end - top) (drop top stack))
        → Walked g (x ∷ l) (set stack (end - 1) y) (end - 1)
    walked-node {x} {l} {stack} {top} t end y p h i j =
        let κ = x.kind in
        record {
          long = rw length-set t.long;
          stack_is = λ k.
              replaced stack max_nodes top (needed κ) end t.long h i y p
              ∙ rw (j, first-entries stack max_nodes top (needed κ) end t.long h i, t.stack_is (after κ k)) (step κ x.mark k (eval g l (after κ k)));
        }

    -- a turn of the loop, with what its calls gave
    pub walked-turn : (nodes : List RuleNode) (i : ℕ) {x : RuleNode} {stack : List A} {top members clipped : ℕ} {y : A}
        → 0 < i → i ≤ length nodes → x ≡ get_or nodes (i - 1) unused → 0 < top → top ≤ max_nodes
        → members ≡ needed x.kind → clipped ≡ min members (max_nodes - top) → y ≡ part x.kind x.mark (take (clipped + top - top) (drop top stack))
        → Walked g (drop i nodes) stack top
        → Walked g (drop (i - 1) nodes) (set stack (clipped + top - 1) y) (clipped + top - 1)
    walked-turn nodes i {top = top} {clipped = clipped} {y = y} a b e p h m n j t =
        rw (drop-back nodes i unused a b, ← e) (walked-node t (clipped + top) y p h (rw (n, m)) j)
