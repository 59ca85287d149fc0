-- One pass over nodes, from the last to the first: what it keeps of trees is what an algebra gives.
use Rattle.std.specs.Prelude.{◌≡◌, List, ◌∷◌, ℕ, take, drop, get_or}
use Rattle.model.specs.{declared.rule.Kind.Kind, declared.rule.Mark.Mark, declared.rule.Node.Node as RuleNode}
use Rattle.model.specs.Model.{Algebra, needed, eval_step, eval}

-- the part of a node, by what is kept of its members, is the algebra's step
abbrev pub IsStep : {A : Type 0} → (Kind → Mark → List A → A) → Algebra A → Type 0
IsStep {A} part g =
    (κ : Kind) (m : Mark) (k : ℕ) (rest : List A) → part κ m (take (needed κ) rest) ∷ drop (needed κ) rest ≡ eval_step g κ m k rest

-- of the first tree
abbrev pub first : {A : Type 0} → Algebra A → List RuleNode → A → A
first g nodes nothing = get_or (eval g nodes 0) 0 nothing
