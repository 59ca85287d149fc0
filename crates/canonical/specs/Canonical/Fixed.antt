-- The canonical tree is flat, and neat, and its own canonical tree: to write again what is written gives the same.
use mathlib.Core.{Path.◌≡◌, Path.refl, Path.ap, Path.◌∙◌, Logic.◌⊎◌, Logic.inl, Logic.inr, Logic.⊎_elim}
use Rattle.model.specs.{Syntax.Syntax, Flatten.nil, Flatten.flatten}
use Rattle.canonical.specs.{Tidy.tidy, Neat.Neat, Tidy.Form.tidy-neat, Tidy.Form.neat-same, Tidy.Flat.neat-flat, Tidy.Flattened.tidy-flatten}
use Rattle.canonical.specs.{Order.order, Order.Sorted.order-twice, Order.Sorted.order-neat, Canonical.canonical}

-- the tree as it stands may be tidied at once
pub canonical-tidy : (t : Syntax) → canonical t ≡ order (tidy t)
canonical-tidy t = ap order (tidy-flatten t)

pub canonical-neat : (t : Syntax) → (canonical t ≡ nil) ⊎ Neat (canonical t)
canonical-neat t = ⊎_elim (λ e. inl (ap order e)) (λ h. inr (order-neat (tidy (flatten t)) h)) (tidy-neat (flatten t))

pub canonical-flat : (t : Syntax) → flatten (canonical t) ≡ canonical t
canonical-flat t = ⊎_elim (λ e. rw e refl) (neat-flat (canonical t)) (canonical-neat t)

pub canonical-twice : (t : Syntax) → canonical (canonical t) ≡ canonical t
canonical-twice t =
    canonical-tidy (canonical t)
    ∙ ⊎_elim (λ e. rw e refl) (λ h. ap order (neat-same (canonical t) h) ∙ order-twice (tidy (flatten t))) (canonical-neat t)
