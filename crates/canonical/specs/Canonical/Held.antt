-- The canonical tree of an accepted text holds the same rows of names as written.
use mathlib.Core.{Path.subst, Logic.◌↔◌, List.List}
use Rattle.std.specs.Prelude.{◌≤◌}
use Rattle.fields.specs.Bytes.{Text}
use Rattle.model.specs.{Fault.Answers, Fault.accepted, Syntax.Syntax, Syntax.written_names}
use Rattle.model.proofs.AcceptLaws.{accepted-within}
use Rattle.canonical.specs.{Order.Smallest.occurs-here, Order.Smallest.occurs-in, Canonical.canonical, Canonical.canonical_text, Canonical.HoldsNames}
use Rattle.canonical.specs.Canonical.{Names.canonical-held, Accepted.canonical-accepted, Accepted.canonical-names}

pub held_same : (x : Text) (t : Syntax) → Answers x (accepted t) → (w : List Text) → HoldsNames (canonical t) w ↔ HoldsNames t w
held_same x t h =
    let w = accepted-within x t h in
    canonical-held t w.marks w.apart (accepted-within (canonical_text t) (canonical t) (canonical-accepted x t h)).apart
    (λ a m. occurs-in a (written_names t) (subst (λ n. 1 ≤ n) (canonical-names t a) (occurs-here a (written_names (canonical t)) m)))
