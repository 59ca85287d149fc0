use Rattle.std.proofs.Common.{not, refl, ap, ◌∙◌, arith}
use mathlib.Core.Path.{ap₂}
use Rattle.model.specs.Fault.{name_from}
use Rattle.canonical.specs.{Order.not_after, Writer.Stack.Skip.name_is, Writer.Stack.Skip.least_inside}
use Rattle.canonical.proofs.order.is_behind.Goals as goal

pub is_after-requires : goal.is_after-requires
is_after-requires c =
    let p = c.requires in
    let x = c.args.text.now in
    let stack = c.args.stack.now in (
      omega (arith, c.from-least.ensures, least_inside x stack p.first.0 (omega (arith, p.entries, p.first)) p.heads refl),
      rw c.from-least.ensures p.name-end,
      omega (arith, c.from.ensures, least_inside x stack p.second.0 (omega (arith, p.entries, p.second)) p.heads refl),
    )

pub returns : goal.returns
returns c =
    let p = c.requires in
    let x = c.args.text.now in
    let stack = c.args.stack.now in
    c.is_after.ensures ∙ ap₂ (λ a b. not (not_after a b))
    (ap (name_from x) c.from-least.ensures ∙ name_is x stack p.first.0 (omega (arith, p.entries, p.first)) p.heads refl)
    (ap (name_from x) c.from.ensures ∙ name_is x stack p.second.0 (omega (arith, p.entries, p.second)) p.heads refl)
