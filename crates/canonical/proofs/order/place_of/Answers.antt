use Rattle.std.proofs.Common.{◌+◌, ◌-◌, ◌/◌, refl, ap, ◌∙◌, arith}
use Rattle.canonical.specs.Writer.{Stack.Skip.least_inside, Lists.is_behind, Lists.Narrow.narrowed-below}
use Rattle.canonical.proofs.order.place_of.Goals as goal

pub name_end-name-requires : goal.name_end-name-requires
name_end-name-requires c =
    let p = c.requires in
    omega (arith, c.from.ensures, least_inside c.args.text.now c.args.stack.now p.place.0 (omega (arith, p.entries, p.place)) p.heads refl)

pub loop-low-preserved-then-is_behind : goal.loop-low-preserved-then-is_behind
loop-low-preserved-then-is_behind c =
    narrowed-below c.loop-low.invariant (c.loop-low.low + (c.loop-low.high - c.loop-low.low) / 2) (omega arith)
    (c.is_behind-in-loop-low.ensures ∙ ap (is_behind c.args.text.now c.args.stack.now c.args.m) c.from-in-loop-low.ensures)
    c.requires.falling c.if-is_behind.true
