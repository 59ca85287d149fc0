-- Child behind child, to the one before it.
use Rattle.std.proofs.Common.{◌≡◌, ◌-◌, arith, subst}
use Rattle.desk.specs.Child.Code.{ChildReached, reached-first, reached-end, reached-next}
use Rattle.desk.proofs.child.child_start.Goals as goal

pub loop-init : goal.loop-init
loop-init c = reached-first c.args.children.now

pub overflow_add-at : goal.overflow_add-at
overflow_add-at c = omega (arith, (reached-end c.loop.invariant (omega arith) c.part_end-at.ensures).bounds)

pub loop-preserved : goal.loop-preserved
loop-preserved c = reached-next c.loop.invariant (omega arith) (omega arith) (omega arith) c.part_end-at.ensures

pub returns : goal.returns
returns c = let e : c.loop.counter ≡ c.args.k = omega arith in subst (λ j. ChildReached c.args.children.now (j - 1) c.loop.at) e c.loop.invariant
