-- From the last of the bytes to the first.
use Rattle.std.proofs.Common.{◌≡◌, ◌-◌, arith}
use Rattle.fields.specs.Children.Lengths.{hop-tab, hop-none}
use Rattle.fields.proofs.children.field_ahead.Goals as goal

pub returns-then-children-i-eq-TAB : goal.returns-then-children-i-eq-TAB
returns-then-children-i-eq-TAB c =
    hop-tab c.args.children.now c.args.at (c.loop-i.i - 1) (omega arith) (omega arith) (omega arith) c.if-children-i-eq-TAB.true

pub returns : goal.returns
returns c = let e : c.loop-i.i ≡ c.args.at = omega arith in hop-none c.args.children.now c.args.at (rw e at c.loop-i.invariant.1)
