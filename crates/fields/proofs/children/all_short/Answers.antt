-- What is left is no longer than a name.
use Rattle.std.proofs.Common.{sym, ◌∙◌, arith}
use Rattle.fields.specs.Children.Lengths.{short-rest}
use Rattle.fields.proofs.children.all_short.Goals as goal

pub returns : goal.returns
returns c = sym (c.loop-at.invariant.1 ∙ short-rest c.args.children.now c.loop-at.at (omega arith))
