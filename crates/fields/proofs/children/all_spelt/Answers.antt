-- Each byte with the one before it.
use Rattle.std.proofs.Common.{◌∙◌, arith}
use Rattle.fields.proofs.SpellingLaws.{spelt-first, spelt-next}
use Rattle.fields.proofs.children.all_spelt.Goals as goal

pub loop-i-init : goal.loop-i-init
loop-i-init c = rw c.may_follow-good.ensures (spelt-first c.args.children.now (omega arith))

pub loop-i-preserved : goal.loop-i-preserved
loop-i-preserved c =
    rw c.may_follow-good-in-loop-i.ensures (c.loop-i.invariant ∙ spelt-next c.args.children.now c.loop-i.i c.loop-i.good (omega arith))
