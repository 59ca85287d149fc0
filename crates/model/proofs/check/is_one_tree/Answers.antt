use Rattle.std.proofs.Common.{sym, ◌∙◌, inl, inr, arith}
use Rattle.model.specs.Check.Scan.{unsound-at}
use Rattle.model.proofs.check.is_one_tree.Goals.{then-trees-members-via-then-trees-members as few}
use Rattle.model.proofs.check.is_one_tree.Goals.{then-trees-members-via-else-trees-members+then-not-kind_fits as unfit}
use Rattle.model.proofs.check.is_one_tree.Goals as goal

pub returns-then-trees-members : goal.returns-then-trees-members
returns-then-trees-members c =
    let v = c.loop-i in
    rw (unsound-at c.args.nodes.now v.i _ (omega arith) (omega arith) c.members_of-members.ensures v.invariant.2
    (elim c.then-trees-members.branch [
      | few w ↦ inl w.if-trees-members.true
      | unfit w ↦ inr (sym w.kind_fits.ensures ∙ w.if-not-kind_fits.true)
    ]))
