-- By the length of the name, and by what comes behind it.
use Rattle.std.proofs.Common.{eq-eqb}
use Rattle.std.proofs.lemmas.Bool.{lt-leb}
use Rattle.judge.proofs.ReplyChildrenLaws.{child-long, child-last, child-parted}
use Rattle.judge.proofs.reply.is_child.Goals as goal

pub returns-then-read-children : goal.returns-then-read-children
returns-then-read-children c =
    rw (eq-eqb _ _ c.if-read-children.true)
    (child-last c.args.children.now c.args.at c.requires.0 c.requires.1.end_is c.if-read-at-le-MAX_NAME.true c.if-read-children.true)

pub returns-else-read-children : goal.returns-else-read-children
returns-else-read-children c =
    child-parted c.args.children.now c.args.at c.requires.0 c.requires.1.end_is c.if-read-at-le-MAX_NAME.true c.if-read-children.false

pub returns-else-read-at-le-MAX_NAME : goal.returns-else-read-at-le-MAX_NAME
returns-else-read-at-le-MAX_NAME c =
    rw (lt-leb _ _ c.if-read-at-le-MAX_NAME.false)
    (child-long c.args.children.now c.args.at c.requires.0 c.requires.1.end_is c.if-read-at-le-MAX_NAME.false)
