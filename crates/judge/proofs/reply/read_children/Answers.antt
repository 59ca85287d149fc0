-- The model text first, then the size of the children text, then its children, by the upper counts of the model.
use Rattle.std.proofs.Common.{refl, sym, length, eqb-true}
use Rattle.std.proofs.lemmas.Result.{err_from_is_err_and}
use Rattle.judge.proofs.ReadingWhole.{whole_apart, whole-limited}
use Rattle.judge.proofs.ReplyChildrenLaws.{walk_none}
use Rattle.judge.proofs.ReplyRead.{long-refused, texts-read}
use Rattle.judge.specs.Reply.Read.{refused_model}
use Rattle.judge.proofs.reply.read_children.Goals as goal

pub returns-in_err-past : goal.returns-in_err-past
returns-in_err-past c =
    let p = err_from_is_err_and c.from_residual.result c.from_residual.ensures.1 in
    rw (p.1, p.2) (refused_model c.in_err-past.ensures)

pub returns-then-children-gt-MAX_FILE : goal.returns-then-children-gt-MAX_FILE
returns-then-children-gt-MAX_FILE c = long-refused c.in_ok-past.ensures _ _ _ c.if-children-gt-MAX_FILE.true

pub returns-then-is_empty : goal.returns-then-is_empty
returns-then-is_empty c =
    let w = c.in_ok-past.ensures in
    rw c.whole.ensures
    (texts-read w c.args.children.now c.if-children-gt-MAX_FILE.false _ (refl, refl)
    (walk_none c.args.children.now _ (eqb-true (length c.args.children.now) 0 (sym c.if-is_empty.ensures)) (whole-limited w)))

pub tally_children-requires-clause-tabled : goal.tally_children-requires-clause-tabled
tally_children-requires-clause-tabled c = let w = c.in_ok-past.ensures in (w.tabled, whole_apart w)

pub returns-in_err-tally_children : goal.returns-in_err-tally_children
returns-in_err-tally_children c =
    let w = c.in_ok-past.ensures in
    let p = err_from_is_err_and c.from_residual-in_err-tally_children.result c.from_residual-in_err-tally_children.ensures.1 in
    rw (p.1, p.2)
    (texts-read w c.args.children.now c.if-children-gt-MAX_FILE.false _ c.tally_children.ensures.same_nodes
    (rw c.in_err-tally_children.was at (c.tally_children.ensures.children_tallied _ (whole-limited w))))

pub returns : goal.returns
returns c =
    let w = c.in_ok-past.ensures in
    texts-read w c.args.children.now c.if-children-gt-MAX_FILE.false _ c.tally_children.ensures.same_nodes
    (rw c.in_ok-tally_children.was at (c.tally_children.ensures.children_tallied _ (whole-limited w)))
