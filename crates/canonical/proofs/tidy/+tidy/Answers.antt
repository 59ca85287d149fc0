use Rattle.std.proofs.Common.{sym, ap, ◌∙◌, subst, arith}
use Rattle.model.specs.{Syntax.Syntax, Tree.leaf, Tree.marked}
use Rattle.canonical.specs.{declared.tidy.Tidied.Tidied, Writer.Tidied.marked_by, Writer.Recursion.TidiedAt}
use Rattle.canonical.specs.Writer.{Place.Trees.every-tree, Recursion.Place.atom-stands}
use Rattle.canonical.specs.Writer.Recursion.{Steps.atom-tidied, Ended.group-tidied}
use Rattle.canonical.specs.Writer.Recursion.Group.{tree-inside, atom-here, begins, place_inside, turn, member-stands, member-ready}
use Rattle.canonical.specs.Writer.Recursion.Turns.{next-inside, member-fits, further, goes_on-is}
use Rattle.canonical.proofs.tidy.+tidy.Goals as goal

pub bounds-text-at : goal.bounds-text-at
bounds-text-at t c = tree-inside c.requires.stands

pub atom-requires : goal.atom-requires
atom-requires t c =
    let r = c.requires in
    let h = atom-here r.tree r.stands c.if-text-at-ne40.true in
    ((h.atom, atom-stands h.stands), omega (arith, r.short))

pub returns-then-text-at-ne40 : goal.returns-then-text-at-ne40
returns-then-text-at-ne40 t c =
    let r = c.requires in
    let h = atom-here r.tree r.stands c.if-text-at-ne40.true in
    let x = c.args.text.now in
    let stack = c.args.stack.now in
    every-tree (λ (u : Syntax). TidiedAt x stack stack c.args.at c.args.top c.with_mark.result u)
    h.stands
    (subst (λ (y : Tidied). TidiedAt x stack stack c.args.at c.args.top y (marked h.mark (leaf h.atom)))
    (sym (c.with_mark.ensures ∙ ap (marked_by x) c.atom.ensures))
    (atom-tidied stack c.args.top h.stands r.heads))

pub loop-p-init : goal.loop-p-init
loop-p-init t c = rw c.no_members-g.ensures (begins c.requires c.if-text-at-ne40.false)

pub bounds-text-p : goal.bounds-text-p
bounds-text-p t c = place_inside c.loop-p.invariant

pub tidy-t-requires : goal.tidy-t-requires
tidy-t-requires t c =
    let i = c.loop-p.invariant in
    (omega (arith, c.decreases, i.from, place_inside i), member-ready i (turn i c.loop-p-test.true))

pub bounds-text-t : goal.bounds-text-t
bounds-text-t t c =
    let i = c.loop-p.invariant in
    let m = turn i c.loop-p-test.true in
    next-inside i m c.tidy-t.new.stack c.tidy-t.result (c.tidy-t.ensures m.member (member-stands i m))

pub member_by-p-requires : goal.member_by-p-requires
member_by-p-requires t c =
    let i = c.loop-p.invariant in
    let m = turn i c.loop-p-test.true in
    omega (arith, next-inside i m c.tidy-t.new.stack c.tidy-t.result (c.tidy-t.ensures m.member (member-stands i m)), i.short)

pub gather-g-requires : goal.gather-g-requires
gather-g-requires t c =
    let i = c.loop-p.invariant in
    let m = turn i c.loop-p-test.true in
    rw c.sign_by-sign.ensures (member-fits i m c.tidy-t.new.stack c.tidy-t.result (c.tidy-t.ensures m.member (member-stands i m)))

pub loop-p-smaller : goal.loop-p-smaller
loop-p-smaller t c =
    let i = c.loop-p.invariant in
    let m = turn i c.loop-p-test.true in
    omega (
      arith,
      c.member_by-p.ensures,
      further i m c.tidy-t.new.stack c.tidy-t.result (c.tidy-t.ensures m.member (member-stands i m)),
      place_inside i,
    )

pub loop-p-preserved : goal.loop-p-preserved
loop-p-preserved t c =
    let i = c.loop-p.invariant in
    let m = turn i c.loop-p-test.true in
    rw (c.gather-g.ensures.value, c.member_by-p.ensures, c.sign_by-sign.ensures)
    (goes_on-is i m c.tidy-t.new.stack c.tidy-t.result (c.tidy-t.ensures m.member (member-stands i m)) c.gather-g.new.stack
    (rw c.sign_by-sign.ensures at c.gather-g.ensures.stack_after))

pub returns : goal.returns
returns t c =
    every-tree (λ (u : Syntax). TidiedAt c.args.text.now c.args.stack.now c.loop-p.stack c.args.at c.args.top c.with_mark-2.result u)
    c.loop-p.invariant.stands
    (rw (c.with_mark-2.ensures, c.closed.ensures) (group-tidied c.loop-p.invariant c.loop-p-test.false))
