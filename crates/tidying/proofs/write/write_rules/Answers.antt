use Rattle.std.proofs.Common.{ap, ◌∙◌, arith}
use Rattle.fields.specs.{Lines.lines_left, Put.Laws.begun-none, Put.Laws.begun_all, Put.Laws.piece-room, Put.Laws.piece-put}
use Rattle.tidying.specs.Tidying.{tidy_line, tidy_lines, Laws.rest-fit}
use Rattle.tidying.proofs.write.write_rules.Goals as goal

pub loop-line-init : goal.loop-line-init
loop-line-init c =
    let e = ap lines_left c.into_iter-line-iterator.ensures.into_iter_gives ∙ c.lines_of-line-items.ensures.value in
    (tt, tt, rw e c.requires.0.fit, rw e (begun-none c.requires.1))

pub write_rule-written-requires : goal.write_rule-written-requires
write_rule-written-requires c =
    let f = rw c.in-Some.ensures.steps at c.loop-line.invariant.2 in
    let g = rw c.in-Some.ensures.steps at c.loop-line.invariant.3 in
    (f 0 (omega arith), piece-room (tidy_line c.in-Some.line.now) (tidy_lines (lines_left c.next.new.self)) g)

pub loop-line-preserved : goal.loop-line-preserved
loop-line-preserved c =
    let f = rw c.in-Some.ensures.steps at c.loop-line.invariant.2 in
    let g = rw c.in-Some.ensures.steps at c.loop-line.invariant.3 in (
      tt,
      tt,
      rest-fit c.in-Some.line.now (lines_left c.next.new.self) f,
      piece-put (tidy_line c.in-Some.line.now) (tidy_lines (lines_left c.next.new.self)) g c.write_rule-written.ensures,
    )

pub returns : goal.returns
returns c = begun_all (rw c.in-None.ensures.steps.0 at c.loop-line.invariant.3)
