use Rattle.std.proofs.Common.{refl, ap, ◌∙◌, length, length-append, arith}
use Rattle.fields.specs.{Lines.lines_left, Split.lines, Put.Laws.put-ends}
use Rattle.tidying.specs.Tidying.{tidy_line, tidy_lines, Line.rule-short, Laws.rest-fit, Laws.lines-short}
use Rattle.tidying.proofs.write.tidied_length.Goals as goal

pub loop-line-init : goal.loop-line-init
loop-line-init c =
    let e = ap lines_left c.into_iter-line-iterator.ensures.into_iter_gives ∙ c.lines_of-line-items.ensures.value in
    (tt, tt, rw e c.requires.fit, refl, omega (arith, ap (λ ls. length (tidy_lines ls)) e))

pub write_rule-total-requires : goal.write_rule-total-requires
write_rule-total-requires c =
    let f = rw c.in-Some.ensures.steps at c.loop-line.invariant.2 in
    let r = f 0 (omega arith) in
    (r, omega (arith, rule-short r, c.loop-line.invariant.3))

pub overflow_add-total : goal.overflow_add-total
overflow_add-total c =
    let f = rw c.in-Some.ensures.steps at c.loop-line.invariant.2 in
    omega (
      arith,
      rule-short (f 0 (omega arith)),
      c.write_rule-total.ensures.end_is,
      c.loop-line.invariant.4,
      lines-short (lines c.args.sheet.now) c.requires.fit,
      ap length c.lines_of-line-items.ensures.value,
    )

pub loop-line-preserved : goal.loop-line-preserved
loop-line-preserved c =
    let f = rw c.in-Some.ensures.steps at c.loop-line.invariant.2 in
    let e = ap (λ ls. length (tidy_lines ls)) c.in-Some.ensures.steps in
    let n = length-append (tidy_line c.in-Some.line.now) (tidy_lines (lines_left c.next.new.self)) in (
      tt,
      tt,
      rest-fit c.in-Some.line.now (lines_left c.next.new.self) f,
      (put-ends c.write_rule-total.ensures).1 ∙ c.loop-line.invariant.3,
      omega (arith, c.loop-line.invariant.4, e, n, c.write_rule-total.ensures.end_is),
    )
