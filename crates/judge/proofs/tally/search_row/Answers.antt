use mathlib.Core.{Path.refl, Path.sym, Path.◌∙◌}
use Rattle.std.proofs.Common.{arith}
use borrow.Author.Tests.{ltb-true, ltb-false}
use Rattle.fields.specs.Limits.{max_atoms}
use Rattle.judge.specs.Packed.{Laws.seen_at, Laws.seen-set, Laws.same_set}
use Rattle.judge.specs.Row.Laws.{upto-at}
use Rattle.judge.proofs.RowTallyLaws.{row_told, row-starts, row-stops, row_goes, row_ends}
use Rattle.judge.proofs.tally.search_row.Goals as goal

pub loop-i-init : goal.loop-i-init
loop-i-init c = record { same = (refl, refl); passed = λ us t. row-starts _ t }

pub bounds-words-place : goal.bounds-words-place
bounds-words-place c = omega (arith, upto-at max_atoms c.args.row.now c.requires.1 c.loop-i.i c.loop-i-test.true)

pub returns-then-is_full-clause-row_tallied : goal.returns-then-is_full-clause-row_tallied
returns-then-is_full-clause-row_tallied c = λ us t.
    row_told
    (row-stops (c.loop-i.invariant.passed us t) c.loop-i-test.true (omega (arith, c.requires.0)) c.from-place.ensures
    (omega (arith, upto-at max_atoms c.args.row.now c.requires.1 c.loop-i.i c.loop-i-test.true))
    (rw (seen_at c.loop-i.words c.from-place.result) (ltb-true _ _ (sym c.is_full.ensures ∙ c.if-is_full.true))))

pub loop-i-preserved : goal.loop-i-preserved
loop-i-preserved c =
    let e = seen_at c.loop-i.words c.from-place.result in
    let free = ltb-false _ _ (sym c.is_full.ensures ∙ c.if-is_full.false) in record {
      same = same_set c.args.words.now c.loop-i.words c.loop-i.invariant.same c.from-place.result c.noted.result;
      passed = λ us t. rw (seen-set c.loop-i.words c.from-place.result c.noted.result)
          (row_goes (c.loop-i.invariant.passed us t) c.loop-i-test.true (omega (arith, c.requires.0)) c.from-place.ensures
          (omega (arith, upto-at max_atoms c.args.row.now c.requires.1 c.loop-i.i c.loop-i-test.true))
          (rw e free) (rw e c.noted.ensures));
    }

pub returns-clause-row_tallied : goal.returns-clause-row_tallied
returns-clause-row_tallied c = λ us t. row_ends (c.loop-i.invariant.passed us t) c.loop-i-test.false (omega (arith, c.requires.0))
