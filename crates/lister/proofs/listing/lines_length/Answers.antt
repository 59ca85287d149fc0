-- Line by line.
use Rattle.std.proofs.Common.{arith, ap, length}
use mathlib.Core.Logic.{inl, inr}
use Rattle.fields.specs.{Split.lines, Lines.lines_left}
use Rattle.lister.specs.Making.Laws.{fit-rest, next-length, lines-short, none-left, none_said}
use Rattle.lister.proofs.listing.lines_length.Goals as goal

pub overflow_add-length : goal.overflow_add-length
overflow_add-length c =
    omega (
      arith,
      next-length c.in-Some.ensures.steps.0 c.in-Some.ensures.steps.1,
      c.loop-cue.invariant.so_far,
      c.line_length-length.ensures,
      lines-short c.args.said.now (lines c.args.cues.now) c.requires.fit,
      c.requires.few,
    )

pub loop-cue-preserved : goal.loop-cue-preserved
loop-cue-preserved c =
    record {
      can = (tt, tt);
      ends = tt;
      fit = fit-rest c.in-Some.ensures.steps.0 c.loop-cue.invariant.fit;
      so_far = omega (
        arith,
        next-length c.in-Some.ensures.steps.0 c.in-Some.ensures.steps.1,
        c.loop-cue.invariant.so_far,
        c.line_length-length.ensures,
      );
    }

pub returns-clause-value : goal.returns-clause-value
returns-clause-value c =
    elim c.in-None.ensures.steps [
      | inl p ↦ omega (arith, ap length (none-left c.loop-cue.cue-iterator.b.rest.now p.1.0), c.loop-cue.invariant.so_far)
      | inr p ↦
          omega (arith, ap length (none_said c.loop-cue.cue-iterator.b.rest.now (lines_left c.loop-cue.cue-iterator.a) p.1.0), c.loop-cue.invariant.so_far)
    ]

pub returns-clause-upper_bound : goal.returns-clause-upper_bound
returns-clause-upper_bound c =
    omega (arith, c.loop-cue.invariant.so_far, lines-short c.args.said.now (lines c.args.cues.now) c.requires.fit, c.requires.few)
