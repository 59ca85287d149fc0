use Rattle.std.proofs.Common.{◌≡◌, ◌+◌, length}
use Rattle.std.specs.List.{All}
use Rattle.fields.specs.{Split.lines, Split.unlines, Lines.lines_left}
use Rattle.sheet.specs.Cues.{CueFits}
use Rattle.lister.specs.Making.{lines_said}
use Rattle.lister.proofs.listing.lines_length.Given as goal

abbrev pub invariant-loop-cue : goal.invariant-loop-cue
invariant-loop-cue l = record {
  can : (goal.iterator-loop-cue).can_next l.cue-iterator;
  ends : (goal.iterator-loop-cue).is_finite l.cue-iterator;
  fit : All CueFits (lines_left l.cue-iterator.a);
  so_far : l.length + length (unlines (lines_said l.cue-iterator.b.rest.now (lines_left l.cue-iterator.a)))
      ≡ length (unlines (lines_said l.said (lines l.cues)));
}
