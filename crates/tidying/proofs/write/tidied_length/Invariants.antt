use Rattle.std.proofs.Common.{◌≡◌, ◌+◌, length}
use Rattle.fields.specs.Lines.{lines_left}
use Rattle.tidying.specs.Tidying.{tidy_lines, tidy_sheet, Laws.AllFit}
use Rattle.tidying.proofs.write.tidied_length.Given as goal

abbrev pub invariant-loop-line : goal.invariant-loop-line
invariant-loop-line l =
    (goal.iterator-loop-line).can_next l.line-iterator × (goal.iterator-loop-line).is_finite l.line-iterator
    × AllFit (lines_left l.line-iterator) × (length l.written ≡ 4096)
    × (l.total + length (tidy_lines (lines_left l.line-iterator)) ≡ length (tidy_sheet l.sheet))
