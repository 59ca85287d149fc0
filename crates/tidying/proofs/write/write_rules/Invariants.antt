use Rattle.fields.specs.{Lines.lines_left, Put.Begun}
use Rattle.tidying.specs.Tidying.{tidy_lines, tidy_sheet, Laws.AllFit}
use Rattle.tidying.proofs.write.write_rules.Given as goal

abbrev pub invariant-loop-line : goal.invariant-loop-line
invariant-loop-line l =
    (goal.iterator-loop-line).can_next l.line-iterator × (goal.iterator-loop-line).is_finite l.line-iterator
    × AllFit (lines_left l.line-iterator)
    × Begun l.initial.buffer l.buffer (tidy_sheet l.sheet) l.written (tidy_lines (lines_left l.line-iterator))
