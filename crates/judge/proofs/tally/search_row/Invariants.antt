-- No child passed is at fault, and they are seen.
use mathlib.Core.{List.[], List.List}
use Rattle.model.specs.declared.rule.Upper.{Upper}
use Rattle.judge.specs.Packed.{seen_in, SameNodes}
use Rattle.judge.specs.Row.Tally.{Seeing, RowPassed}
use Rattle.judge.proofs.tally.search_row.Given as goal

abbrev pub invariant-loop-i : goal.invariant-loop-i
invariant-loop-i l = record {
  same : SameNodes l.fn.words l.words;
  passed : (us : List Upper) → Seeing us [] (seen_in l.fn.words) → RowPassed us l.row l.i (seen_in l.words);
}
