-- Child behind child: those passed are names and not at fault, and they are seen.
use Rattle.std.proofs.Common.{length, ◌+◌, ◌-◌, List, []}
use Rattle.model.specs.declared.rule.Upper.{Upper}
use Rattle.judge.specs.{Packed.seen_in, Packed.SameNodes, Named.row_of, Reply.children_in, Reply.Children.ChildrenPassed}
use Rattle.judge.specs.{Reading.Table.parts_in, Row.Tally.Seeing, Row.Tally.RowPassed}
use Rattle.judge.proofs.reply.tally_children.Given as goal

abbrev pub invariant-loop-at : goal.invariant-loop-at
invariant-loop-at l = record {
  passed : ChildrenPassed l.children l.count l.at;
  same : SameNodes l.initial.words l.words;
  seen : (us : List Upper) → Seeing us [] (seen_in l.initial.words)
      → RowPassed us (row_of (parts_in l.model l.table.names l.past.names) (children_in l.children)) l.count (seen_in l.words);
}

abbrev pub decreases-loop-at : goal.decreases-loop-at
decreases-loop-at l = length l.children + 1 - l.at
