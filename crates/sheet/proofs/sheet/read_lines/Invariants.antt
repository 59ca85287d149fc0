use Rattle.std.proofs.Common.{◌≡◌, drop}
use Rattle.fields.specs.{Split.lines, Lines.lines_left}
use Rattle.sheet.proofs.SheetWalk.{Gone}
use Rattle.sheet.proofs.sheet.read_lines.Given as goal

abbrev pub invariant-loop-n : goal.invariant-loop-n
invariant-loop-n l = record {
  can : (goal.iterator-loop-n).can_next l.n-iterator;
  ends : (goal.iterator-loop-n).is_finite l.n-iterator;
  left : lines_left l.n-iterator.iter ≡ drop l.n-iterator.count (lines l.text);
  gone : Gone l.text l.sheet.kinds l.sheet.entries l.n-iterator.count l.at;
}
