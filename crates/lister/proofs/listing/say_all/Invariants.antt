use Rattle.std.proofs.Common.{◌≡◌, drop}
use Rattle.fields.specs.{Split.lines, Lines.lines_left}
use Rattle.lister.specs.Making.{SaidUpTo}
use Rattle.lister.proofs.listing.say_all.Given as goal

abbrev pub invariant-loop-n : goal.invariant-loop-n
invariant-loop-n l = record {
  can : (goal.iterator-loop-n).can_next l.n-iterator;
  ends : (goal.iterator-loop-n).is_finite l.n-iterator;
  left : lines_left l.n-iterator.iter ≡ drop l.n-iterator.count (lines l.cues);
  so_far : SaidUpTo l.n-iterator.count l.sheet l.cues l.said;
}
