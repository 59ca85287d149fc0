use Rattle.std.proofs.Common.{◌≡◌, ◌-◌, ◌≤◌, length, drop}
use Rattle.fields.specs.{Split.tab, Split.split, Children.Lengths.all_short}
use Rattle.fields.proofs.children.all_short.Given as goal

abbrev pub invariant-loop-at : goal.invariant-loop-at
invariant-loop-at l = (l.at ≤ length l.children) × (all_short (split tab l.children) ≡ all_short (split tab (drop l.at l.children)))

abbrev pub decreases-loop-at : goal.decreases-loop-at
decreases-loop-at l = length l.children - l.at
