use Rattle.std.proofs.Common.{◌≡◌, ◌&&◌, ◌-◌, drop, get_or}
use Rattle.fields.specs.{Split.tab, Split.split, Children.Spelling.all_spelt, Children.Spelling.goes_on}
use Rattle.fields.proofs.children.all_spelt.Given as goal

abbrev pub invariant-loop-i : goal.invariant-loop-i
invariant-loop-i l = all_spelt (split tab l.children) ≡ (l.good && goes_on (get_or l.children (l.i - 1) 0) (drop l.i l.children))
