use Rattle.std.proofs.Common.{◌+◌, ◌<◌, ◌≤◌}
use Rattle.fields.specs.{Limits.max_name, Split.tab, Split.part_end}
use Rattle.fields.proofs.children.field_ahead.Given as goal

abbrev pub invariant-loop-i : goal.invariant-loop-i
invariant-loop-i l = (l.at ≤ l.i) × (l.at + max_name < part_end l.children tab l.i)
