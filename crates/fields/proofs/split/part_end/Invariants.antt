use Rattle.std.proofs.Common.{◌≡◌}
use Rattle.fields.specs.Split.{part_end}
use Rattle.fields.proofs.split.part_end.Given as goal

abbrev pub invariant-loop-i : goal.invariant-loop-i
invariant-loop-i l = part_end l.text l.separator l.i ≡ part_end l.text l.separator l.at
