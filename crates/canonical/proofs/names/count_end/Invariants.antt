use Rattle.std.proofs.Common.{◌≡◌}
use Rattle.canonical.specs.Writer.Place.{behind_count, Ends.count_from}
use Rattle.canonical.proofs.names.count_end.Given as goal

-- the count that began at `at` ends where the rest from i on does
abbrev pub invariant-loop-i : goal.invariant-loop-i
invariant-loop-i l = behind_count l.text l.at ≡ count_from l.text l.i
