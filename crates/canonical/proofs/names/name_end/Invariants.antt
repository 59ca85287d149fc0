use Rattle.std.proofs.Common.{◌≡◌}
use Rattle.canonical.specs.Writer.Place.{behind_name}
use Rattle.canonical.proofs.names.name_end.Given as goal

-- the name that began at `at` ends where the rest from i on does
abbrev pub invariant-loop-i : goal.invariant-loop-i
invariant-loop-i l = behind_name l.text l.at ≡ behind_name l.text l.i
