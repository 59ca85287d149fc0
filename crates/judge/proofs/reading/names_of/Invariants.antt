-- the names are filled from the front
use Rattle.std.proofs.Common.{◌≡◌}
use Rattle.judge.specs.{Reading.no_place, Reading.Table.entry_place, Reading.Filled.filled}
use Rattle.judge.proofs.reading.names_of.Given as goal

abbrev pub invariant-loop-i : goal.invariant-loop-i
invariant-loop-i l = l.names.places ≡ filled entry_place no_place l.entries 64 l.i
