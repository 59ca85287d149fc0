-- the number among the places left, counted on, is the number among all
use Rattle.std.proofs.Common.{◌≡◌, ◌+◌, drop}
use Rattle.model.specs.Syntax.{number_from, number_in}
use Rattle.judge.specs.Reading.{parts_of}
use Rattle.judge.proofs.reading.number_of.Given as goal

abbrev pub invariant-loop-i : goal.invariant-loop-i
invariant-loop-i l = number_from (l.i + 1) (drop l.i (parts_of l.text l.fn.names)) l.name ≡ number_in (parts_of l.text l.fn.names) l.name
