use Rattle.std.proofs.Common.{◌≡◌, ◌+◌}
use Rattle.model.specs.Fault.{name_from}
use Rattle.canonical.specs.{Order.not_after, Writer.Place.behind_name}
use Rattle.canonical.proofs.names.is_after.Given as goal

-- what is left of both names compares as the names do
abbrev pub invariant-loop-i : goal.invariant-loop-i
invariant-loop-i l =
    (l.end ≡ behind_name l.text (l.a + l.i))
    × (not_after (name_from l.text l.a) (name_from l.text l.b) ≡ not_after (name_from l.text (l.a + l.i)) (name_from l.text (l.b + l.i)))
