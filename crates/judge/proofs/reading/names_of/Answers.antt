use Rattle.std.proofs.Common.{arith, get_or-take}
use Rattle.judge.specs.{Reading.Table.entry_place, Reading.Table.no_entry, Reading.no_place, Reading.Filled.fill-turn}
use Rattle.judge.proofs.reading.names_of.Goals as goal

pub loop-i-preserved : goal.loop-i-preserved
loop-i-preserved c =
    rw (c.loop-i.invariant, get_or-take c.args.len c.args.entries.now c.loop-i.i no_entry (omega arith))
    (fill-turn entry_place no_place c.args.entries.now 64 c.loop-i.i no_entry (omega arith) (omega arith))
