-- the names from k on are not the one looked for
use Rattle.judge.specs.Reading.{Table.parts_in, Table.Laws.Entered}
use Rattle.judge.proofs.table.Table.find.Given as goal

abbrev pub invariant-loop-k : goal.invariant-loop-k
invariant-loop-k l = Entered (parts_in l.text l.self.names l.n) l.name l.k
