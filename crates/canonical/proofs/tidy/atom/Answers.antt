use Rattle.std.proofs.Common.{arith}
use Rattle.canonical.specs.Writer.Place.{Laws.atom-inside, Ends.name-inside, Ends.ended-inside}
use Rattle.canonical.proofs.tidy.atom.Goals as goal

pub count_end-end-requires : goal.count_end-end-requires
count_end-end-requires c =
    rw c.name_end-name.ensures (name-inside c.args.text.now c.args.at (omega (arith, atom-inside c.requires.0.1)))

pub count_mark-requires : goal.count_mark-requires
count_mark-requires c =
    ended-inside (record { name_is = c.name_end-name.ensures; count_is = c.count_end-end.ensures }) (omega (arith, atom-inside c.requires.0.1))
