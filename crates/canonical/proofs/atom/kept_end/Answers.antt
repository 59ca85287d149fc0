use Rattle.std.proofs.Common.{arith}
use Rattle.canonical.specs.Writer.Place.Ends.{name-inside, ended-inside}
use Rattle.canonical.proofs.atom.kept_end.Goals as goal

pub count_end-end-requires : goal.count_end-end-requires
count_end-end-requires c = rw c.requires.1 (name-inside c.args.text.now c.args.at c.requires.0)

pub overflow_add-name : goal.overflow_add-name
overflow_add-name c =
    omega (arith, ended-inside (record { name_is = c.requires.1; count_is = c.count_end-end.ensures }) c.requires.0)

pub bounds-text-name-then-text-name-le49 : goal.bounds-text-name-then-text-name-le49
bounds-text-name-then-text-name-le49 c =
    omega (arith, ended-inside (record { name_is = c.requires.1; count_is = c.count_end-end.ensures }) c.requires.0)
