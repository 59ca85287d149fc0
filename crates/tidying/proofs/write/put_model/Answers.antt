use Rattle.std.proofs.Common.{rules}
use Rattle.tidying.specs.Tidying.Line.{answered-so}
use Rattle.tidying.proofs.write.put_model.Goals as goal

pub unwrap-requires : goal.unwrap-requires
unwrap-requires c = rw (answered-so c.args.buffer.now c.requires c.write_model.ensures.value) (search rules)
