-- By the reading of the whole text into arrays.
use Rattle.std.proofs.Common.{◌∙◌}
use Rattle.judge.proofs.ReadingWhole.{refused-is, reading-is}
use Rattle.judge.proofs.reading.read_model.Goals as goal

pub returns-in-Ok : goal.returns-in-Ok
returns-in-Ok c = reading-is c.in-Ok.ensures c.unpack.ensures c.names_of.ensures

pub returns-in-Err : goal.returns-in-Err
returns-in-Err c = c.refused.ensures ∙ refused-is c.args.text.now c.in-Err.ensures
