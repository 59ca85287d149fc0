-- By the last byte.
use Rattle.std.proofs.Common.{sym}
use Rattle.fields.specs.Split.Laws.{ended_by}
use Rattle.fields.proofs.split.is_ended.Goals as goal

pub returns-in-Some : goal.returns-in-Some
returns-in-Some c = ended_by c.args.text.now c.in-Some.b.now (sym c.in-Some.ensures.value)
