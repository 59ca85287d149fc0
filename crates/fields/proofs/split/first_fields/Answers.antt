-- Field behind field.
use Rattle.fields.specs.Heads.Laws.{heads-ascend}
use Rattle.fields.proofs.split.first_fields.Goals as goal

pub returns-clause-ascending : goal.returns-clause-ascending
returns-clause-ascending c = heads-ascend c.args.line.now _ _ _ c.part_end-first.ensures c.field_behind-second.ensures c.field_behind-third.ensures
