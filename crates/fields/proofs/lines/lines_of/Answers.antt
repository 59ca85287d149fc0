-- There are no more lines than bytes.
use Rattle.fields.specs.Split.Times.{lines-few}
use Rattle.fields.proofs.lines.lines_of.Goals as goal

pub returns-clause-few : goal.returns-clause-few
returns-clause-few c = lines-few c.args.text.now
