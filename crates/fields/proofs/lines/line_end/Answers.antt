-- Where the first part ends, if that is inside the text.
use Rattle.std.proofs.Common.{◌∙◌}
use Rattle.fields.specs.Lines.{feed-place}
use Rattle.fields.proofs.lines.line_end.Goals as goal

pub returns : goal.returns
returns c = c.then_some.ensures ∙ rw c.part_end-end.ensures (feed-place c.args.text.now)
