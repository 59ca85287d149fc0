use Rattle.std.proofs.Common.{arith, sym, ◌∙◌}
use Rattle.lister.specs.Making.Laws.{said-line, line-few, line-ready}
use Rattle.lister.proofs.listing.say.Goals as goal

pub bounds-rules-line : goal.bounds-rules-line
bounds-rules-line c = line-few c.requires.0 c.args.cue.now (sym c.line_of.ensures ∙ c.in_ok-line.was)

pub offset_bounds-rules-line : goal.offset_bounds-rules-line
offset_bounds-rules-line c = omega (arith, line-few c.requires.0 c.args.cue.now (sym c.line_of.ensures ∙ c.in_ok-line.was))

pub judge_cue-requires : goal.judge_cue-requires
judge_cue-requires c = line-ready c.requires.0 c.args.cue.now (sym c.line_of.ensures ∙ c.in_ok-line.was) c.requires.1 _

pub returns : goal.returns
returns c = said-line c.requires.0 c.args.cue.now (sym c.line_of.ensures ∙ c.in_ok-line.was) _ c.judge_cue.ensures
