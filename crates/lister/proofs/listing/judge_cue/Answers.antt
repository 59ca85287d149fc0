-- The judge's answer to the model at the place and to the children's part of the line.
use Rattle.std.proofs.Common.{ap}
use Rattle.lister.specs.Making.Laws.{say-some, say-none, part-at-place}
use Rattle.lister.proofs.listing.judge_cue.Goals as goal
use Rattle.lister.proofs.listing.judge_cue.Goals.{then-third-cue, else-third-cue}

pub returns : goal.returns
returns c =
    rw (c.unwrap_or.ensures, c.judge_children.ensures, c.from-start.ensures, c.from.ensures)
    (elim c.if-third-cue.branch [
      | then-third-cue w ↦
          rw (ap (λ r. r.now) w.row-is)
          (say-some c.requires (part-at-place c.args.sheet.now c.args.place) c.first_fields-third.ensures.value w.if-third-cue.true)
      | else-third-cue w ↦
          rw (ap (λ r. r.now) w.row-is)
          (say-none c.requires (part-at-place c.args.sheet.now c.args.place) c.first_fields-third.ensures.value w.if-third-cue.false)
    ])
