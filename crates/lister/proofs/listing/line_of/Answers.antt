use Rattle.std.proofs.Common.{arith}
use Rattle.sheet.specs.Cues.{Laws.cue-three}
use Rattle.lister.specs.Making.Laws.{before-checked}
use Rattle.lister.proofs.listing.line_of.Goals as goal

pub slice_bounds-number_of-count : goal.slice_bounds-number_of-count
slice_bounds-number_of-count c = omega (arith, (cue-three c.first_fields-ends.ensures.value c.requires).ascending)

pub slice_bounds-number_of-start : goal.slice_bounds-number_of-start
slice_bounds-number_of-start c = omega (arith, (cue-three c.first_fields-ends.ensures.value c.requires).ascending)

pub returns : goal.returns
returns c =
    let t = cue-three c.first_fields-ends.ensures.value c.requires in
    rw (t.third_is, ← c.number_of-number.ensures, ← c.from.ensures) (before-checked c.from.result c.checked_sub.ensures)
