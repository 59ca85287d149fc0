-- Piece by piece.
use Rattle.std.proofs.Common.{arith, ap, sym, ◌∙◌, length}
use Rattle.fields.specs.{Bytes.Numeral.digits-length}
use Rattle.sheet.specs.Cues.{Laws.cue-three, Laws.children-count}
use Rattle.lister.specs.Listing.Laws.{word-short, line-length}
use Rattle.lister.proofs.line.line_length.Goals as goal

pub slice_bounds-times_in-count : goal.slice_bounds-times_in-count
slice_bounds-times_in-count c = omega (arith, (cue-three c.first_fields-ends.ensures.value c.requires).ascending)

pub slice_bounds-times_in-start : goal.slice_bounds-times_in-start
slice_bounds-times_in-start c = omega (arith, (cue-three c.first_fields-ends.ensures.value c.requires).ascending)

pub overflow_sub-fields-2 : goal.overflow_sub-fields-2
overflow_sub-fields-2 c = omega (arith, (cue-three c.first_fields-ends.ensures.value c.requires).ascending)

pub number_length-requires : goal.number_length-requires
number_length-requires c =
    let t = cue-three c.first_fields-ends.ensures.value c.requires in
    omega (arith, c.times_in-children.ensures, children-count _ _ t, c.requires.few)

pub overflow_add-result-2 : goal.overflow_add-result-2
overflow_add-result-2 c =
    let t = cue-three c.first_fields-ends.ensures.value c.requires in
    let few = digits-length 4 c.times_in-children.result (omega (arith, c.times_in-children.ensures, children-count _ _ t, c.requires.few)) in
    omega (arith, t.ascending, ap length c.word.ensures, word-short c.args.said, c.requires.short, c.number_length.ensures, few)

pub overflow_add-result-3 : goal.overflow_add-result-3
overflow_add-result-3 c =
    let t = cue-three c.first_fields-ends.ensures.value c.requires in
    let few = digits-length 4 c.times_in-children.result (omega (arith, c.times_in-children.ensures, children-count _ _ t, c.requires.few)) in
    omega (arith, t.ascending, ap length c.word.ensures, word-short c.args.said, c.requires.short, c.number_length.ensures, few)

pub returns : goal.returns
returns c =
    let t = cue-three c.first_fields-ends.ensures.value c.requires in
    let n = c.times_in-children.ensures ∙ sym (children-count _ _ t) in
    omega (arith, t.ascending, ap length c.word.ensures, c.number_length.ensures, line-length c.args.said t n)
