-- Piece behind piece.
use Rattle.std.proofs.Common.{arith, ap, sym, ◌∙◌, ◌≤◌, length, [], ◌∷◌}
use Rattle.fields.specs.{Split.tab, Split.line_feed, Put.Laws.begun-none, Put.Laws.begun-put, Put.Laws.begun-end}
use Rattle.sheet.specs.Cues.{Laws.cue-three, Laws.children-count}
use Rattle.lister.specs.Listing.{word, Laws.pieces, Laws.pieces_are}
use Rattle.lister.proofs.line.write_line.Goals as goal

pub slice_bounds-times_in-count : goal.slice_bounds-times_in-count
slice_bounds-times_in-count c = omega (arith, (cue-three c.first_fields-ends.ensures.value c.requires.0).ascending)

pub slice_bounds-times_in-start : goal.slice_bounds-times_in-start
slice_bounds-times_in-start c = omega (arith, (cue-three c.first_fields-ends.ensures.value c.requires.0).ascending)

pub slice_bounds-put-count : goal.slice_bounds-put-count
slice_bounds-put-count c = omega (arith, (cue-three c.first_fields-ends.ensures.value c.requires.0).ascending)

pub slice_bounds-put-start : goal.slice_bounds-put-start
slice_bounds-put-start c = omega (arith, (cue-three c.first_fields-ends.ensures.value c.requires.0).ascending)

pub slice_bounds-put-count-2 : goal.slice_bounds-put-count-2
slice_bounds-put-count-2 c = omega (arith, (cue-three c.first_fields-ends.ensures.value c.requires.0).ascending)

pub slice_bounds-put-start-2 : goal.slice_bounds-put-start-2
slice_bounds-put-start-2 c = omega (arith, (cue-three c.first_fields-ends.ensures.value c.requires.0).ascending)

pub returns : goal.returns
returns c =
    let t = cue-three c.first_fields-ends.ensures.value c.requires.0 in
    let p = pieces_are c.args.said t (c.times_in-children.ensures ∙ sym (children-count _ _ t)) in
    let room : length (pieces c.args.cue.now c.first_fields-ends.result c.args.said c.times_in-children.result) ≤ length c.args.buffer.now =
    omega (arith, c.requires.1, ap length p) in
    let number = begun-put _ _ (begun-none room) c.put-a.ensures.value c.put-a.ensures.buffer_after in
    let parted = begun-put (tab ∷ []) _ number c.put-b.ensures.value c.put-b.ensures.buffer_after in
    let kind = begun-put _ _ parted c.put-c.ensures.value c.put-c.ensures.buffer_after in
    let behind = begun-put (tab ∷ []) _ kind c.put-d.ensures.value c.put-d.ensures.buffer_after in
    let said = begun-put (word c.args.said) _ behind (rw (← c.word.ensures) c.put-e.ensures.value) (rw (← c.word.ensures) c.put-e.ensures.buffer_after) in
    let last = begun-put (tab ∷ []) _ said c.put-f.ensures.value c.put-f.ensures.buffer_after in
    let count = begun-put _ _ last c.put_number-g.ensures.value c.put_number-g.ensures.buffer_after in
    rw (← p) (begun-end (begun-put (line_feed ∷ []) [] count c.put.ensures.value c.put.ensures.buffer_after))
