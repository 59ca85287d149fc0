use Rattle.std.proofs.Common.{length-take, length-drop, arith}
use Rattle.fields.specs.Put.Laws.{put-ends, put_then, put-fits}
use Rattle.tidying.specs.Tidying.Line.{rule-three, start-length, rule-sum, rule-pieces, rule-ready, head-put, put-behind}
use Rattle.tidying.proofs.write.write_rule.Goals as goal

pub slice_bounds-put-end : goal.slice_bounds-put-end
slice_bounds-put-end c =
    let t = (rule-three c.requires.0 c.first_fields-ends.ensures.value).ascending in
    rw length-take (omega arith)

pub slice_bounds-put_model-count : goal.slice_bounds-put_model-count
slice_bounds-put_model-count c =
    let h = head-put c.requires.0 c.first_fields-ends.ensures.value c.requires.1 c.put-head.ensures.value c.put-head.ensures.buffer_after in
    omega (arith, h.fits, put-ends h)

pub slice_bounds-put_model-start : goal.slice_bounds-put_model-start
slice_bounds-put_model-start c =
    let h = head-put c.requires.0 c.first_fields-ends.ensures.value c.requires.1 c.put-head.ensures.value c.put-head.ensures.buffer_after in
    omega (arith, h.fits, put-ends h)

pub slice_bounds-put_model-count-2 : goal.slice_bounds-put_model-count-2
slice_bounds-put_model-count-2 c =
    let t = (rule-three c.requires.0 c.first_fields-ends.ensures.value).ascending in
    omega arith

pub slice_bounds-put_model-start-2 : goal.slice_bounds-put_model-start-2
slice_bounds-put_model-start-2 c =
    let t = (rule-three c.requires.0 c.first_fields-ends.ensures.value).ascending in
    omega arith

pub put_model-model-requires : goal.put_model-model-requires
put_model-model-requires c =
    let h = head-put c.requires.0 c.first_fields-ends.ensures.value c.requires.1 c.put-head.ensures.value c.put-head.ensures.buffer_after in
    let l = start-length c.requires.0 c.first_fields-ends.ensures.value in
    let s = rule-sum c.requires.0 c.first_fields-ends.ensures.value in
    rule-ready c.requires.0 c.first_fields-ends.ensures.value (rw (length-take, length-drop) (omega (arith, c.requires.1, s, put-ends h)))

pub returns : goal.returns
returns c =
    let h = head-put c.requires.0 c.first_fields-ends.ensures.value c.requires.1 c.put-head.ensures.value c.put-head.ensures.buffer_after in
    let l = start-length c.requires.0 c.first_fields-ends.ensures.value in
    let s = rule-sum c.requires.0 c.first_fields-ends.ensures.value in
    let both = put-behind h c.put_model-model.ensures in
    rw (← rule-pieces c.requires.0 c.first_fields-ends.ensures.value)
    (put_then both
    (put-fits _ _ _ _ _ (omega (arith, c.requires.1, s, put-ends h, put-ends c.put_model-model.ensures, put-ends both))
    c.put.ensures.value c.put.ensures.buffer_after))
