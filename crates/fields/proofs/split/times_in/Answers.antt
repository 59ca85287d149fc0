-- Part by part.
use Rattle.std.proofs.Common.{ap, length, length-append, ◌∙◌, arith}
use Rattle.std.specs.Slice.Iter.{chunks_rest}
use Rattle.fields.specs.{Split.times, Split.Times.times-append, Split.Times.times-few}
use Rattle.fields.proofs.split.times_in.Goals as goal

pub loop-part-preserved : goal.loop-part-preserved
loop-part-preserved c =
    let byte = c.args.byte in
    let part = c.in-Some.part.now in
    let rest = chunks_rest c.next.new.self in
    let s = c.in-Some.ensures.steps in
    let v = c.loop-part.invariant in
    let l = ap length s.1.0 ∙ length-append part rest in
    let t = ap (times byte) s.1.0 ∙ times-append byte part rest in
    (omega (arith, s.0, v.2), tt, s.0 ∙ v.2, omega (arith, l, times-few byte part), omega (arith, t))
