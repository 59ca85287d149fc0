-- Digit before digit, from the last on; then all of them are put.
use Rattle.std.proofs.Common.{◌≡◌, ◌+◌, ◌-◌, ◌/◌, ◌<◌, ap, sym, ◌∙◌, arith, refl, length, append-nil, length-set}
use Rattle.fields.specs.{Bytes.digits, Put.put_end, Put.put_at}
use Rattle.fields.specs.Bytes.Numeral.{digits-length, length_some, length_more, digit-written, all_written}
use Rattle.fields.proofs.put.put_number.Goals as goal

pub loop-rest-init : goal.loop-rest-init
loop-rest-init c = (sym (append-nil (digits c.args.number)), refl, omega arith, digits-length 19 c.args.number (omega arith))

pub overflow_sub-i-in-loop-rest : goal.overflow_sub-i-in-loop-rest
overflow_sub-i-in-loop-rest c =
    let l = c.loop-rest in
    omega (arith, l.invariant.3, length_more l.rest c.loop-rest-test.true, length_some (l.rest / 10))

pub loop-rest-preserved : goal.loop-rest-preserved
loop-rest-preserved c =
    let l = c.loop-rest in
    let v = l.invariant in
    let more = length_more l.rest c.loop-rest-test.true in
    let some = length_some (l.rest / 10) in
    let z : (l.i - 1) + 1 ≡ l.i = omega (arith, v.3, more, some) in
    let inside : l.i < length l.digits = omega (arith, v.1, v.2) in (
      rw z (digit-written c.args.number l.rest l.i l.digits inside v.0 c.loop-rest-test.true),
      rw length-set v.1,
      omega (arith, v.2),
      omega (arith, v.3, more, some),
    )

pub returns-clause-value : goal.returns-clause-value
returns-clause-value c =
    let l = c.loop-rest in
    let v = l.invariant in
    let w = all_written c.args.number l.rest l.i l.digits (omega (arith, v.1, v.2)) v.0 20 v.1 c.loop-rest-test.false in
    c.put.ensures.value ∙ ap (put_end c.args.buffer.now c.args.at) w

pub returns-clause-buffer_after : goal.returns-clause-buffer_after
returns-clause-buffer_after c =
    let l = c.loop-rest in
    let v = l.invariant in
    let w = all_written c.args.number l.rest l.i l.digits (omega (arith, v.1, v.2)) v.0 20 v.1 c.loop-rest-test.false in
    c.put.ensures.buffer_after ∙ ap (put_at c.args.buffer.now c.args.at) w
