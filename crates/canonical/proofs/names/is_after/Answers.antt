use Rattle.std.proofs.Common.{◌≡◌, ℕ, ◌+◌, ◌-◌, true, not, get_or, ltb, sym, ap, ◌∙◌, subst, arith, lt-ltb, le-ltb}
use borrow.Author.Tests.{ltb-true, ltb-false}
use Rattle.fields.specs.{Bytes.is_inner, Tests.by-test}
use Rattle.judge.specs.Reading.Lexeme.Laws.{front_out}
use Rattle.canonical.specs.Writer.Place.Ends.{Inner, name-step, name-goes, name-over, after-over, after-longer, after-differs, after_same}
use Rattle.canonical.proofs.names.is_after.Goals as goal

pub returns-then-d-c : goal.returns-then-d-c
returns-then-d-c c =
    let x = c.args.text.now in
    let i = name-goes x (c.args.a + c.loop-i.i) (omega (arith, c.loop-i.invariant.0)) in
    let d = after-differs x (c.args.a + c.loop-i.i) (c.args.b + c.loop-i.i) i (omega arith) c.if-c-d.true in
    let t = lt-ltb (get_or x (c.args.b + c.loop-i.i) 0) (get_or x (c.args.a + c.loop-i.i) 0) c.if-d-c.true in
    t ∙ (rw t at d) ∙ sym (ap not c.loop-i.invariant.1)

pub returns-else-d-c : goal.returns-else-d-c
returns-else-d-c c =
    let x = c.args.text.now in
    let i = name-goes x (c.args.a + c.loop-i.i) (omega (arith, c.loop-i.invariant.0)) in
    let d = after-differs x (c.args.a + c.loop-i.i) (c.args.b + c.loop-i.i) i (omega arith) c.if-c-d.true in
    let t = le-ltb (get_or x (c.args.b + c.loop-i.i) 0) (get_or x (c.args.a + c.loop-i.i) 0) c.if-d-c.false in
    ap not c.is_inner.ensures ∙ (rw t at d) ∙ sym (ap not c.loop-i.invariant.1)

pub loop-i-preserved : goal.loop-i-preserved
loop-i-preserved c =
    let x = c.args.text.now in
    let p = c.args.a + c.loop-i.i in
    let q = c.args.b + c.loop-i.i in
    let i = name-goes x p (omega (arith, c.loop-i.invariant.0)) in
    let j : Inner x q = record { inside = omega arith; inner = subst (λ (b : ℕ). is_inner b ≡ true) c.if-c-d.false i.inner } in
    let e : c.args.a + (c.loop-i.i + 1) ≡ p + 1 = omega arith in
    let f : c.args.b + (c.loop-i.i + 1) ≡ q + 1 = omega arith in
    (rw e (c.loop-i.invariant.0 ∙ name-step x p i.inside i.inner), rw (e, f) (c.loop-i.invariant.1 ∙ after_same x p q i j c.if-c-d.false))

-- the name at a goes on where the text ends at b, or it is over
pub returns : goal.returns
returns c =
    let x = c.args.text.now in
    let n = c.args.end - c.args.a in
    let p = c.args.a + c.loop-i.i in
    let q = c.args.b + c.loop-i.i in
    by-test (ltb c.min-most.result n)
    (λ e.
    let h = ltb-true c.min-most.result n e in
    rw e (after-longer x p q (name-goes x p (omega (arith, h, c.loop-i.invariant.0))) (front_out is_inner x q (omega (arith, h)))
    ∙ sym (ap not c.loop-i.invariant.1)))
    (λ e.
    let h = ltb-false c.min-most.result n e in
    rw e (after-over x p q (name-over x p (omega (arith, h, c.loop-i.invariant.0))) ∙ sym (ap not c.loop-i.invariant.1)))
