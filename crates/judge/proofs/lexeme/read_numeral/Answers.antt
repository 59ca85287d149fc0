use Rattle.std.proofs.Common.{◌≡◌, sym, ◌∙◌, arith, length}
use Rattle.judge.specs.Reading.Lexeme.Laws.{no-numeral, no-numeral-out, zero-alone, rest_more, rest-stop, rest_out}
use Rattle.judge.proofs.lexeme.read_numeral.Goals as goal
use Rattle.judge.proofs.lexeme.read_numeral.Goals.{then-at-text-via-then-at-text, then-at-text-via-else-at-text+then-not-is_digit}

pub returns-then-at-text : goal.returns-then-at-text
returns-then-at-text c =
    rw c.new.ensures (elim c.then-at-text.branch [
      | then-at-text-via-then-at-text w ↦ no-numeral-out c.args.text.now c.args.at w.if-at-text.true
      | then-at-text-via-else-at-text+then-not-is_digit w ↦ no-numeral c.args.text.now c.args.at (sym w.is_digit.ensures ∙ w.if-not-is_digit.true)
    ])

pub returns-then-b-eq48 : goal.returns-then-b-eq48
returns-then-b-eq48 c = zero-alone c.args.text.now c.args.at (omega arith) c.if-b-eq48.true

pub loop-i-preserved : goal.loop-i-preserved
loop-i-preserved c =
    rest_more c.loop-i.invariant (omega arith) (sym c.is_digit-in-loop-i.ensures ∙ c.if-not-is_digit-2.false) c.with_digit-value-in-loop-i.ensures

pub returns-then-not-is_digit-2 : goal.returns-then-not-is_digit-2
returns-then-not-is_digit-2 c =
    rest-stop (omega arith) (sym c.is_digit.ensures ∙ c.if-not-is_digit.false) c.loop-i.invariant (omega arith)
    (sym c.is_digit-in-loop-i.ensures ∙ c.if-not-is_digit-2.true)

pub returns : goal.returns
returns c =
    let e : c.loop-i.i ≡ length c.args.text.now = omega (arith, c.loop-i.invariant.inside) in
    rw (← e) (rest_out (omega arith) (sym c.is_digit.ensures ∙ c.if-not-is_digit.false) c.loop-i.invariant (omega arith))
