-- Line by line: what is said of the lines that are left is what is said of the text.
use Rattle.std.proofs.Common.{arith, rules, ap, sym, ◌∙◌, ◌≡◌, ◌+◌, length}
use Rattle.sheet.specs.{AtLine.numbered, Cues.Laws.cues-next, Cues.Laws.cues-bad}
use Rattle.sheet.proofs.WholeLaws.{cues-begin, cues-refused}
use Rattle.sheet.proofs.cues.read_cues.Goals as goal

pub returns-in_err-check_whole : goal.returns-in_err-check_whole
returns-in_err-check_whole c =
    rw (cues-refused c.args.text.now (sym c.check_whole.ensures ∙ c.in_err-check_whole.was)) (search rules)

pub loop-line-init : goal.loop-line-init
loop-line-init c =
    let b = cues-begin c.args.text.now (sym c.check_whole.ensures ∙ c.in_ok-check_whole.was) in
    record { can = search rules; ends = search rules; counted = search rules; answer = cc }

pub returns-in_err-number : goal.returns-in_err-number
returns-in_err-number c =
    let e : c.map_err.result ≡ numbered (c.loop-line.count + 1) c.read_line.result = search rules in
    let b = cues-bad c.loop-line.count c.loop-line.number c.in-Some.ensures.steps
    (ap (numbered (c.loop-line.count + 1)) (sym c.read_line.ensures) ∙ sym e ∙ c.in_err-number.was) in
    rw (c.loop-line.invariant.answer ∙ b) (search rules)

pub loop-line-preserved : goal.loop-line-preserved
loop-line-preserved c =
    let e : c.map_err.result ≡ numbered (c.loop-line.count + 1) c.read_line.result = search rules in
    record {
      can = search rules;
      ends = search rules;
      counted = omega (arith, c.loop-line.invariant.counted, ap length c.in-Some.ensures.steps);
      answer = c.loop-line.invariant.answer
          ∙ cues-next c.loop-line.count c.loop-line.number c.in-Some.ensures.steps
          (ap (numbered (c.loop-line.count + 1)) (sym c.read_line.ensures) ∙ sym e ∙ c.in_ok-number.was);
    }
