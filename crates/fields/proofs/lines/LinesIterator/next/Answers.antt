-- By whether there is a line feed.
use Rattle.std.proofs.Common.{arith, ap, length, sym, ◌∙◌}
use Rattle.fields.specs.Lines.{line-none, line_more}
use Rattle.fields.proofs.lines.LinesIterator.next.Goals as goal

pub returns-in_err-end-clause-steps : goal.returns-in_err-end-clause-steps
returns-in_err-end-clause-steps c =
    let x = c.args.self.now.rest.now in
    let e = line-none x (sym c.line_end.ensures ∙ c.in_err-end.was) in
    rw c.from_residual.ensures (e, e)

pub returns-clause-steps : goal.returns-clause-steps
returns-clause-steps c = line_more c.args.self.now.rest.now (sym c.line_end.ensures ∙ c.in_ok-end.was)

pub returns-clause-goes : goal.returns-clause-goes
returns-clause-goes c =
    let e = line_more c.args.self.now.rest.now (sym c.line_end.ensures ∙ c.in_ok-end.was) in
    record { on = λ _. (tt, tt, omega (arith, ap length e)); keeps = tt; rests = λ _. tt }
