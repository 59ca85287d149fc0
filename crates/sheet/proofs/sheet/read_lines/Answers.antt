-- A walk over the lines: those passed are good and in their places.
use Rattle.std.proofs.Common.{refl, arith, rules, ap, sym, ◌∙◌, ◌≡◌, ◌+◌, ◌<◌}
use Rattle.std.proofs.lemmas.Result.{err_from_is_err_and}
use Rattle.fields.specs.{Split.line_feed, Split.part_end, Split.Laws.end-bounds}
use Rattle.sheet.specs.AtLine.{numbered}
use Rattle.sheet.proofs.SheetWalk.{gone-line, gone-stop, gone-many, gone-bad, gone-next, gone-end}
use Rattle.sheet.proofs.sheet.read_lines.Goals as goal

pub returns-then-n-eq-MAX_RULES : goal.returns-then-n-eq-MAX_RULES
returns-then-n-eq-MAX_RULES c =
    let h = c.in-Some.ensures.steps in
    let l = gone-line c.loop-n.invariant.gone c.loop-n.invariant.left h.0 in
    rw h.1 (gone-many c.loop-n.invariant.gone (sym h.1 ∙ c.if-n-eq-MAX_RULES.true) l.0)

pub read_line-requires : goal.read_line-requires
read_line-requires c =
    let l = gone-line c.loop-n.invariant.gone c.loop-n.invariant.left c.in-Some.ensures.steps.0 in
    let b = end-bounds c.args.text.now line_feed c.loop-n.at (part_end c.args.text.now line_feed c.loop-n.at) (omega arith) refl in
    (omega arith, omega (arith, b, l.1), c.requires.0)

pub returns-in_err-read : goal.returns-in_err-read
returns-in_err-read c =
    let e : c.map_err.result ≡ numbered (c.in-Some.n + 1) c.read_line.result = search rules in
    let h = c.in-Some.ensures.steps in
    let l = gone-line c.loop-n.invariant.gone c.loop-n.invariant.left h.0 in
    let n : c.loop-n.n-iterator.count < 64 = omega (arith, c.loop-n.invariant.gone.few, c.if-n-eq-MAX_RULES.false, h.1) in
    let r = rw h.1 at (ap (numbered (c.in-Some.n + 1)) (sym c.read_line.ensures) ∙ sym e ∙ c.in_err-read.was) in
    let b = gone-bad c.loop-n.invariant.gone n l.0 l.1 r in
    let p = err_from_is_err_and c.from_residual.result c.from_residual.ensures.1 in
    rw (p.1, p.2) b

pub loop-n-preserved : goal.loop-n-preserved
loop-n-preserved c =
    let e : c.map_err.result ≡ numbered (c.in-Some.n + 1) c.read_line.result = search rules in
    let h = c.in-Some.ensures.steps in
    let l = gone-line c.loop-n.invariant.gone c.loop-n.invariant.left h.0 in
    let n : c.loop-n.n-iterator.count < 64 = omega (arith, c.loop-n.invariant.gone.few, c.if-n-eq-MAX_RULES.false, h.1) in
    let r = rw h.1 at (ap (numbered (c.in-Some.n + 1)) (sym c.read_line.ensures) ∙ sym e ∙ c.in_ok-read.was) in
    record {
      can = search rules;
      ends = search rules;
      left = rw h.2 l.2;
      gone = rw (h.2, h.1) (gone-next c.loop-n.invariant.gone n l.0 l.1 r);
    }

pub returns : goal.returns
returns c = gone-end c.loop-n.invariant.gone (gone-stop c.loop-n.invariant.gone c.loop-n.invariant.left c.in-None.ensures.steps.0.0)
