-- a row that passes is judged by its rule, which is packed first
use Rattle.std.specs.Prelude.{Ok}
use Rattle.std.proofs.Common.{sym, refl, ap, ◌∙◌, arith, rules}
use Rattle.judge.proofs.RowCode.{readable-within, tested, packed-is, packed-passes}
use Rattle.judge.proofs.row.judge_row.Goals as goal

pub returns-in_err-names : goal.returns-in_err-names
returns-in_err-names c = rw (tested _ _ (sym c.test_row.ensures ∙ c.in_err-names.was)) (search rules)

pub pack-requires : goal.pack-requires
pack-requires c = let w = readable-within _ (tested _ _ (sym c.test_row.ensures ∙ c.in_ok-names.was)).good in (w.0, w.1, (refl, refl))

pub overflow_cast-read : goal.overflow_cast-read
overflow_cast-read c = let p = tested _ _ (sym c.test_row.ensures ∙ c.in_ok-names.was) in omega (arith, p.short)

pub verdict_on-requires : goal.verdict_on-requires
verdict_on-requires c = packed-passes (tested _ _ (sym c.test_row.ensures ∙ c.in_ok-names.was)) _ c.pack.ensures

pub returns : goal.returns
returns c =
    let p = tested _ _ (sym c.test_row.ensures ∙ c.in_ok-names.was) in
    ap Ok (rw (packed-is p _ c.pack.ensures) at c.verdict_on.ensures) ∙ sym p.answer
