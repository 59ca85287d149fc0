-- the names behind a row that passes are told by its rule, which is packed first
use Rattle.std.proofs.Common.{sym, refl, ◌∙◌, arith, rules}
use Rattle.judge.specs.Next.{next_judged}
use Rattle.judge.proofs.RowCode.{readable-within, tested, packed-is, packed-passes}
use Rattle.judge.proofs.next.next_names.Goals as goal

pub returns-in_err-names : goal.returns-in_err-names
unfolding next_judged
returns-in_err-names c = rw (tested _ _ (sym c.test_row.ensures ∙ c.in_err-names.was)) (search rules, refl)

pub pack-requires : goal.pack-requires
pack-requires c = let w = readable-within _ (tested _ _ (sym c.test_row.ensures ∙ c.in_ok-names.was)).good in (w.0, w.1, (refl, refl))

pub overflow_cast-read : goal.overflow_cast-read
overflow_cast-read c = let p = tested _ _ (sym c.test_row.ensures ∙ c.in_ok-names.was) in omega (arith, p.short)

pub next_on-requires : goal.next_on-requires
next_on-requires c = packed-passes (tested _ _ (sym c.test_row.ensures ∙ c.in_ok-names.was)) _ c.pack.ensures

pub returns : goal.returns
unfolding next_judged
returns c =
    let p = tested _ _ (sym c.test_row.ensures ∙ c.in_ok-names.was) in
    rw (p.answer, ← p.names_are) (rw (packed-is p _ c.pack.ensures) at c.next_on.ensures)
