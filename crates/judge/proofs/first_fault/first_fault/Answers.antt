-- a row that passes is searched by its rule, which is packed first
use Rattle.std.specs.Prelude.{Ok}
use Rattle.std.proofs.Common.{sym, refl, ap, ◌∙◌, rules}
use Rattle.judge.specs.FirstFault.{upper_counts, first_fault}
use Rattle.judge.proofs.FirstFaultLaws.{searched-found, searched-refused}
use Rattle.judge.proofs.RowCode.{readable-within, tested, packed-passes, searchable, counts-known}
use Rattle.judge.proofs.first_fault.first_fault.Goals as goal

pub returns-in_err-test_row : goal.returns-in_err-test_row
returns-in_err-test_row c = rw (← searched-refused c.args.rule c.args.row.now (sym c.test_row.ensures ∙ c.in_err-test_row.was)) (search rules)

pub pack-requires : goal.pack-requires
pack-requires c = let w = readable-within _ (tested _ _ (sym c.test_row.ensures ∙ c.in_ok-test_row.was)).good in (w.0, w.1, (refl, refl))

pub search_row-requires : goal.search_row-requires
search_row-requires c = searchable (packed-passes (tested _ _ (sym c.test_row.ensures ∙ c.in_ok-test_row.was)) _ c.pack.ensures)

pub returns : goal.returns
returns c =
    let e = sym c.test_row.ensures ∙ c.in_ok-test_row.was in
    let u = counts-known (packed-passes (tested _ _ e) _ c.pack.ensures) in
    ap Ok ((c.search_row.ensures.row_tallied _ u).fault_is ∙ ap (λ l. first_fault (upper_counts l) c.args.row.now) c.pack.ensures.held)
    ∙ searched-found c.args.rule c.args.row.now e
