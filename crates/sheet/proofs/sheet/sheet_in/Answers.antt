-- The whole file first, then its lines.
use Rattle.std.proofs.Common.{ap, refl, sym, ◌∙◌}
use Rattle.std.proofs.lemmas.Result.{err_from_is_err_and}
use Rattle.sheet.specs.Sheet.{sheet_by}
use Rattle.sheet.proofs.WholeLaws.{sheet-whole, sheet-begin, sheet-refused}
use Rattle.sheet.proofs.sheet.sheet_in.Goals as goal

pub returns-in_err-check_whole : goal.returns-in_err-check_whole
returns-in_err-check_whole c =
    let e = sheet-refused c.args.text.now (sym c.check_whole.ensures ∙ c.in_err-check_whole.was) in
    let p = err_from_is_err_and c.from_residual.result c.from_residual.ensures.1 in
    rw (p.1, p.2, e) refl

pub read_lines-requires : goal.read_lines-requires
read_lines-requires c = sheet-whole c.args.text.now (sym c.check_whole.ensures ∙ c.in_ok-check_whole.was)

pub returns : goal.returns
returns c =
    c.read_lines.ensures
    ∙ ap (sheet_by c.args.text.now) (sym (sheet-begin c.args.text.now (sym c.check_whole.ensures ∙ c.in_ok-check_whole.was)))
