-- The check first, then the model; a good line stands where its fields do.
use Rattle.std.proofs.Common.{sym, ◌∙◌, arith, rules}
use Rattle.sheet.proofs.SheetLaws.{heads-fit, check-refused, refused_model, model-read}
use Rattle.sheet.proofs.sheet.read_line.Goals as goal

pub returns-in_err-check_line : goal.returns-in_err-check_line
returns-in_err-check_line c =
    rw (← check-refused c.args.text.now c.args.kinds c.args.at c.args.end (sym c.check_line.ensures ∙ c.in_err-check_line.was)) (search rules)

pub slice_bounds-read_model-count : goal.slice_bounds-read_model-count
slice_bounds-read_model-count c =
    omega (arith, heads-fit c.args.text.now c.args.kinds c.requires c.first_fields-ends.ensures.value (sym c.check_line.ensures ∙ c.in_ok-check_line.was))

pub slice_bounds-read_model-start : goal.slice_bounds-read_model-start
slice_bounds-read_model-start c =
    omega (arith, heads-fit c.args.text.now c.args.kinds c.requires c.first_fields-ends.ensures.value (sym c.check_line.ensures ∙ c.in_ok-check_line.was))

pub returns-in_err-model : goal.returns-in_err-model
returns-in_err-model c =
    rw (← refused_model c.args.text.now c.args.kinds c.args.at c.args.end c.first_fields-ends.ensures.value
    (sym c.check_line.ensures ∙ c.in_ok-check_line.was) c.read_model-model.ensures c.in_err-model.was) (search rules)

pub place_in-requires : goal.place_in-requires
place_in-requires c =
    let f = heads-fit c.args.text.now c.args.kinds c.requires c.first_fields-ends.ensures.value (sym c.check_line.ensures ∙ c.in_ok-check_line.was) in
    (omega arith, omega arith)

pub place_in-requires-2 : goal.place_in-requires-2
place_in-requires-2 c =
    let f = heads-fit c.args.text.now c.args.kinds c.requires c.first_fields-ends.ensures.value (sym c.check_line.ensures ∙ c.in_ok-check_line.was) in
    (omega arith, omega arith)

pub returns : goal.returns
returns c =
    model-read c.args.text.now c.args.kinds c.args.at c.args.end c.first_fields-ends.ensures.value
    (sym c.check_line.ensures ∙ c.in_ok-check_line.was) c.read_model-model.ensures c.place_in.ensures c.place_in-2.ensures c.in_ok-model.was
