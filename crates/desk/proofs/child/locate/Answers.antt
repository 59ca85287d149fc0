-- The name of the child, and its number.
use Rattle.std.proofs.Common.{◌∙◌, ◌+◌, ◌≤◌, length, arith}
use Rattle.std.proofs.lemmas.Result.{err_from_is_err_and}
use Rattle.desk.specs.Child.Code.{read-refused, read-missing, none-refused, hands-foreign, own-few, own-inside, hands-own}
use Rattle.desk.proofs.child.locate.Goals as goal

pub returns-in_err-read-clause-refusal : goal.returns-in_err-read-clause-refusal
returns-in_err-read-clause-refusal c =
    let p = err_from_is_err_and c.from_residual.result c.from_residual.ensures.1 in
    let u = c.in_err-read.field-0.0 in
    rw (p.1, p.2) (read-refused c.args.model.now c.read_model-read.ensures c.args.children.now c.args.k u c.in_err-read.was)

pub returns-in_err-name-clause-refusal : goal.returns-in_err-name-clause-refusal
returns-in_err-name-clause-refusal c =
    let p = err_from_is_err_and c.from_residual-in_err-name.result c.from_residual-in_err-name.ensures.1 in
    let f = c.in_err-name.field-0.0 in
    rw (p.1, p.2) (read-missing c.args.model.now c.read_model-read.ensures c.in_ok-read.was c.args.children.now c.args.k f c.in_err-name.ensures.refusal)

pub returns-then-number-eq0-clause-part : goal.returns-then-number-eq0-clause-part
returns-then-number-eq0-clause-part c =
    hands-foreign c.args.model.now c.read_model-read.ensures c.in_ok-read.was c.in_ok-name.ensures.part (c.from-number.ensures ∙ c.number_of.ensures)
    c.args.model.ref_ptr c.if-number-eq0.true

pub returns-then-number-eq0-clause-no_refusal : goal.returns-then-number-eq0-clause-no_refusal
returns-then-number-eq0-clause-no_refusal c =
    none-refused c.args.model.now c.read_model-read.ensures c.in_ok-read.was c.in_ok-name.ensures.part (c.from-number.ensures ∙ c.number_of.ensures)

pub bounds-read-number : goal.bounds-read-number
bounds-read-number c =
    own-few c.args.model.now c.read_model-read.ensures c.in_ok-read.was c.in_ok-name.ensures.part (c.from-number.ensures ∙ c.number_of.ensures)
    c.if-number-eq0.false

-- the place lies inside the text
inside : (c : goal.After-from) → c.from-start.result + c.from.result ≤ length c.args.model.now
inside c =
    rw (c.from-start.ensures, c.from.ensures)
    (own-inside c.args.model.now c.read_model-read.ensures c.in_ok-read.was c.in_ok-name.ensures.part (c.from-number.ensures ∙ c.number_of.ensures)
    c.if-number-eq0.false)

pub overflow_add-end : goal.overflow_add-end
overflow_add-end c = omega (arith, inside c)

pub slice_bounds-result-end : goal.slice_bounds-result-end
slice_bounds-result-end c = inside c

pub returns-clause-part : goal.returns-clause-part
returns-clause-part c =
    rw (c.from-start.ensures, c.from.ensures)
    (hands-own c.args.model.now c.read_model-read.ensures c.in_ok-read.was c.in_ok-name.ensures.part (c.from-number.ensures ∙ c.number_of.ensures)
    c.if-number-eq0.false c.args.model.ref_ptr)

pub returns-clause-no_refusal : goal.returns-clause-no_refusal
returns-clause-no_refusal c =
    none-refused c.args.model.now c.read_model-read.ensures c.in_ok-read.was c.in_ok-name.ensures.part (c.from-number.ensures ∙ c.number_of.ensures)
