-- What the code cannot test, that the array has 128 places, is known of every array.
use Rattle.std.proofs.Common.{◌≡◌, length, sym, ◌∙◌, rules, le-leb}
use Rattle.fields.specs.Stack.{unmapped}
use Rattle.model.proofs.CheckExact.{few-readable, some-readable, none-unreadable}
use Rattle.model.proofs.check.is_readable.Goals as goal

pub returns-in_default : goal.returns-in_default
returns-in_default c =
    let l : length c.args.rule.nodes ≡ 128 = search (rules, unmapped) in
    none-unreadable c.args.rule l (sym c.in_default.is ∙ c.nesting.ensures)

pub returns-then-brackets-le-MAX_DEPTH : goal.returns-then-brackets-le-MAX_DEPTH
returns-then-brackets-le-MAX_DEPTH c =
    let l : length c.args.rule.nodes ≡ 128 = search (rules, unmapped) in
    let h = c.if-brackets-le-MAX_DEPTH.true in
    le-leb _ _ h ∙ few-readable c.args.rule l (sym c.in-Some.is ∙ c.nesting.ensures) h

pub returns-else-brackets-le-MAX_DEPTH : goal.returns-else-brackets-le-MAX_DEPTH
returns-else-brackets-le-MAX_DEPTH c =
    let l : length c.args.rule.nodes ≡ 128 = search (rules, unmapped) in
    some-readable c.args.rule l (sym c.in-Some.is ∙ c.nesting.ensures) c.depth.ensures
