use Rattle.std.proofs.Common.{ap, ◌∙◌}
use Rattle.model.specs.{Rule.used, Check.Scan.content-nesting, Check.Scan.formed-is}
use Rattle.model.proofs.check.nesting.Goals as goal

pub returns : goal.returns
returns c =
    let r = c.args.rule in
    let k = c.kept_of-content in
    let f = c.is_well_formed.ensures ∙ formed-is r k.result c.if-rule-gt-MAX_NODES.false k.ensures in
    let n = ap (λ x. x.nesting) k.ensures ∙ content-nesting (used r) in
    c.then_some.ensures ∙ rw (f, n)
