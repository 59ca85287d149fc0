-- the array of a rule has no more than max_nodes places
use Rattle.std.proofs.Common.{◌≡◌, ◌∙◌, length, arith, rules, length-take, take_all}
use Rattle.fields.specs.{Stack.unmapped, Limits.max_nodes}
use Rattle.model.specs.Rule.{used}
use Rattle.model.proofs.pass.kept_of.Goals as goal

pub returns : goal.returns
returns g c =
    let r = c.args.rule in
    let n : length r.nodes ≡ 128 = search (rules, unmapped) in
    let l = length-take r.len r.nodes in
    c.first_kept.ensures ∙ rw (take_all max_nodes (used r) (omega arith))
