use Rattle.std.proofs.Common.{sym, ◌∙◌, arith}
use Rattle.model.specs.Rule.Numbers.{search-found, search-passed}
use Rattle.model.proofs.nodes.node_of_name.Goals as goal

pub returns-then-left-ones : goal.returns-then-left-ones
returns-then-left-ones c =
    let v = c.loop-i in
    let e = v.invariant.0 in
    search-found c.args.rule v.i v.left _ _ (rw e at c.loop-i-test.true) v.invariant.1 (rw e at c.atoms_of-ones.ensures.0) c.if-left-ones.true
    ∙ v.invariant.2

pub loop-i-preserved : goal.loop-i-preserved
loop-i-preserved c =
    let v = c.loop-i in
    let e = v.invariant.0 in
    let inside = rw e at c.loop-i-test.true in
    let passed = search-passed c.args.rule v.i v.left _ _ inside v.invariant.1 (rw e at c.atoms_of-ones.ensures.0) c.if-left-ones.false in
    (e, omega arith, sym passed ∙ v.invariant.2)
