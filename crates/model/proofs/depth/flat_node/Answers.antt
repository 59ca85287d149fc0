use Rattle.model.specs.Depth.{sign_in}
use Rattle.model.proofs.Chains.{some_empty_is, gathered_is}
use Rattle.model.proofs.depth.flat_node.Goals as goal

pub returns : goal.returns
returns c =
    let l = c.args.members.now in
    rw (some_empty_is l, gathered_is (sign_in c.args.kind) l, ← c.sign_of.ensures, ← c.some_empty.ensures, ← c.gathered.ensures, ← c.part.ensures)
    c.over.ensures
