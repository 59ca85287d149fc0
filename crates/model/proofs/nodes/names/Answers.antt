use Rattle.std.proofs.Common.{rules}
use Rattle.model.specs.Rule.{used}
use Rattle.model.proofs.Chains.{atoms_is}
use Rattle.model.proofs.nodes.names.Goals as goal

pub returns : goal.returns
returns c = rw (atoms_is (used c.args.rule)) (search rules)
