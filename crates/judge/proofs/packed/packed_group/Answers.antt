use Rattle.std.proofs.Common.{◌∙◌, ap, arith}
use Rattle.judge.specs.Packed.{node_in, unpack-group}
use Rattle.judge.proofs.packed.packed_group.Goals as goal

pub returns : goal.returns
returns c = ap node_in c.packed.ensures ∙ unpack-group _ _ c.requires (omega arith)
