use Rattle.std.proofs.Common.{◌≡◌, ◌&&◌, drop}
use Rattle.fields.specs.{Bytes.all, Split.tab, Split.other}
use Rattle.fields.proofs.children.is_tabless.Given as goal

abbrev pub invariant-loop-b : goal.invariant-loop-b
invariant-loop-b l = all (other tab) l.block ≡ (l.free && all (other tab) (drop l.b-index l.block))
