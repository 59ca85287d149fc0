use Rattle.std.proofs.Common.{◌≡◌, ◌+◌, ◌*◌, ◌≤◌, drop}
use Rattle.canonical.specs.Writer.Length.Laws.{words_length}
use Rattle.canonical.proofs.write.signed_length.Given as goal

abbrev pub invariant-loop-head : goal.invariant-loop-head
invariant-loop-head l =
    (l.sum ≤ 4098 * l.head-index) × (l.sum + words_length l.text (drop l.head-index l.head-items) ≡ words_length l.text l.head-items)
