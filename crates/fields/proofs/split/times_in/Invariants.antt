use Rattle.std.proofs.Common.{◌≡◌, ◌+◌, ◌≤◌, length}
use Rattle.std.specs.Slice.Iter.{chunks_rest, chunks_size}
use Rattle.fields.specs.Split.{times}
use Rattle.fields.proofs.split.times_in.Given as goal

abbrev pub invariant-loop-part : goal.invariant-loop-part
invariant-loop-part l =
    (goal.iterator-loop-part).can_next l.part-iterator
    × (goal.iterator-loop-part).is_finite l.part-iterator
    × (chunks_size l.part-iterator ≡ 192)
    × (l.n + length (chunks_rest l.part-iterator) ≤ length l.text)
    × (l.n + times l.byte (chunks_rest l.part-iterator) ≡ times l.byte l.text)
