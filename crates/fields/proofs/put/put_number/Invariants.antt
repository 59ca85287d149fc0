use Rattle.std.proofs.Common.{◌≡◌, ◌++◌, ◌+◌, ◌<◌, ◌≤◌, length, drop}
use Rattle.fields.specs.Bytes.{digits}
use Rattle.fields.proofs.put.put_number.Given as goal

-- the digits behind place i are written, and the others have room before it
abbrev pub invariant-loop-rest : goal.invariant-loop-rest
invariant-loop-rest l =
    (digits l.number ≡ digits l.rest ++ drop (l.i + 1) l.digits) × (length l.digits ≡ 20) × (l.i < 20) × (length (digits l.rest) ≤ l.i + 1)

abbrev pub decreases-loop-rest : goal.decreases-loop-rest
decreases-loop-rest l = l.rest
