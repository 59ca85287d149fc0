-- Five bytes cannot come to more than `limit` says.
use Rattle.std.proofs.Common.{◌≡◌, ◌≤◌, take}
use Rattle.fields.specs.Bytes.{value}
use Rattle.sheet.specs.Cues.Laws.{limit}
use Rattle.sheet.proofs.cues.value_of.Given as goal

abbrev pub invariant-loop-digit : goal.invariant-loop-digit
invariant-loop-digit l = (l.number ≡ value (take l.digit-index l.digits)) × (l.number ≤ limit l.digit-index)
