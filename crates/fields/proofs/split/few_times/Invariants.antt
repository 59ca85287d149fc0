use Rattle.std.proofs.Common.{◌≡◌, ◌+◌, ◌≤◌, drop}
use Rattle.fields.specs.Split.{times}
use Rattle.fields.proofs.split.few_times.Given as goal

abbrev pub invariant-loop-b : goal.invariant-loop-b
invariant-loop-b l = (l.n ≤ l.b-index) × (l.n + times l.byte (drop l.b-index l.text) ≡ times l.byte l.text)
