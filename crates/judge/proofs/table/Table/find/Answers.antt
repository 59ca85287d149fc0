use Rattle.std.proofs.Common.{◌≡◌, sym, ◌∙◌, arith, ◌+◌, ◌-◌}
use Rattle.judge.specs.Reading.Table.Laws.{slot-starts, number_fits, keys-meet, find-ends, find-goes, find-passes}
use Rattle.judge.proofs.table.Table.find.Goals as goal

pub loop-k-init : goal.loop-k-init
loop-k-init c = rw c.from-k.ensures (slot-starts c.requires.tabled c.requires.key_value)

pub same_name-requires : goal.same_name-requires
same_name-requires c =
    rw (c.from-start.ensures, c.from.ensures)
    (keys-meet c.requires.tabled c.loop-k.invariant (λ z. omega arith) (c.if-self-k.true ∙ c.requires.key_value.0))

pub returns-then-same_name : goal.returns-then-same_name
returns-then-same_name c =
    let same = rw (c.from-start.ensures, c.from.ensures) at (sym c.same_name.ensures ∙ c.if-same_name.true) in
    let e = find-ends c.requires.tabled c.loop-k.invariant (λ z. omega arith) same in
    let z : c.loop-k.k - 1 + 1 ≡ c.loop-k.k = omega arith in
    (z ∙ e, omega (arith, number_fits c.requires.tabled c.loop-k.invariant (λ z. omega arith)))

pub loop-k-preserved-else-same_name : goal.loop-k-preserved-else-same_name
loop-k-preserved-else-same_name c =
    let other = rw (c.from-start.ensures, c.from.ensures) at (sym c.same_name.ensures ∙ c.if-same_name.false) in
    find-goes c.requires.tabled c.loop-k.invariant (λ z. omega arith) other

pub loop-k-preserved : goal.loop-k-preserved
loop-k-preserved c =
    find-passes c.requires.tabled c.loop-k.invariant (λ z. omega arith) (λ e. c.if-self-k.false (e ∙ sym c.requires.key_value.0))
