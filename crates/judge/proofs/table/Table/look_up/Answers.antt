-- The walk of `find` starts at the latest name of the slot, and where its key tells that name it ends there.
use Rattle.std.proofs.Common.{arith}
use Rattle.judge.specs.Reading.Table.Laws.{slot-starts, walk-fits, told-ends}
use Rattle.judge.proofs.table.Table.look_up.Goals as goal

pub told_by_key-requires : goal.told_by_key-requires
told_by_key-requires c =
    let e = slot-starts c.requires.0 (c.requires.1, c.slot_of-slot.ensures.0, c.slot_of-slot.ensures.1) in
    rw c.from-k.ensures (walk-fits c.requires.0 {name = c.args.name.now} e)

pub returns-then-told_by_key : goal.returns-then-told_by_key
returns-then-told_by_key c =
    let e = slot-starts c.requires.0 (c.requires.1, c.slot_of-slot.ensures.0, c.slot_of-slot.ensures.1) in
    let t = c.told_by_key.ensures c.if-told_by_key.true in
    rw c.from-k.ensures (
      told-ends c.requires.0 e (rw c.from-k.ensures at t) c.requires.1
          (λ i. omega (arith, c.type_inv.text i)) (λ i. omega (arith, c.type_inv.name i)),
      walk-fits c.requires.0 {name = c.args.name.now} e,
    )
