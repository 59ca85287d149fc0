-- At the first byte of a name the faults are tried in the order of their numbers (`Reading.Atom`).
use Rattle.std.proofs.Common.{◌≡◌, ◌<◌, sym, ap, ◌∙◌, arith, take, drop, ◌-◌}
use Rattle.judge.specs.Reading.{Table.slot_of, Table.parts_in, Table.last_in, Table.Laws.slot-empty}
use Rattle.judge.specs.Reading.Walk.{kept_in, names-few, names-tabled}
use Rattle.judge.specs.Reading.Atom.{name-behind, name-key, long-name, many-atoms, many-nodes, may-enter, repeated-name, name-read}
use Rattle.judge.specs.Reading.Atom.{name-stack, atom-member}
use Rattle.judge.proofs.reader.atom.Goals as goal
use Rattle.judge.proofs.reader.atom.Goals.{else-table-slot-ne0-via-then-table-slot-ne0+else-find-ne0, else-table-slot-ne0-via-else-table-slot-ne0}

pub returns-then-end-at-gt-MAX_NAME : goal.returns-then-end-at-gt-MAX_NAME
returns-then-end-at-gt-MAX_NAME c =
    let r = c.requires in
    rw c.new.ensures (long-name r.0 r.1 (name-behind r.0 r.1 c.name_end-read.ensures.end_is) c.if-end-at-gt-MAX_NAME.true)

pub returns-then-n-eq-MAX_ATOMS : goal.returns-then-n-eq-MAX_ATOMS
returns-then-n-eq-MAX_ATOMS c =
    let r = c.requires in
    let e = name-behind r.0 r.1 c.name_end-read.ensures.end_is in
    rw c.new-then-n-eq-MAX_ATOMS.ensures (many-atoms r.0 r.1 e c.if-end-at-gt-MAX_NAME.false c.if-n-eq-MAX_ATOMS.true)

pub returns-then-c-eq-MAX_NODES : goal.returns-then-c-eq-MAX_NODES
returns-then-c-eq-MAX_NODES c =
    let r = c.requires in
    let e = name-behind r.0 r.1 c.name_end-read.ensures.end_is in
    rw c.new-then-c-eq-MAX_NODES.ensures
    (many-nodes r.0 r.1 e c.if-end-at-gt-MAX_NAME.false (omega (arith, names-few r.0.named)) c.if-c-eq-MAX_NODES.true)

pub find-requires-clause-tabled : goal.find-requires-clause-tabled
find-requires-clause-tabled c = names-tabled c.requires.0.at_is c.requires.0.named

pub find-requires-clause-key_value : goal.find-requires-clause-key_value
find-requires-clause-key_value c =
    let r = c.requires in (
      name-key r.0 r.1 (name-behind r.0 r.1 c.name_end-read.ensures.end_is) c.name_end-read.ensures.key_is,
      c.slot_of-slot.ensures.0,
      c.slot_of-slot.ensures.1,
    )

pub returns-then-find-ne0 : goal.returns-then-find-ne0
returns-then-find-ne0 c =
    let r = c.requires in
    let e = name-behind r.0 r.1 c.name_end-read.ensures.end_is in
    rw c.new-then-find-ne0.ensures
    (repeated-name r.0 r.1 e c.if-end-at-gt-MAX_NAME.false (omega (arith, names-few r.0.named)) (omega (arith, r.0.held.few))
    (λ z. c.if-find-ne0.true (rw c.find.ensures.0 z)))

pub enter-requires : goal.enter-requires
enter-requires c =
    let r = c.requires in
    let e = name-behind r.0 r.1 c.name_end-read.ensures.end_is in
    may-enter r.0 r.1 e c.if-end-at-gt-MAX_NAME.false (omega (arith, names-few r.0.named)) _ c.slot_of-slot.ensures.1

pub atom_rest-requires : goal.atom_rest-requires
atom_rest-requires c =
    let r = c.requires in
    let e = name-behind r.0 r.1 c.name_end-read.ensures.end_is in
    let key = name-key r.0 r.1 e c.name_end-read.ensures.key_is in
    let x = c.args.text.now in
    let missed : last_in (parts_in x c.args.table.now.names c.args.c.names) (take (c.name_end-read.result.end - c.args.c.at) (drop c.args.c.at x)) ≡ 0 =
    elim c.else-table-slot-ne0.branch [
      | else-table-slot-ne0-via-then-table-slot-ne0+else-find-ne0 w ↦ sym w.find.ensures.0 ∙ w.if-find-ne0.false
      | else-table-slot-ne0-via-else-table-slot-ne0 w ↦
          slot-empty (names-tabled r.0.at_is r.0.named) _ (c.slot_of-slot.ensures.0 ∙ ap slot_of key) c.slot_of-slot.ensures.1 w.if-table-slot-ne0.false
    ] in
    let atoms : c.args.c.names < 64 = omega (arith, names-few r.0.named) in
    let nodes : c.args.c.nodes < 128 = omega (arith, r.0.held.few) in
    rw (name-stack r.0 r.1 e c.if-end-at-gt-MAX_NAME.false atoms nodes missed)
    (name-read r.0 r.1 e c.if-end-at-gt-MAX_NAME.false atoms nodes missed)

pub returns : goal.returns
returns c =
    let r = c.requires in
    let e = name-behind r.0 r.1 c.name_end-read.ensures.end_is in
    let key = name-key r.0 r.1 e c.name_end-read.ensures.key_is in
    let x = c.args.text.now in
    let missed : last_in (parts_in x c.args.table.now.names c.args.c.names) (take (c.name_end-read.result.end - c.args.c.at) (drop c.args.c.at x)) ≡ 0 =
    elim c.else-table-slot-ne0.branch [
      | else-table-slot-ne0-via-then-table-slot-ne0+else-find-ne0 w ↦ sym w.find.ensures.0 ∙ w.if-find-ne0.false
      | else-table-slot-ne0-via-else-table-slot-ne0 w ↦
          slot-empty (names-tabled r.0.at_is r.0.named) _ (c.slot_of-slot.ensures.0 ∙ ap slot_of key) c.slot_of-slot.ensures.1 w.if-table-slot-ne0.false
    ] in
    let atoms : c.args.c.names < 64 = omega (arith, names-few r.0.named) in
    let nodes : c.args.c.nodes < 128 = omega (arith, r.0.held.few) in
    let w = c.enter in
    atom-member r.0 r.1 e c.if-end-at-gt-MAX_NAME.false atoms nodes missed key c.slot_of-slot.ensures.0 c.slot_of-slot.ensures.1
    c.atom_rest.new.work (kept_in w.new.self) w.ensures.names_after w.ensures.heads_after c.atom_rest.result c.atom_rest.ensures
