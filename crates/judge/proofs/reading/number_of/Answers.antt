use Rattle.std.proofs.Common.{◌≡◌, sym, ◌∙◌, arith, rules, length, get_or-take}
use Rattle.fields.specs.Stack.{unmapped}
use Rattle.judge.specs.Reading.{no_place}
use Rattle.judge.specs.Reading.Search.{number-found, number-next}
use Rattle.judge.proofs.reading.number_of.Goals as goal

pub returns-then-same_bytes : goal.returns-then-same_bytes
returns-then-same_bytes c =
    let long : length c.args.names.places ≡ 64 = search (rules, unmapped) in
    let place = get_or-take c.min-n.result c.args.names.places c.loop-i.i no_place (omega arith) in
    let same = sym c.same_bytes.ensures ∙ c.if-same_bytes.true in
    number-found c.args.text.now c.args.names c.args.name.now long c.loop-i.i (omega arith) (rw (← place, ← c.min-start.ensures, ← c.min-end.ensures) same)
    ∙ c.loop-i.invariant

pub loop-i-preserved : goal.loop-i-preserved
loop-i-preserved c =
    let long : length c.args.names.places ≡ 64 = search (rules, unmapped) in
    let place = get_or-take c.min-n.result c.args.names.places c.loop-i.i no_place (omega arith) in
    let other = sym c.same_bytes.ensures ∙ c.if-same_bytes.false in
    number-next c.args.text.now c.args.names c.args.name.now long c.loop-i.i (omega arith) (rw (← place, ← c.min-start.ensures, ← c.min-end.ensures) other)
    ∙ c.loop-i.invariant
