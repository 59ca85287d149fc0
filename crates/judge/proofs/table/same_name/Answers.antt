-- Up to eight bytes by the key; else the first i bytes were compared.
use Rattle.std.proofs.Common.{sym, refl, ◌∙◌, arith}
use Rattle.judge.specs.Reading.Table.Key.{key-tells, eight-more, eight-differ, eight-last}
use Rattle.fields.specs.Bytes.Laws.{same-lengths}
use Rattle.judge.proofs.table.same_name.Goals as goal

pub returns-then-n-b : goal.returns-then-n-b
returns-then-n-b c = same-lengths c.args.a.now c.args.b.now c.if-n-b.true

pub returns-then-n-le8 : goal.returns-then-n-le8
returns-then-n-le8 c =
    key-tells c.args.a.now c.args.b.now c.if-n-b.false c.if-n-le8.true (λ i. omega (arith, c.type_inv.a i)) (λ i. omega (arith, c.type_inv.b i)) c.requires

pub returns-then-not-same_eight : goal.returns-then-not-same_eight
returns-then-not-same_eight c = eight-differ c.args.a.now c.args.b.now _ (sym c.same_eight.ensures ∙ c.if-not-same_eight.true)

pub loop-i-preserved : goal.loop-i-preserved
loop-i-preserved c = eight-more c.args.a.now c.args.b.now _ (sym c.same_eight.ensures ∙ c.if-not-same_eight.false) c.loop-i.invariant

pub returns : goal.returns
returns c =
    eight-last c.args.a.now c.args.b.now c.loop-i.i _ _ refl c.if-n-b.false (omega arith) c.loop-i-test.false c.loop-i.invariant c.same_eight-2.ensures
