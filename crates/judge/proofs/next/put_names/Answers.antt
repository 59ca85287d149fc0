use Rattle.std.proofs.Common.{refl, sym, ◌∙◌, arith}
use Rattle.model.specs.Word.{keep}
use Rattle.judge.proofs.NextCode.{found_none, found-more, found_same, placed-more, placed-room, placed_same, placed-all}
use Rattle.judge.proofs.next.put_names.Goals as goal
use Rattle.judge.proofs.next.put_names.Goals.{then-is_in, else-is_in}

pub loop-name-init : goal.loop-name-init
unfolding keep
loop-name-init c = record { looked = found_none _ _; row_is = refl }

pub bounds-row-found : goal.bounds-row-found
bounds-row-found c =
    let v = c.loop-name.invariant in
    let r = placed-room v.looked (omega arith) _ v.row_is (sym c.is_in.ensures ∙ c.if-is_in.true) (omega arith) c.requires.1 in omega arith

pub loop-name-preserved : goal.loop-name-preserved
loop-name-preserved c =
    let v = c.loop-name.invariant in
    elim c.if-is_in.branch [
      | then-is_in w ↦
          let e = sym c.is_in.ensures ∙ w.if-is_in.true in
          let r = placed-room v.looked (omega arith) _ v.row_is e (omega arith) c.requires.1 in
          let more = found-more v.looked (omega arith) e (omega arith) in
          rw (w.row-is, w.found-is) (record { looked = more; row_is = placed-more v.looked (omega arith) _ v.row_is e r })
      | else-is_in w ↦
          let e = sym c.is_in.ensures ∙ w.if-is_in.false in
          let same = found_same v.looked (omega arith) e (omega arith) in
          rw (w.row-is, w.found-is) (record { looked = same; row_is = placed_same v.looked (omega arith) _ v.row_is e })
    ]

pub returns : goal.returns
returns c = let v = c.loop-name.invariant in placed-all v.looked (omega arith) _ v.row_is (omega arith)

pub returns-after-is_in : goal.returns-after-is_in
returns-after-is_in c =
    let v = c.loop-name.invariant in
    elim c.if-is_in.branch [
      | then-is_in w ↦
          let e = sym c.is_in.ensures ∙ w.if-is_in.true in
          let r = placed-room v.looked (omega arith) _ v.row_is e (omega arith) c.requires.1 in
          let more = found-more v.looked (omega arith) e (omega arith) in
          rw w.row-is (placed-all more (omega arith) _ (placed-more v.looked (omega arith) _ v.row_is e r) (omega arith))
      | else-is_in w ↦
          let e = sym c.is_in.ensures ∙ w.if-is_in.false in
          let same = found_same v.looked (omega arith) e (omega arith) in
          rw w.row-is (placed-all same (omega arith) _ (placed_same v.looked (omega arith) _ v.row_is e) (omega arith))
    ]
