-- Child behind child: those passed are names and not at fault, and they are seen.
use Rattle.std.proofs.Common.{◌≡◌, ◌-◌, ◌≤◌, take, drop, sym, refl, ap, ◌∙◌, arith}
use borrow.Author.{Tests.ltb-true, Tests.ltb-false}
use Rattle.model.specs.Syntax.{number_in}
use Rattle.judge.specs.{Packed.Laws.seen_at, Packed.Laws.seen-set, Packed.Laws.same_set, Reading.Laws.last-number}
use Rattle.judge.specs.Reply.Children.{row_whole, no_row}
use Rattle.judge.specs.Reading.Table.{key_of, parts_in, last_in}
use Rattle.judge.proofs.RowTallyLaws.{row-starts, row-stops, row_goes, row_ends}
use Rattle.judge.proofs.ReplyChildrenLaws.{child-unnamed, met-name, walk-starts, walk-stops, walk_inside, walk-number, walk-goes}
use Rattle.judge.proofs.ReplyChildrenLaws.{walk-faulty, walk-all, walk-few, walk-many}
use Rattle.judge.proofs.reply.tally_children.Goals as goal

pub loop-at-init : goal.loop-at-init
loop-at-init c = record {
  passed = walk-starts c.args.children.now c.requires.children_nonzero.0;
  same = (refl, refl);
  seen = λ us t. row-starts _ t;
}

pub returns-then-not-name_begins-clause-children_tallied : goal.returns-then-not-name_begins-clause-children_tallied
returns-then-not-name_begins-clause-children_tallied c =
    let x = c.args.children.now in
    let unnamed = child-unnamed x c.loop-at.at (sym c.name_begins.ensures ∙ c.if-not-name_begins.true) in
    λ us t. no_row (walk-stops x c.loop-at.invariant.passed c.loop-at-test.true unnamed)

pub returns-then-not-is_child-clause-children_tallied : goal.returns-then-not-is_child-clause-children_tallied
returns-then-not-is_child-clause-children_tallied c =
    let unnamed = sym c.is_child.ensures ∙ c.if-not-is_child.true in
    λ us t. no_row (walk-stops c.args.children.now c.loop-at.invariant.passed c.loop-at-test.true unnamed)

pub look_up-requires : goal.look_up-requires
look_up-requires c =
    let p = c.loop-at.invariant in
    let x = c.args.children.now in
    let m = met-name x c.loop-at-test.true c.name_end-read.ensures.end_is (sym c.is_child.ensures ∙ c.if-not-is_child.false) in
    (c.requires.tabled.0, c.name_end-read.ensures.key_is ∙ ap key_of (sym (m.part_is ∙ m.name_is)))

pub returns-then-is_full-clause-children_tallied : goal.returns-then-is_full-clause-children_tallied
returns-then-is_full-clause-children_tallied c =
    let p = c.loop-at.invariant in
    let x = c.args.children.now in
    let m = met-name x c.loop-at-test.true c.name_end-read.ensures.end_is (sym c.is_child.ensures ∙ c.if-not-is_child.false) in
    let ns = parts_in c.args.model.now c.args.table.now.names c.args.past.names in
    let child = take (c.name_end-read.result.end - c.loop-at.at) (drop c.loop-at.at x) in
    let told : c.look_up.result ≡ number_in ns child = ◌∙◌ {b = last_in ns child} c.look_up.ensures.0 (last-number ns child c.requires.tabled.1) in
    let number : c.from-number.result ≡ number_in ns child = c.from-number.ensures ∙ told in
    let fits : c.from-number.result ≤ 64 = omega (arith, c.from-number.ensures, c.look_up.ensures.1) in
    let few : c.loop-at.count ≤ 32768 = omega (arith, p.passed.apart, c.loop-at-test.true, c.requires.children_nonzero.1) in
    let e = seen_at c.loop-at.words c.from-number.result in
    let h = c.loop-at-test.true in
    λ us t. rw c.stopped.ensures
    (walk-faulty x p.passed h m us ns _
    (row-stops (p.seen us t) (walk_inside x p.passed h m ns) (omega (arith, few)) (walk-number x p.passed h m ns number) fits
    (rw e (ltb-true _ _ (sym c.is_full.ensures ∙ c.if-is_full.true)))))

pub loop-at-preserved : goal.loop-at-preserved
loop-at-preserved c =
    let p = c.loop-at.invariant in
    let x = c.args.children.now in
    let m = met-name x c.loop-at-test.true c.name_end-read.ensures.end_is (sym c.is_child.ensures ∙ c.if-not-is_child.false) in
    let ns = parts_in c.args.model.now c.args.table.now.names c.args.past.names in
    let child = take (c.name_end-read.result.end - c.loop-at.at) (drop c.loop-at.at x) in
    let told : c.look_up.result ≡ number_in ns child = ◌∙◌ {b = last_in ns child} c.look_up.ensures.0 (last-number ns child c.requires.tabled.1) in
    let number : c.from-number.result ≡ number_in ns child = c.from-number.ensures ∙ told in
    let fits : c.from-number.result ≤ 64 = omega (arith, c.from-number.ensures, c.look_up.ensures.1) in
    let few : c.loop-at.count ≤ 32768 = omega (arith, p.passed.apart, c.loop-at-test.true, c.requires.children_nonzero.1) in
    let e = seen_at c.loop-at.words c.from-number.result in
    let h = c.loop-at-test.true in
    let w = c.loop-at.words in
    record {
      passed = walk-goes x p.passed h m;
      same = same_set c.args.words.now w p.same c.from-number.result c.noted.result;
      seen = λ us t. rw (seen-set w c.from-number.result c.noted.result)
          (row_goes (p.seen us t) (walk_inside x p.passed h m ns) (omega (arith, few)) (walk-number x p.passed h m ns number) fits
          (rw e (ltb-false _ _ (sym c.is_full.ensures ∙ c.if-is_full.false))) (rw e c.noted.ensures));
    }

pub returns-then-count-gt-MAX_ROW-clause-children_tallied : goal.returns-then-count-gt-MAX_ROW-clause-children_tallied
returns-then-count-gt-MAX_ROW-clause-children_tallied c =
    let many = walk-many c.args.children.now c.loop-at.invariant.passed c.loop-at-test.false c.if-count-gt-MAX_ROW.true in λ us t. no_row many

pub returns-clause-children_tallied : goal.returns-clause-children_tallied
returns-clause-children_tallied c =
    let p = c.loop-at.invariant in
    let ns = parts_in c.args.model.now c.args.table.now.names c.args.past.names in
    let n = walk-all c.args.children.now p.passed c.loop-at-test.false ns in
    let all = walk-few c.args.children.now p.passed c.loop-at-test.false c.if-count-gt-MAX_ROW.false in
    λ us t. rw c.whole.ensures
    (row_whole all (row_ends (p.seen us t) (omega (arith, n)) (omega (arith, n, c.if-count-gt-MAX_ROW.false))))
