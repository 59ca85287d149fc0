use Rattle.std.proofs.Common.{◌≡◌, ◌-◌, refl, take, drop, take_all, length-drop, arith}
use Rattle.canonical.specs.Writer.{Stack.Skip.least_inside, Lists.head_at}
use Rattle.canonical.specs.Writer.Length.Laws.{plain-short, mark-short, words-length, words_step, words-over}
use Rattle.canonical.proofs.write.signed_length.Goals as goal

pub plain_length-requires : goal.plain_length-requires
plain_length-requires c =
    let x = c.args.text.now in
    let items = drop c.args.top c.args.stack.now in
    let e : take (128 - c.args.top) items ≡ items = take_all (128 - c.args.top) items (rw length-drop (omega (arith, c.requires.entries))) in
    let l = least_inside x items {low = 0} {p = c.loop-head.head-index} (omega arith)
    (rw length-drop (omega (arith, c.requires.entries))) c.requires.heads refl in
    rw e l

pub overflow_add-sum : goal.overflow_add-sum
overflow_add-sum c =
    let x = c.args.text.now in
    let items = drop c.args.top c.args.stack.now in
    let e : take (128 - c.args.top) items ≡ items = take_all (128 - c.args.top) items (rw length-drop (omega (arith, c.requires.entries))) in
    let l = least_inside x items {low = 0} {p = c.loop-head.head-index} (omega arith)
    (rw length-drop (omega (arith, c.requires.entries))) c.requires.heads refl in
    let p = rw e at c.plain_length.ensures in
    let m = rw e at c.mark_length.ensures in
    omega (arith, plain-short x (head_at items c.loop-head.head-index) l c.requires.short, mark-short (head_at items c.loop-head.head-index).mark, p, m)

pub overflow_add-sum-in-loop-head : goal.overflow_add-sum-in-loop-head
overflow_add-sum-in-loop-head c =
    let x = c.args.text.now in
    let items = drop c.args.top c.args.stack.now in
    let e : take (128 - c.args.top) items ≡ items = take_all (128 - c.args.top) items (rw length-drop (omega (arith, c.requires.entries))) in
    let l = least_inside x items {low = 0} {p = c.loop-head.head-index} (omega arith)
    (rw length-drop (omega (arith, c.requires.entries))) c.requires.heads refl in
    let p = rw e at c.plain_length.ensures in
    let m = rw e at c.mark_length.ensures in
    omega (arith, plain-short x (head_at items c.loop-head.head-index) l c.requires.short, mark-short (head_at items c.loop-head.head-index).mark, p, m)

pub overflow_add-sum-in-loop-head-2 : goal.overflow_add-sum-in-loop-head-2
overflow_add-sum-in-loop-head-2 c =
    let x = c.args.text.now in
    let items = drop c.args.top c.args.stack.now in
    let e : take (128 - c.args.top) items ≡ items = take_all (128 - c.args.top) items (rw length-drop (omega (arith, c.requires.entries))) in
    let l = least_inside x items {low = 0} {p = c.loop-head.head-index} (omega arith)
    (rw length-drop (omega (arith, c.requires.entries))) c.requires.heads refl in
    let p = rw e at c.plain_length.ensures in
    let m = rw e at c.mark_length.ensures in
    omega (arith, plain-short x (head_at items c.loop-head.head-index) l c.requires.short, mark-short (head_at items c.loop-head.head-index).mark, p, m)

pub loop-head-preserved : goal.loop-head-preserved
loop-head-preserved c =
    let x = c.args.text.now in
    let items = drop c.args.top c.args.stack.now in
    let e : take (128 - c.args.top) items ≡ items = take_all (128 - c.args.top) items (rw length-drop (omega (arith, c.requires.entries))) in
    let l = least_inside x items {low = 0} {p = c.loop-head.head-index} (omega arith)
    (rw length-drop (omega (arith, c.requires.entries))) c.requires.heads refl in
    let p = rw e at c.plain_length.ensures in
    let m = rw e at c.mark_length.ensures in
    let i = rw e at c.loop-head.invariant.1 in
    let w = words_step x items c.loop-head.head-index (rw length-drop (omega (arith, c.requires.entries))) in
    let h = head_at items c.loop-head.head-index in
    (omega (arith, plain-short x h l c.requires.short, mark-short h.mark, p, m, c.loop-head.invariant.0), rw e (omega (arith, w, p, m, i)))

pub returns : goal.returns
returns c =
    let x = c.args.text.now in
    let items = drop c.args.top c.args.stack.now in
    let e : take (128 - c.args.top) items ≡ items = take_all (128 - c.args.top) items (rw length-drop (omega (arith, c.requires.entries))) in
    let i = rw e at c.loop-head.invariant.1 in
    omega (arith, i, words-over x items c.loop-head.head-index (rw length-drop (omega (arith, c.requires.entries))), words-length x items c.requires.heads)
