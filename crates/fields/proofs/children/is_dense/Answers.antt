-- Block by block.
use Rattle.std.proofs.Common.{sym, ◌∙◌, arith}
use Rattle.std.specs.Slice.Iter.{chunks_exact_rest}
use Rattle.fields.specs.Children.Blocks.{dense-none, dense-block, dense-end}
use Rattle.fields.proofs.children.is_dense.Goals as goal

pub loop-block-init : goal.loop-block-init
loop-block-init c =
    let made = c.chunks_exact-block-items.ensures in
    rw c.into_iter-block-iterator.ensures.into_iter_gives
    (omega (arith, made.size), tt, made.size, λ e. dense-none c.args.children.now (rw made.rest at e))

pub loop-block-preserved : goal.loop-block-preserved
loop-block-preserved c =
    let s = c.in-Some.ensures.steps in
    let v = c.loop-block.invariant in
    let n = s.0 ∙ v.2 in
    let t = sym c.is_tabless.ensures ∙ c.if-is_tabless.false in
    let d = rw s.1.0 at v.3 in
    (omega (arith, n), tt, n, dense-block c.args.children.now c.in-Some.block.now (chunks_exact_rest c.next.new.self) (s.1.1 ∙ v.2) t d)

pub returns : goal.returns
returns c =
    let s = c.in-None.ensures.steps in
    let v = c.loop-block.invariant in
    λ e. dense-end c.args.children.now (chunks_exact_rest c.loop-block.block-iterator) (omega (arith, s.1.0, v.2)) v.3
