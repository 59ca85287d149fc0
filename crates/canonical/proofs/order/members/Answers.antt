use Rattle.std.proofs.Common.{◌+◌, ◌<◌, refl, sym, ◌∙◌, arith}
use Rattle.canonical.specs.Writer.Lists.{head_at, Listing.listing_none, Listing.next-member, Listing.insert-ready, Listing.listing-sorted, Listing.listing-kept}
use Rattle.canonical.proofs.order.members.Goals as goal
use Rattle.canonical.proofs.order.members.Goals.{then-is_group, else-is_group}

pub loop-k-init : goal.loop-k-init
loop-k-init c = listing_none c.requires

pub overflow_cast-list : goal.overflow_cast-list
overflow_cast-list c = omega (arith, next-member c.requires c.loop-k.invariant (omega (arith, c.from.ensures)))

pub insert-requires : goal.insert-requires
insert-requires c = insert-ready c.requires c.loop-k.invariant (omega (arith, c.from.ensures)) (sym c.is_group.ensures ∙ c.if-is_group.false)

pub offset_bounds-stack-m : goal.offset_bounds-stack-m
offset_bounds-stack-m c = omega (arith, next-member c.requires c.loop-k.invariant (omega (arith, c.from.ensures)))

pub bounds-stack-m : goal.bounds-stack-m
bounds-stack-m c = omega (arith, next-member c.requires c.loop-k.invariant (omega (arith, c.from.ensures)))

pub loop-k-preserved : goal.loop-k-preserved
loop-k-preserved c =
    let l : c.loop-k.k < c.args.start + (head_at c.args.stack.now c.args.at).members = omega (arith, c.from.ensures) in
    rw c.from-m.ensures (elim c.if-is_group.branch [
      | then-is_group w ↦ listing-kept c.requires c.loop-k.invariant l refl w.list-is (sym c.is_group.ensures ∙ w.if-is_group.true)
      | else-is_group w ↦ listing-sorted c.requires c.loop-k.invariant l refl w.list-is (sym c.is_group.ensures ∙ w.if-is_group.false) w.insert.ensures
    ])
