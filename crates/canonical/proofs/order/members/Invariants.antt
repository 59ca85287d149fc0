use Rattle.canonical.specs.Writer.Lists.Listing.{Listing}
use Rattle.canonical.proofs.order.members.Given as goal

abbrev pub invariant-loop-k : goal.invariant-loop-k
invariant-loop-k l = Listing l.text l.stack l.initial.list l.at l.start l.list l.k l.m
