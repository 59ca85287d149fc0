-- What was begun before the first number goes on behind each.
use Rattle.std.proofs.Common.{◌++◌, drop}
use Rattle.fields.specs.{Bytes.bytes, Put.Begun}
use Rattle.lister.specs.Listing.Total.{tabbed}
use Rattle.lister.proofs.total.write_total.Given as goal

abbrev pub invariant-loop-number : goal.invariant-loop-number
invariant-loop-number l = Begun l.fn.buffer l.buffer (bytes "total" ++ tabbed l.number-items) l.end (tabbed (drop l.number-index l.number-items))
