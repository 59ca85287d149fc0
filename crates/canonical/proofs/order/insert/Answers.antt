use Rattle.std.proofs.Common.{refl, arith}
use Rattle.canonical.specs.Writer.Lists.{Laws.moved-on, Narrow.inserted-there}
use Rattle.canonical.proofs.order.insert.Goals as goal

pub returns : goal.returns
returns c =
    let p = c.requires in
    let w = c.place_of-place.ensures in
    inserted-there w (omega (arith, p.range, p.list_length)) refl
    (moved-on w.inside.0 w.inside.2 (omega (arith, p.range, p.list_length)) c.copy_within.ensures.len c.copy_within.ensures.after)
