-- Sheet, list, verdicts; then the listing.
use Rattle.std.proofs.Common.{arith, ap, sym, refl, ◌∙◌, length, length-take-le}
use Rattle.sheet.specs.Cues.{Good.good-cues}
use Rattle.sheet.proofs.{SheetGood.outcome-told, SheetPlaces.sheet-loaded}
use Rattle.lister.specs.{Listed.by_room, Listed.buffer_after, Making.Laws.list-counted, Making.Laws.said-all, Making.Laws.listing-said}
use Rattle.lister.specs.Making.Laws.{cues-said, listed-room}
use Rattle.lister.proofs.listing.list.Goals as goal

pub say_all-requires : goal.say_all-requires
say_all-requires c =
    let s = outcome-told c.args.sheet.now c.read_sheet-read.ensures c.in_ok-read.was in
    let g = good-cues c.args.cues.now _ (sym c.read_cues.ensures ∙ c.in_ok-count.was) in
    (rw c.read_sheet-read.ensures (sheet-loaded c.args.sheet.now s), g, refl)

pub slice_bounds-said-end : goal.slice_bounds-said-end
slice_bounds-said-end c = omega (arith, list-counted c.args.cues.now (sym c.read_cues.ensures ∙ c.in_ok-count.was), c.say_all.auto.said)

pub slice_bounds-write_listing-end : goal.slice_bounds-write_listing-end
slice_bounds-write_listing-end c =
    let k = list-counted c.args.cues.now (sym c.read_cues.ensures ∙ c.in_ok-count.was) in
    sym (length-take-le c.in_ok-count.count c.say_all.new.said (omega (arith, k, c.say_all.auto.said)))

pub write_listing-requires : goal.write_listing-requires
write_listing-requires c =
    let k = sym c.read_cues.ensures ∙ c.in_ok-count.was in
    let n = list-counted c.args.cues.now k in
    let e = said-all c.args.sheet.now c.args.cues.now c.say_all.new.said c.say_all.ensures n.0 in
    cues-said c.args.sheet.now c.args.cues.now e (good-cues c.args.cues.now _ k) n.1

pub returns : goal.returns
returns c =
    let s = outcome-told c.args.sheet.now c.read_sheet-read.ensures c.in_ok-read.was in
    let k = sym c.read_cues.ensures ∙ c.in_ok-count.was in
    let e = said-all c.args.sheet.now c.args.cues.now c.say_all.new.said c.say_all.ensures (list-counted c.args.cues.now k).0 in
    let i = listing-said c.args.sheet.now c.args.cues.now e in
    let old = c.args.buffer.now in
    record {
      value = c.write_listing.ensures.value ∙ ap (λ x. by_room x (length old)) i ∙ listed-room c.args.sheet.now c.args.cues.now (length old) s k;
      buffer_after = c.write_listing.ensures.buffer_after ∙ ap (λ x. buffer_after c.write_listing.result x old) i;
    }
