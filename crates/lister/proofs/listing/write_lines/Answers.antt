-- Each line goes into the part that the earlier ones left free.
use mathlib.Core.Logic.{inl, inr}
use Rattle.std.proofs.Common.{[], ◌∷◌, ◌++◌}
use Rattle.fields.specs.{Split.line_feed, Lines.lines_left}
use Rattle.fields.specs.Put.Laws.{begun_all, piece-room, piece-put}
use Rattle.lister.specs.{Listing.listing_line, Making.Laws.fit-next, Making.Laws.fit-rest, Making.Laws.said-next}
use Rattle.lister.specs.Making.Laws.{none-left, none_said}
use Rattle.lister.proofs.listing.write_lines.Goals as goal

pub write_line-written-requires : goal.write_line-written-requires
write_line-written-requires c =
    let l = listing_line c.in-Some.cue.now c.in-Some.one.now ++ (line_feed ∷ []) in
    let b = rw (said-next c.in-Some.ensures.steps.0 c.in-Some.ensures.steps.1) at c.loop-cue.invariant.so_far in
    (fit-next c.in-Some.ensures.steps.0 c.loop-cue.invariant.fit, piece-room l _ b)

pub loop-cue-preserved : goal.loop-cue-preserved
loop-cue-preserved c =
    let l = listing_line c.in-Some.cue.now c.in-Some.one.now ++ (line_feed ∷ []) in
    let b = rw (said-next c.in-Some.ensures.steps.0 c.in-Some.ensures.steps.1) at c.loop-cue.invariant.so_far in
    record {
      can = (tt, tt);
      ends = tt;
      fit = fit-rest c.in-Some.ensures.steps.0 c.loop-cue.invariant.fit;
      so_far = piece-put l _ b c.write_line-written.ensures;
    }

pub returns : goal.returns
returns c =
    elim c.in-None.ensures.steps [
      | inl p ↦ begun_all (rw (none-left c.loop-cue.cue-iterator.b.rest.now p.1.0) at c.loop-cue.invariant.so_far)
      | inr p ↦ begun_all (rw (none_said c.loop-cue.cue-iterator.b.rest.now (lines_left c.loop-cue.cue-iterator.a) p.1.0) at c.loop-cue.invariant.so_far)
    ]
