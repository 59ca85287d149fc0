-- Cue by cue.
use Rattle.std.proofs.Common.{arith, rules, ap, sym, ◌∙◌, ◌<◌, length}
use Rattle.fields.specs.Split.{lines, Times.lines-few}
use Rattle.sheet.proofs.Left.{left_at}
use Rattle.lister.specs.{Listing.said, Making.Laws.said_set}
use Rattle.lister.proofs.listing.say_all.Goals as goal

pub loop-n-preserved : goal.loop-n-preserved
loop-n-preserved c =
    let h = c.in-Some.ensures.steps in
    let q = left_at (lines c.args.cues.now) c.loop-n.n-iterator.count (sym c.loop-n.invariant.left ∙ h.0) in
    let room : c.loop-n.n-iterator.count < length c.loop-n.said =
    omega (arith, q.0, lines-few c.args.cues.now, c.requires.1.short, c.loop-n.auto.said, c.requires.2) in
    record {
      can = search rules;
      ends = search rules;
      left = rw h.2 (sym q.2);
      so_far = rw (h.2, h.1)
          (said_set c.args.sheet.now c.args.cues.now c.loop-n.said c.loop-n.n-iterator.count room q.0 c.loop-n.invariant.so_far
          (c.say.ensures ∙ ap (said (lines c.args.sheet.now)) (sym q.1)));
    }
