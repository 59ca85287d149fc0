-- the nodes are no more than a rule's
use Rattle.std.proofs.Common.{◌≤◌, length, map, take, sym, ap, ◌∙◌, arith, length-take, take_all}
use Rattle.std.proofs.lemmas.List.{length-map}
use Rattle.fields.specs.Limits.{max_nodes}
use Rattle.model.specs.{Rule.Laws.used-with, Pass.first, Depth.nil_flat, Depth.flat_by}
use Rattle.judge.specs.Packed.{node_in}
use Rattle.judge.proofs.depth.depth_in.Goals as goal

pub returns : goal.returns
returns c =
    let words = c.args.words.now in
    let nodes = map node_in (take c.args.len words) in
    let h : length nodes ≤ max_nodes = rw (length-map, length-take) (omega arith) in
    ap (λ x. x.depth) c.first_kept-flat.ensures
    ∙ ap (λ l. (first flat_by l nil_flat).depth) (take_all max_nodes nodes h ∙ sym (used-with nodes))
