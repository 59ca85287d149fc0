use Rattle.std.proofs.Common.{◌<◌, ◌≤◌, length, map, sym, ◌∙◌}
use Rattle.std.proofs.lemmas.List.{length-map, get_or_default}
use Rattle.std.proofs.Math.ListN.{get_or-map, get_or-eq_default}
use Rattle.model.specs.Rule.{unused}
use Rattle.judge.specs.Packed.{node_in}
use Rattle.judge.proofs.depth.NumberedNodes.node.Goals as goal

pub returns-then-place-self : goal.returns-then-place-self
returns-then-place-self c =
    let words = c.args.self.now.words.now in
    let h : c.args.place < length (map node_in words) = rw length-map c.if-place-self.true in
    c.unpacked.ensures
    ∙ sym (get_or-map node_in words c.args.place 0) ∙ get_or_default (map node_in words) c.args.place (node_in 0) unused h

pub returns-else-place-self : goal.returns-else-place-self
returns-else-place-self c =
    let words = c.args.self.now.words.now in
    let h : length (map node_in words) ≤ c.args.place = rw length-map c.if-place-self.false in
    sym (get_or-eq_default (map node_in words) unused h)
