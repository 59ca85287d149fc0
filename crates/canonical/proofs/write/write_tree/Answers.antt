use Rattle.std.proofs.Common.{◌-◌, arith}
use Rattle.canonical.specs.Writer.Accepted.{text_at, no_room, one-length, tree-put}
use Rattle.canonical.proofs.write.write_tree.Goals as goal

pub returns-then-buffer-length-clause-value : goal.returns-then-buffer-length-clause-value
returns-then-buffer-length-clause-value c =
    let a = c.args in
    (no_room (text_at a.text.now a.stack.now a.top) a.buffer.now (omega (arith, one-length c.requires))).0

pub returns-then-buffer-length-clause-buffer_after : goal.returns-then-buffer-length-clause-buffer_after
returns-then-buffer-length-clause-buffer_after c =
    let a = c.args in
    (no_room (text_at a.text.now a.stack.now a.top) a.buffer.now (omega (arith, one-length c.requires))).1

pub returns-clause-value : goal.returns-clause-value
returns-clause-value c =
    let l = one-length c.requires in
    (tree-put c.requires {n = c.signed_length-length.result - 1} (omega (arith, l)) (omega (arith, l)) c.put_tree.ensures.put).0

pub returns-clause-buffer_after : goal.returns-clause-buffer_after
returns-clause-buffer_after c =
    let l = one-length c.requires in
    (tree-put c.requires {n = c.signed_length-length.result - 1} (omega (arith, l)) (omega (arith, l)) c.put_tree.ensures.put).1
