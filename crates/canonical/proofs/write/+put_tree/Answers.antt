use Rattle.std.proofs.Common.{sym, ◌∙◌, arith}
use Rattle.canonical.specs.Writer.Written.{atom-fits, atom-mark-fits, atom-put, members-ready, writing_begins, member-next}
use Rattle.canonical.specs.Writer.Written.{writing-goes-on, bracket-fits, group-mark-fits, group-put}
use Rattle.canonical.proofs.write.+put_tree.Goals as goal

-- An atom.
pub put_atom-end-requires : goal.put_atom-end-requires
put_atom-end-requires t c = rw c.from.ensures (atom-fits c.requires (sym c.is_atom.ensures ∙ c.if-is_atom.true))

pub put_mark-requires : goal.put_mark-requires
put_mark-requires t c =
    atom-mark-fits c.requires (sym c.is_atom.ensures ∙ c.if-is_atom.true) (rw c.from.ensures at c.put_atom-end.ensures)

pub returns-then-is_atom : goal.returns-then-is_atom
returns-then-is_atom t c =
    atom-put c.requires (sym c.is_atom.ensures ∙ c.if-is_atom.true) (rw c.from.ensures at c.put_atom-end.ensures) c.put_mark.ensures

-- A group.
pub members-end-requires : goal.members-end-requires
members-end-requires t c = members-ready c.requires

pub loop-k-init : goal.loop-k-init
loop-k-init t c = writing_begins c.requires (sym c.is_atom.ensures ∙ c.if-is_atom.false) c.members-end.ensures

pub bounds-buffer-p : goal.bounds-buffer-p
bounds-buffer-p t c = (member-next c.requires c.members-end.ensures c.loop-k.invariant c.loop-k-test.true).byte_fits

pub put_tree-p-requires : goal.put_tree-p-requires
put_tree-p-requires t c =
    let n = member-next c.requires c.members-end.ensures c.loop-k.invariant c.loop-k-test.true in
    (omega (arith, c.decreases, c.from-m.ensures, n.above, n.ready.inside), rw c.from-m.ensures n.ready)

pub loop-k-preserved : goal.loop-k-preserved
loop-k-preserved t c =
    let w = rw c.from-m.ensures at c.put_tree-p.ensures in
    rw c.byte-sign.ensures (writing-goes-on c.requires c.members-end.ensures c.loop-k.invariant c.loop-k-test.true w)

-- Behind the members.
pub bounds-buffer-p-2 : goal.bounds-buffer-p-2
bounds-buffer-p-2 t c = bracket-fits c.requires c.members-end.ensures c.loop-k.invariant c.loop-k-test.false

pub put_mark-requires-2 : goal.put_mark-requires-2
put_mark-requires-2 t c = group-mark-fits c.requires c.members-end.ensures c.loop-k.invariant c.loop-k-test.false

pub returns : goal.returns
returns t c = group-put c.requires c.members-end.ensures c.loop-k.invariant c.loop-k-test.false c.put_mark-2.ensures
