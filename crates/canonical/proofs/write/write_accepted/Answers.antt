use Rattle.std.proofs.Common.{sym, ◌∙◌, arith}
use Rattle.canonical.specs.Writer.Accepted.{whole-stands, whole_ready, nil-text, head-room, one-tree, tree-text}
use Rattle.canonical.proofs.write.write_accepted.Goals as goal

pub tidy-t-requires : goal.tidy-t-requires
tidy-t-requires c = whole_ready c.args.text.now c.requires.0 c.requires.1

pub returns-then-is_nothing-clause-value : goal.returns-then-is_nothing-clause-value
returns-then-is_nothing-clause-value c =
    let k = c.tidy-t.ensures c.requires.0 (whole-stands c.args.text.now c.requires.0 c.requires.1) in
    let n = sym c.is_nothing.ensures ∙ c.if-is_nothing.true in
    rw (c.requires.1, nil-text c.args.text.now c.requires.0 c.requires.1 k n) c.write_nothing.ensures.value

pub returns-then-is_nothing-clause-buffer_after : goal.returns-then-is_nothing-clause-buffer_after
returns-then-is_nothing-clause-buffer_after c =
    let k = c.tidy-t.ensures c.requires.0 (whole-stands c.args.text.now c.requires.0 c.requires.1) in
    let n = sym c.is_nothing.ensures ∙ c.if-is_nothing.true in
    rw (c.requires.1, nil-text c.args.text.now c.requires.0 c.requires.1 k n) c.write_nothing.ensures.buffer_after

pub overflow_sub-top : goal.overflow_sub-top
overflow_sub-top c =
    let k = c.tidy-t.ensures c.requires.0 (whole-stands c.args.text.now c.requires.0 c.requires.1) in
    omega (arith, head-room c.args.text.now c.requires.0 c.requires.1 k (sym c.is_nothing.ensures ∙ c.if-is_nothing.false))

pub offset_bounds-stack-top : goal.offset_bounds-stack-top
offset_bounds-stack-top c =
    let k = c.tidy-t.ensures c.requires.0 (whole-stands c.args.text.now c.requires.0 c.requires.1) in
    omega (arith, head-room c.args.text.now c.requires.0 c.requires.1 k (sym c.is_nothing.ensures ∙ c.if-is_nothing.false))

pub bounds-stack-top : goal.bounds-stack-top
bounds-stack-top c =
    let k = c.tidy-t.ensures c.requires.0 (whole-stands c.args.text.now c.requires.0 c.requires.1) in
    omega (arith, head-room c.args.text.now c.requires.0 c.requires.1 k (sym c.is_nothing.ensures ∙ c.if-is_nothing.false))

pub write_tree-requires : goal.write_tree-requires
write_tree-requires c =
    let k = c.tidy-t.ensures c.requires.0 (whole-stands c.args.text.now c.requires.0 c.requires.1) in
    one-tree c.args.text.now c.requires.0 c.requires.1 k (sym c.is_nothing.ensures ∙ c.if-is_nothing.false)

pub returns-clause-value : goal.returns-clause-value
returns-clause-value c =
    let k = c.tidy-t.ensures c.requires.0 (whole-stands c.args.text.now c.requires.0 c.requires.1) in
    let n = sym c.is_nothing.ensures ∙ c.if-is_nothing.false in
    rw (c.requires.1, ← tree-text c.args.text.now c.requires.0 c.requires.1 k n) c.write_tree.ensures.value

pub returns-clause-buffer_after : goal.returns-clause-buffer_after
returns-clause-buffer_after c =
    let k = c.tidy-t.ensures c.requires.0 (whole-stands c.args.text.now c.requires.0 c.requires.1) in
    let n = sym c.is_nothing.ensures ∙ c.if-is_nothing.false in
    rw (c.requires.1, ← tree-text c.args.text.now c.requires.0 c.requires.1 k n) c.write_tree.ensures.buffer_after
