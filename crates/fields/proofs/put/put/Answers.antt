-- Byte by byte.
use Rattle.std.proofs.Common.{◌≡◌, ◌∙◌, ◌+◌, ap, arith}
use Rattle.std.proofs.Math.Seq.{paste-zero}
use Rattle.std.proofs.lemmas.List.Edits.{paste_more}
use Rattle.std.specs.Prelude.{set, get_or}
use Rattle.fields.specs.{Put.put_count, Put.put_end, Put.Laws.put-done}
use Rattle.fields.proofs.put.put.Goals as goal

pub loop-i-init : goal.loop-i-init
loop-i-init c = paste-zero c.args.buffer.now c.min-start.result c.args.bytes.now

pub loop-i-preserved : goal.loop-i-preserved
loop-i-preserved c =
    let a = c.args in
    let l = c.loop-i in
    ap (λ d. set d (c.min-start.result + l.i) (get_or a.bytes.now l.i 0)) l.invariant
    ∙ paste_more a.buffer.now c.min-start.result a.bytes.now l.i 0 (omega arith) (omega arith)

pub returns-clause-value : goal.returns-clause-value
unfolding put_end
returns-clause-value c = rw (c.min-count.ensures, c.min-start.ensures)

pub returns-clause-buffer_after : goal.returns-clause-buffer_after
returns-clause-buffer_after c =
    let a = c.args in
    let n : c.min-count.result ≡ put_count a.buffer.now a.at a.bytes.now = rw (c.min-count.ensures, c.min-start.ensures) in
    let i : c.loop-i.i ≡ c.min-count.result = omega arith in
    (put-done a.buffer.now _ a.bytes.now a.at _ _ c.min-start.ensures n (c.loop-i.invariant ∙ rw i)).1
