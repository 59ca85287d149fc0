-- Piece behind piece; 48 bytes hold them all.
use Rattle.std.proofs.Common.{[], ◌∷◌, ◌≤◌, length, arith}
use Rattle.fields.specs.{Split.tab, Split.line_feed, Put.Laws.begun-none, Put.Laws.begun-put, Put.Laws.begun-end}
use Rattle.sheet.specs.RefusalLine.{refusal_head, refusal_line, Laws.refusal-short}
use Rattle.sheet.proofs.refusal.put_refusal.Goals as goal

pub returns : goal.returns
returns c =
    let r = c.args.refusal in
    let short = refusal-short r.source r.number r.line (omega arith) (omega arith) in
    let room : length (refusal_line r.source r.number r.line) ≤ length c.args.buffer.now = omega (arith, short, c.requires) in
    let a = begun-put (refusal_head r.source) _ (begun-none room) (rw (← c.head.ensures) c.put-a.ensures.value)
    (rw (← c.head.ensures) c.put-a.ensures.buffer_after) in
    let b = begun-put _ _ a c.put_number-b.ensures.value c.put_number-b.ensures.buffer_after in
    let d = begun-put (tab ∷ []) _ b c.put-c.ensures.value c.put-c.ensures.buffer_after in
    let e = begun-put _ _ d c.put_number-d.ensures.value c.put_number-d.ensures.buffer_after in
    begun-end (begun-put (line_feed ∷ []) [] e c.put.ensures.value c.put.ensures.buffer_after)
