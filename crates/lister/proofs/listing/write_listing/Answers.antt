-- Nothing is written before the length is known; then the lines of all cues, and the last line behind them.
use Rattle.std.proofs.Common.{arith, ap, ◌∙◌, ◌≡◌, ◌≤◌, ◌+◌, [], ◌∷◌, ◌++◌, drop, length, length-append}
use Rattle.std.specs.Prelude.{map}
use Rattle.fields.specs.{Split.line_feed, Split.lines, Split.unlines, Put.Laws.put_front}
use Rattle.lister.specs.{Listing.word, Listing.total_line, Making.lines_said, Making.Laws.written_behind}
use Rattle.lister.proofs.listing.write_listing.Goals as goal

pub returns-clause-buffer_after : goal.returns-clause-buffer_after
returns-clause-buffer_after c =
    let x = unlines (lines_said c.args.said.now (lines c.args.cues.now)) in
    let y = total_line (map word c.args.said.now) ++ (line_feed ∷ []) in
    let room : c.lines_length-above.result + length y ≤ length c.args.buffer.now =
    omega (arith, c.write_total-below.ensures.end_is, c.if-buffer-length.false) in
    let p = written_behind x y _ c.write_lines.ensures c.lines_length-above.ensures.value (put_front c.write_total-below.ensures) room
    c.put.ensures.value c.put.ensures.buffer_after in
    let z : 0 + length (x ++ y) ≡ c.lines_length-above.result + c.write_total-below.result =
    omega (arith, length-append x y, c.lines_length-above.ensures.value, c.write_total-below.ensures.end_is) in
    p.text_is ∙ ap (λ j. (x ++ y) ++ drop j c.args.buffer.now) z
