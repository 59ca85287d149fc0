-- Number behind number.
use Rattle.std.proofs.Common.{arith, ap, ◌∙◌, ◌≡◌, ◌≤◌, [], ◌∷◌, ◌++◌, drop_of_length-le, length}
use Rattle.std.specs.Prelude.{map}
use Rattle.std.proofs.lemmas.List.{length-map}
use Rattle.fields.specs.{Bytes.bytes, Split.tab, Split.line_feed, Put.Laws.begun-none, Put.Laws.begun-put, Put.Laws.begun-end}
use Rattle.lister.specs.Listing.{word, total_line, Total.tabbed, Total.tabbed-next, Total.total-is, Total.total-short}
use Rattle.lister.proofs.total.write_total.Goals as goal

pub loop-number-init : goal.loop-number-init
loop-number-init c =
    let ws = map word c.args.said.now in
    let is : bytes "total" ++ tabbed c.totals_of-totals.result ≡ total_line ws ++ (line_feed ∷ []) =
    ap (λ ns. bytes "total" ++ tabbed ns) c.totals_of-totals.ensures ∙ total-is ws in
    let room : length (bytes "total" ++ tabbed c.totals_of-totals.result) ≤ length c.args.buffer.now =
    omega (arith, ap length is, total-short ws (omega (arith, length-map c.args.said.now word, c.requires.0)), c.requires.1) in
    begun-put (bytes "total") _ (begun-none room) c.put-end.ensures.value c.put-end.ensures.buffer_after

pub loop-number-preserved : goal.loop-number-preserved
loop-number-preserved c =
    let ns = c.totals_of-totals.result in
    let more = rw (tabbed-next ns c.loop-number.number-index (omega arith)) at c.loop-number.invariant in
    let tabbed_one = begun-put (tab ∷ []) _ more c.put-end-in-loop-number.ensures.value c.put-end-in-loop-number.ensures.buffer_after in
    begun-put _ _ tabbed_one c.put_number-end.ensures.value c.put_number-end.ensures.buffer_after

pub returns : goal.returns
returns c =
    let ws = map word c.args.said.now in
    let ns = c.totals_of-totals.result in
    let is : bytes "total" ++ tabbed ns ≡ total_line ws ++ (line_feed ∷ []) = ap (λ ns. bytes "total" ++ tabbed ns) c.totals_of-totals.ensures ∙ total-is ws in
    let all = rw (drop_of_length-le ns {i = c.loop-number.number-index} (omega arith)) at c.loop-number.invariant in
    let done = begun-end (begun-put (line_feed ∷ []) [] all c.put.ensures.value c.put.ensures.buffer_after) in
    rw (is) at done
