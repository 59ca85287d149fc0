-- Laws of the last line: its pieces, as they are put, and that 36 bytes hold it.
use mathlib.Core.{Path.◌≡◌, Path.refl, Path.ap, Path.sym, Path.◌∙◌, List.List, List.[], List.◌∷◌, List.◌++◌, List.map, List.append_assoc}
use Rattle.std.specs.Prelude.{Some, None, ℕ, ◌+◌, ◌≤◌, ◌<◌}
use native.Mathlib.{Omega.arith, Numerals.add-one}
use lib.{ListN.length, ListN.drop, ListN.get_or, ListN.length-append, Seq.drop-cons}
use Rattle.fields.specs.{Limits.max_file, Tests.by-test, Bytes.Text, Bytes.bytes, Bytes.same_text, Bytes.digits, Bytes.Numeral.digits-length}
use Rattle.fields.specs.Split.{line_feed, tab, joined_by}
use Rattle.model.specs.declared.verdict.Verdict.TheVariants.{Complete, Open, Dead}
use Rattle.lister.specs.Listing.{Said, word, times_among, totals, total_line}

-- a tab before each number, and a line feed
abbrev pub tabbed : List ℕ → Text
tabbed [] = line_feed ∷ []
tabbed (n ∷ ns) = tab ∷ (digits n ++ tabbed ns)

joined-tabbed : (p : Text) (ns : List ℕ) → p ++ tabbed ns ≡ joined_by tab (p ∷ map digits ns) ++ (line_feed ∷ [])
joined-tabbed p [] = refl
joined-tabbed p (n ∷ ns) =
    ap (λ r. p ++ (tab ∷ r)) (joined-tabbed (digits n) ns) ∙ sym (append_assoc p (tab ∷ joined_by tab (digits n ∷ map digits ns)) (line_feed ∷ []))

pub total-is : (ws : List Text) → bytes "total" ++ tabbed (totals ws) ≡ total_line ws ++ (line_feed ∷ [])
total-is ws = joined-tabbed (bytes "total") (totals ws)

pub tabbed-next : (ns : List ℕ) (i : ℕ) → i < length ns → tabbed (drop i ns) ≡ tab ∷ (digits (get_or ns i 0) ++ tabbed (drop (i + 1) ns))
tabbed-next ns i h = rw (drop-cons ns i 0 h, add-one)

among-few : (x : Text) (ws : List Text) → times_among x ws ≤ length ws
among-few x [] = omega arith
among-few x (w ∷ ws) = by-test (same_text w x) (λ e. rw e (omega (arith, among-few x ws))) (λ e. rw e (omega (arith, among-few x ws)))

-- of at most 65,535 words
module _ (ws : List Text) (h : length ws ≤ max_file) where
  tabbed-more : (n : ℕ) (ns : List ℕ) → n ≤ length ws → length (tabbed (n ∷ ns)) ≤ length (tabbed ns) + 6
  tabbed-more n ns k = omega (arith, length-append (digits n) (tabbed ns), digits-length 4 n (omega arith))

  word_more : (v : Said) (ns : List ℕ) → length (tabbed (times_among (word v) ws ∷ ns)) ≤ length (tabbed ns) + 6
  word_more v ns = tabbed-more (times_among (word v) ws) ns (among-few (word v) ws)

  pub total-short : length (total_line ws ++ (line_feed ∷ [])) ≤ 36
  total-short =
      let fourth = times_among (word None) ws ∷ [] in
      let third = times_among (word (Some Dead)) ws ∷ fourth in
      let second = times_among (word (Some Open)) ws ∷ third in
      let five = tabbed-more (length ws) (times_among (word (Some Complete)) ws ∷ second) (omega arith) in
      let four = word_more (Some Complete) second in
      omega (arith, ap length (total-is ws), five, four, word_more (Some Open) third, word_more (Some Dead) fourth, word_more None [])
