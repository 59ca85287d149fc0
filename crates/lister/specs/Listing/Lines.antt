-- The lines of a listing as they are printed: a line for each cue, and what the last one says of them.
use mathlib.Core.{Path.◌≡◌, Path.refl, Path.ap, Path.ap₂, Path.◌∙◌, Bool.true, Bool.not, List.List, List.[], List.◌∷◌, List.map}
use Rattle.std.specs.Prelude.{Some, None, ℕ, suc, ◌+◌}
use Rattle.std.proofs.Common.{arith}
use lib.{Dec.T, ListN.length, ListN.get_or, ListN.length-map}
use Rattle.std.proofs.Math.Facts.{and_yes, yes_and}
use Rattle.fields.specs.Bytes.{Text, bytes, digits, is_inner, all, Numeral.digits-inner}
use Rattle.fields.specs.Split.{line_feed, tab, joined_by, but_last, last, lines, behind, unlines, fields, field, other, none_has, Laws.split-free}
use Rattle.fields.specs.Split.Joined.{split-joined, lines-unlines, but-last-snoc, last_snoc}
use Rattle.fields.specs.Split.Joined.{passed-lacks, split-lacks, lacks-at, append-lacks, joined-lacks, lines-lack}
use Rattle.sheet.specs.Cues.{children}
use Rattle.model.specs.declared.verdict.Verdict.TheVariants.{Complete, Open, Dead}
use Rattle.lister.specs.Listing.{Said, word, listing_fields, listing_line, times_among, totals, total_line, said, listing_lines, listing, Totals}

word-inner : (v : Said) → T (all is_inner (word v))
word-inner (Some Complete) = tt
word-inner (Some Open) = tt
word-inner (Some Dead) = tt
word-inner None = tt

-- what is no byte of names stands in no field, unless it stands in a field of the cue line
module _ (t : ℕ) (n : T (not (is_inner t))) where
  inner-lacks : (x : Text) → T (all is_inner x) → T (all (other t) x)
  inner-lacks = passed-lacks is_inner t n

  numbers-lack : (ns : List ℕ) → T (none_has t (map digits ns))
  numbers-lack [] = tt
  numbers-lack (k ∷ ns) = yes_and (all (other t) (digits k)) (none_has t (map digits ns)) (inner-lacks (digits k) (digits-inner k)) (numbers-lack ns)

  total-lacks : (ws : List Text) → T (none_has t (bytes "total" ∷ map digits (totals ws)))
  total-lacks ws = yes_and (all (other t) (bytes "total")) (none_has t (map digits (totals ws))) (inner-lacks (bytes "total") tt) (numbers-lack (totals ws))

  line-lacks : (l : Text) (v : Said) → T (none_has t (fields l)) → T (none_has t (listing_fields l v))
  line-lacks l v h =
      let said-lacks = yes_and (all (other t) (word v)) _ (inner-lacks (word v) (word-inner v)) (numbers-lack (length (children l) ∷ [])) in
      yes_and (all (other t) (field 1 l)) _ (lacks-at t (fields l) 1 h) (yes_and (all (other t) (field 2 l)) _ (lacks-at t (fields l) 2 h) said-lacks)

pub line-fields : (l : Text) (v : Said) → fields (listing_line l v) ≡ listing_fields l v
line-fields l v = split-joined tab (field 1 l) _ (line-lacks tab tt l v (rw (split-free tab l) tt))

total-fields : (ws : List Text) → fields (total_line ws) ≡ bytes "total" ∷ map digits (totals ws)
total-fields ws = split-joined tab (bytes "total") _ (total-lacks tab tt ws)

-- no line holds a line feed
module _ (f : Text → Said) where
  abbrev lined : List Text → List Text
  lined ls = map (λ l. listing_line l (f l)) ls

  lined-lack : (ls : List Text) → T (none_has line_feed ls) → T (none_has line_feed (lined ls))
  lined-lack [] h = tt
  lined-lack (l ∷ ls) h =
      let i = and_yes (all (other line_feed) l) (none_has line_feed ls) h in
      let line = joined-lacks tab line_feed tt (listing_fields l (f l)) (line-lacks line_feed tt l (f l) (split-lacks tab line_feed l i.0)) in
      yes_and (all (other line_feed) (listing_line l (f l))) (none_has line_feed (lined ls)) line (lined-lack ls i.1)

  -- the third field of a line is what is said of the cue
  words_are : (ls : List Text) → map (field 2) (lined ls) ≡ map (λ l. word (f l)) ls
  words_are [] = refl
  words_are (l ∷ ls) = ap₂ (λ w ws. w ∷ ws) (ap (λ fs. get_or fs 2 []) (line-fields l (f l))) (words_are ls)

-- no other words are said
abbrev sum : List Text → ℕ
sum ws = times_among (word (Some Complete)) ws + times_among (word (Some Open)) ws + times_among (word (Some Dead)) ws + times_among (word None) ws

sum_more : (v : Said) (ws : List Text) → sum ws ≡ length ws → sum (word v ∷ ws) ≡ suc (length ws)
sum_more (Some Complete) ws h = omega arith
sum_more (Some Open) ws h = omega arith
sum_more (Some Dead) ws h = omega arith
sum_more None ws h = omega arith

words-sum : (f : Text → Said) (ls : List Text) → sum (map (λ l. word (f l)) ls) ≡ length (map (λ l. word (f l)) ls)
words-sum f [] = refl
words-sum f (l ∷ ls) = sum_more (f l) (map (λ l. word (f l)) ls) (words-sum f ls)

module _ (s c : Text) where
  abbrev f : Text → Said
  f = said (lines s)

  abbrev words : List Text
  words = map (λ l. word (f l)) (lines c)

  abbrev above : List Text
  above = lined f (lines c)

  last-lacks : T (none_has line_feed (total_line words ∷ []))
  last-lacks =
      let line = joined-lacks tab line_feed tt (bytes "total" ∷ map digits (totals words)) (total-lacks line_feed tt words) in
      yes_and (all (other line_feed) (total_line words)) true line tt

  pub lines_are : (lines (listing s c) ≡ listing_lines (lines s) (lines c)) × (behind (listing s c) ≡ [])
  lines_are =
      let lack = append-lacks line_feed above (total_line words ∷ []) (lined-lack f (lines c) (lines-lack c)) last-lacks in
      lines-unlines (listing_lines (lines s) (lines c)) lack

  above-are : but_last (lines (listing s c)) ≡ above
  above-are = ap but_last lines_are.0 ∙ but-last-snoc above (total_line words)

  pub above-count : length (but_last (lines (listing s c))) ≡ length (lines c)
  above-count = ap length above-are ∙ length-map (lines c) (λ l. listing_line l (f l))

  pub totals-are : Totals (map (field 2) (but_last (lines (listing s c)))) (last (lines (listing s c)))
  totals-are =
      let last_one = ap last lines_are.0 ∙ last_snoc above (total_line words) in
      rw (ap (map (field 2)) above-are ∙ words_are f (lines c), last_one)
      (record { numbers_are = total-fields words; adds_up = words-sum f (lines c) })

pub none-are : (s : Text)
    → listing s [] ≡ unlines (joined_by tab (bytes "total" ∷ (bytes "0" ∷ (bytes "0" ∷ (bytes "0" ∷ (bytes "0" ∷ (bytes "0" ∷ [])))))) ∷ [])
unfolding digits
none-are s = refl
