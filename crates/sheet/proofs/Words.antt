-- The tests of the library, in the words of the specs.
use Rattle.std.specs.Prelude.{◌≡◌, Bool, true, false, ℕ, ◌<◌, length, take}
use Rattle.std.proofs.Common.{sym, ◌∙◌}
use native.Mathlib.{Nat.sub-zero}
use Rattle.fields.specs.{Bytes.Text, Bytes.bytes, Bytes.same_text, Split.part}
use Rattle.fields.specs.{declared.split.Heads.Heads, Heads.heads_of, Heads.Laws.fields-three}
use Rattle.sheet.specs.Cues.{is_cue_number, Laws.NumberedLine, Laws.number_part}
use Rattle.sheet.proofs.SheetLaws.{RuleLine}

-- the first bytes of a line compared with a word
word-told : (l w : Text) (a : ℕ) {r : Bool} → r ≡ same_text (take a l) w → same_text (part l 0 a) w ≡ r
word-told l w a e = rw sub-zero (sym e)

module _ (l : Text) (h : Heads) {r : Bool} where
  pub other-word : (w : Text) → r ≡ same_text (take h.first l) w → r ≡ false → same_text (part l 0 h.first) w ≡ false
  other-word w e t = word-told l w h.first e ∙ t

  pub same-word : (w : Text) → r ≡ same_text (take h.first l) w → r ≡ true → same_text (part l 0 h.first) w ≡ true
  same-word w e t = word-told l w h.first e ∙ t

  pub rule-line : h ≡ heads_of l → h.second < length l → h.third ≡ length l → r ≡ same_text (take h.first l) (bytes "rule") → r ≡ true → RuleLine l h
  rule-line i k n e t = record { three = fields-three l h i k; last = n; word = same-word (bytes "rule") e t }

  pub cue-line : h ≡ heads_of l → h.second < length l → r ≡ same_text (take h.first l) (bytes "cue") → r ≡ true
      → is_cue_number (number_part l h) ≡ true → NumberedLine l h
  cue-line i k e t n = record { three = fields-three l h i k; word = same-word (bytes "cue") e t; number = n }
