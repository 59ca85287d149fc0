-- The lines that a walk over a text has left, and how a walk takes the first of them.
use Rattle.std.specs.Prelude.{◌≡◌, ◌==◌, refl, ◌+◌, ℕ, List, [], ◌∷◌, length, take, drop, Bool, true, false, Some, None, position, ltb, eqb, cond, Option}
use Rattle.std.proofs.Common.{arith, add-one}
use Rattle.std.specs.{List.position_or_len, Bool.then_some}
use Rattle.fields.specs.{Bytes.Text, Bytes.front, Tests.by-test}
use Rattle.fields.specs.Split.{lines, line_feed, other, part, part_end, Laws.part-first, Laws.lines_more, Laws.part-rest}
use Rattle.fields.specs.declared.lines.Lines.{Lines}

abbrev pub lines_left : Lines → List Text
lines_left w = lines w.rest.now

front-length : (s : ℕ) (x : Text) → length (front (other s) x) ≡ position_or_len (λ b. b == s) x
front-length s [] = refl
front-length s (b ∷ x) = by-test (eqb b s) (λ e. rw e) (λ e. rw e (omega (arith, front-length s x)))

-- where the first part ends, if that is inside the text
pub feed-place : (x : Text) → then_some (ltb (part_end x line_feed 0) (length x)) (part_end x line_feed 0) ≡ position (λ b. b == line_feed) x
feed-place x =
    let w : drop 0 x ≡ x = whole x in
    let p : part_end x line_feed 0 ≡ position_or_len (λ b. b == line_feed) x = rw w (omega (arith, front-length line_feed x)) in
    rw p (chosen (ltb (position_or_len (λ b. b == line_feed) x) (length x)) (position_or_len (λ b. b == line_feed) x))
  where
    whole : (x : Text) → drop 0 x ≡ x
    whole [] = refl
    whole (b ∷ x) = refl

    chosen : (b : Bool) (n : ℕ) → then_some b n ≡ cond b (Some n) None
    chosen true n = refl
    chosen false n = refl

module _ (x : Text) where
  abbrev pub feed : Option ℕ
  feed = position (λ b. b == line_feed) x

  abbrev place : ℕ
  place = length (front (other line_feed) x)

  pub line-none : feed ≡ None → lines x ≡ []
  line-none e =
      let q : cond (ltb place (length x)) (Some place) None ≡ None = rw front-length e in
      by-test (ltb place (length x))
      (λ t. let k : Some place ≡ None = rw t at q in absurd (cc))
      (λ t. rw (part-first line_feed x, t))

  pub line_more : {i : ℕ} → feed ≡ Some i → lines x ≡ take i x ∷ lines (part x (i + 1) (length x))
  line_more {i} e =
      let q : cond (ltb place (length x)) (Some place) None ≡ Some i = rw front-length e in
      by-test (ltb place (length x))
      (λ t.
      let k : Some place ≡ Some i = rw t at q in
      let j : place ≡ i = cc in
      rw (part-first line_feed x, t, lines_more, j, part-rest, add-one))
      (λ t. let k : None ≡ Some i = rw t at q in absurd (cc))
