-- What is seen of a name, in one number: its parts, and what a child more makes of it.
use mathlib.Core.{Path.◌≡◌, Path.sym, Path.◌∙◌, List.List, List.[], List.◌∷◌, List.◌++◌}
use Rattle.std.specs.Prelude.{ℕ, suc, ◌+◌, ◌-◌, ◌*◌, ◌/◌, ◌%◌, ◌<◌, ◌≤◌, false, cond, not, ltb, length, ◌==◌, nat_le, nat_lt}
use Rattle.std.proofs.Math.Bool.{or-true}
use native.Mathlib.Omega.{arith}
use borrow.Author.Tests.{leb-true, leb-false, lt-ltb, le-ltb, ltb-true, ne_eqb}
use Rattle.fields.specs.Tests.{by-test}
use Rattle.model.specs.declared.rule.Upper.{Upper}
use Rattle.model.specs.declared.rule.Upper.TheVariants.{Number, Unbounded}
use Rattle.model.specs.Membership.{under}
use Rattle.model.specs.Word.{Word, Names, only, count, keep, touched}
use Rattle.model.proofs.WordLaws.{only_self}
use Rattle.model.proofs.WordSpan.{first_place, last_behind, first-untouched, behind-untouched, touched-behind, touched-more, count-more, first_more}
use Rattle.model.proofs.WordSpan.{behind_more}
use Rattle.judge.specs.Row.Attribute.{seen}
use Rattle.judge.specs.FirstFault.{allowed}
use Rattle.judge.specs.Row.Tally.{packed_seen, one_left, one_seen, limit_number, seen_of, noted_word, first_seen, seen_word}

-- no count and no place is over the row's length
keep-bound : (p : Names) (w : Word) → length (keep p w) ≤ length w
unfolding keep
keep-bound p [] = omega arith
keep-bound p (x ∷ w) =
    let h = keep-bound p w in
    by-test (p x) (λ e. rw e (omega arith)) (λ e. rw e (omega arith))

first-bound : (p : Names) (w : Word) → first_place p w ≤ length w
unfolding first_place
first-bound p [] = omega arith
first-bound p (x ∷ w) = let h = first-bound p w in by-test (p x) (λ e. rw e (omega arith)) (λ e. rw e (omega arith))

behind-bound : (p : Names) (w : Word) → last_behind p w ≤ length w
unfolding last_behind
behind-bound p [] = omega arith
behind-bound p (x ∷ w) =
    let h = behind-bound p w in by-test (touched p (x ∷ w)) (λ e. rw e (omega arith)) (λ e. rw e (omega arith))

-- the parts of a number
module _ (left count first behind : ℕ) (c : count < 65536) (f : first < 65536) (b : behind < 65536) where
  abbrev word : ℕ
  word = packed_seen left count first behind

  pub unpack-seen : (n : ℕ) → seen_of n word ≡ record { count = count; first = cond (behind == 0) n first; behind = behind }
  unfolding seen_of
  unpack-seen n =
      let x : word / one_seen % 65536 ≡ count = omega arith in
      let y : word / 65536 % 65536 ≡ first = omega arith in
      let z : word % 65536 ≡ behind = omega arith in
      rw (x, y, z)

  full-word : left ≡ 0 → word < one_left
  full-word e = omega arith

  free-word : 1 ≤ left → one_left ≤ word
  free-word h = omega arith

  left_word : one_left ≤ word → 1 ≤ left
  left_word h = omega arith

  noted-is : (i : ℕ) → 1 ≤ left → noted_word word i ≡ packed_seen (left - 1) (count + 1) (cond (behind == 0) (first + i) first) (i + 1)
  unfolding noted_word
  noted-is i h =
      let z : word % 65536 ≡ behind = omega arith in
      rw z (by-test (behind == 0) (λ e. rw e (omega arith)) (λ e. rw e (omega arith)))

full_by : (n : Upper) (c f b : ℕ) → c < 65535 → f < 65536 → b < 65536
    → nat_lt (packed_seen (limit_number n - c) c f b) one_left ≡ not (under (suc c) n)
full_by (Number n) c f b h i j =
    by-test (nat_le (suc c) n)
    (λ e. let l = leb-true (suc c) n e in
    rw e (le-ltb (packed_seen (n - c) c f b) one_left (free-word (n - c) c f b (omega arith) i j (omega arith))))
    (λ e. let l = leb-false (suc c) n e in
    rw e (lt-ltb (packed_seen (n - c) c f b) one_left (full-word (n - c) c f b (omega arith) i j (omega arith))))
full_by Unbounded c f b h i j = le-ltb (packed_seen (65535 - c) c f b) one_left (free-word (65535 - c) c f b (omega arith) i j (omega arith))

-- of the name a in a row that is not too long for its numbers
module _ (us : List Upper) (w : Word) (a : ℕ) (short : length w < 65535) where
  count_fits : count a w < 65535
  count_fits = omega (arith, keep-bound (only a) w)

  first_fits : first_seen a w < 65536
  first_fits = by-test (touched (only a) w) (λ e. rw e (omega (arith, first-bound (only a) w))) (λ e. rw e (omega arith))

  behind-fits : last_behind (only a) w < 65536
  behind-fits = omega (arith, behind-bound (only a) w)

  abbrev left : ℕ
  left = limit_number (allowed us a) - count a w

  pub seen-whole : seen_of (length w) (seen_word us w a) ≡ seen w a
  unfolding seen_word seen count_fits first_fits behind-fits
  seen-whole =
      unpack-seen left (count a w) (first_seen a w) (last_behind (only a) w) (omega (arith, count_fits)) first_fits behind-fits (length w)
      ∙ by-test (touched (only a) w)
      (λ e. let p = ltb-true 0 (last_behind (only a) w) (sym (touched-behind (only a) w) ∙ e) in
      rw (e, ne_eqb (last_behind (only a) w) 0 (λ z. omega arith)))
      (λ e. rw (e, behind-untouched (only a) w e, first-untouched (only a) w e))

  pub full_is : ltb (seen_word us w a) one_left ≡ not (under (suc (count a w)) (allowed us a))
  unfolding seen_word count_fits first_fits behind-fits
  full_is = full_by (allowed us a) (count a w) (first_seen a w) (last_behind (only a) w) count_fits first_fits behind-fits

-- with a child more: its own number, and those of other names
module _ (us : List Upper) (w : Word) (x : ℕ) (short : length w < 65535) where
  abbrev longer : Word
  longer = w ++ (x ∷ [])

  pub seen_more : one_left ≤ seen_word us w x → noted_word (seen_word us w x) (length w) ≡ seen_word us longer x
  unfolding seen_word count_fits first_fits behind-fits
  seen_more h =
      let l = limit_number (allowed us x) - count x w in
      let n = left_word l (count x w) (first_seen x w) (last_behind (only x) w) (omega (arith, count_fits us w x short)) (first_fits us w x short)
      (behind-fits us w x short) h in
      noted-is l (count x w) (first_seen x w) (last_behind (only x) w) (omega (arith, count_fits us w x short)) (first_fits us w x short)
      (behind-fits us w x short) (length w) n
      ∙ rw (count-more x w x, touched-more (only x) w x, first_more (only x) w x, behind_more (only x) w x, only_self x, or-true (touched (only x) w))
      (by-test (touched (only x) w)
      (λ t. let p = ltb-true 0 (last_behind (only x) w) (sym (touched-behind (only x) w) ∙ t) in
      rw (t, ne_eqb (last_behind (only x) w) 0 (λ z. omega arith)) (omega arith))
      (λ t. rw (t, behind-untouched (only x) w t) (omega arith)))

  pub seen_other : (a : ℕ) → only a x ≡ false → seen_word us longer a ≡ seen_word us w a
  unfolding seen_word
  seen_other a e =
      rw (count-more a w x, touched-more (only a) w x, first_more (only a) w x, behind_more (only a) w x, e)
      (by-test (touched (only a) w) (λ t. rw t) (λ t. rw t))

-- before any child is seen
pub seen_none : (us : List Upper) (k : ℕ) → seen_word us [] k ≡ limit_number (allowed us k) * one_left
unfolding seen_word keep touched last_behind
seen_none us k = omega arith
