-- What is known of the lines of a cue list that was read.
use mathlib.Core.{Path.◌≡◌, Path.refl, List.List, List.[], List.◌∷◌}
use Rattle.std.specs.Prelude.{Result, Ok, Err, Bool, true, false, not, ◌||◌, ℕ, zero, suc, ◌≤◌, ◌<◌}
use Rattle.std.proofs.Common.{arith, ltb-false}
use Rattle.std.proofs.Math.Bool.{and-eq-true_iff}
use lib.{Dec.T, Dec.leb, Dec.ltb, Dec.eqb, ListN.length, ListN.get_or}
use Rattle.fields.specs.{Tests.by-test, Bytes.Text, Bytes.bytes, Bytes.value, Bytes.same_text, Bytes.Laws.same_text-is, Limits.max_row, Limits.max_file}
use Rattle.fields.specs.{declared.fault.CueFault.CueFault, Split.Laws.parted, Children.short_name, Children.all_names}
use Rattle.fields.specs.declared.fault.CueFault.TheVariants.{BadFields, BadNumber, NotAbove, NoName, ManyChildren}
use Rattle.fields.specs.Split.{split, but_last, lines, behind, fields, field}
use Rattle.fields.specs.declared.fault.AtLine.{AtLine}
use Rattle.sheet.specs.{AtLine.at_line, Cues.Walk.GoodCues}
use Rattle.sheet.specs.Cues.{is_cue_number, children, cue_line, by_line, cue_lines, cues_read}

pub record LineGood (l : Text) : Type 0 where
  pub enough : 3 ≤ length (fields l)
  pub few : length (children l) ≤ max_row
  pub named : T (all_names (children l))

or_left : (a b : Bool) → a || b ≡ false → a ≡ false
or_left true b e = e
or_left false b e = refl

line-good : (p q : ℕ) (l : Text) → cue_line p l ≡ Ok q → LineGood l
line-good p q l e =
    by-test (ltb (length (fields l)) 3 || not (same_text (field 0 l) (bytes "cue"))) (λ a. no BadFields (rw a))
    (λ a. by-test (is_cue_number (field 1 l)) (λ b. by-test (leb (value (field 1 l)) p) (λ c. no NotAbove (rw (a, b, c)))
    (λ c. by-test (all_names (field 2 l ∷ children l)) (λ d. by-test (ltb max_row (length (children l))) (λ f. no ManyChildren (rw (a, b, c, d, f)))
    (λ f. record {
      enough = ltb-false (length (fields l)) 3 (or_left (ltb (length (fields l)) 3) (not (same_text (field 0 l) (bytes "cue"))) a);
      few = ltb-false max_row (length (children l)) f;
      named = rw ((and-eq-true_iff (short_name (field 2 l)) (all_names (children l))).0 d).1 tt;
    }))
    (λ d. no NoName (rw (a, b, c, d))))) (λ b. no BadNumber (rw (a, b))))
  where
    no : (f : CueFault) {C : Type 0} → Err f ≡ cue_line p l → C
    no f g = cc (g, e)

all-good : (n p m : ℕ) (ls : List Text) → cue_lines n p ls ≡ Ok m → (i : ℕ) → i < length ls → LineGood (get_or ls i [])
all-good n p m [] e i h = absurd (omega arith)
all-good n p m (l ∷ ls) e i h = go (cue_line p l) (λ q. all-good (suc n) q m ls) refl e i h
  where
    go : (c : Result ℕ CueFault) → ((q : ℕ) → cue_lines (suc n) q ls ≡ Ok m → (j : ℕ) → j < length ls → LineGood (get_or ls j [])) → cue_line p l ≡ c
        → by_line c (λ q. cue_lines (suc n) q ls) (λ f. Err (at_line f (suc n))) ≡ Ok m
        → (i : ℕ) → i < suc (length ls) → LineGood (get_or (l ∷ ls) i [])
    go (Ok q) r g k zero o = line-good p q l g
    go (Ok q) r g k (suc i) o = r q k i (omega arith)
    go (Err f) r g k i o = cc k

-- a line is no longer than the text
part-short : (s : ℕ) (x : Text) (i : ℕ) → length (get_or (split s x) i []) ≤ length x
part-short s [] zero = omega arith
part-short s [] (suc i) = omega arith
part-short s (b ∷ x) i =
    by-test (eqb b s)
    (λ e. rw e (first (λ j. part-short s x j) i))
    (λ e. let p = parted s x in rw (e, p.is) (grown p.first p.rest (λ j. rw p.is at (part-short s x j)) i))
  where
    first : ((j : ℕ) → length (get_or (split s x) j []) ≤ length x) → (i : ℕ) → length (get_or ([] ∷ split s x) i []) ≤ suc (length x)
    first h zero = omega arith
    first h (suc i) = omega (arith, h i)

    grown : (p : Text) (ps : List Text) → ((j : ℕ) → length (get_or (p ∷ ps) j []) ≤ length x) → (i : ℕ) → length (get_or ((b ∷ p) ∷ ps) i []) ≤ suc (length x)
    grown p ps h zero = omega (arith, h 0)
    grown p ps h (suc i) = omega (arith, h (suc i))

but_last-is : (ps : List Text) (i : ℕ) → length (get_or (but_last ps) i []) ≤ length (get_or ps i [])
but_last-is [] i = omega arith
but_last-is (p ∷ []) zero = omega arith
but_last-is (p ∷ []) (suc i) = omega arith
but_last-is (p ∷ q ∷ ps) zero = omega arith
but_last-is (p ∷ q ∷ ps) (suc i) = but_last-is (q ∷ ps) i

pub good-cues : (c : Text) (n : ℕ) → cues_read c ≡ Ok n → GoodCues c
good-cues c n e =
    by-test (ltb max_file (length c)) (λ a. no (rw a at e))
    (λ a. by-test (same_text (behind c) [])
    (λ b. let k = rw (a, b) at e in let s = ltb-false max_file (length c) a in
    record {
      ended = (same_text-is (behind c) []).0 b;
      short = s;
      fit = λ i h. let g = all-good 0 0 n (lines c) k i h in
          record { enough = g.enough; few = g.few; short = omega (arith, but_last-is (split 10 c) i, part-short 10 c i) };
      named = λ i h. (all-good 0 0 n (lines c) k i h).named;
    })
    (λ b. no (rw (a, b) at e)))
  where
    no : {e : AtLine CueFault} {C : Type 0} → Err e ≡ Ok n → C
    no g = cc g
