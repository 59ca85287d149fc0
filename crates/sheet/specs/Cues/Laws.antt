-- How the numbers and the lines of a cue list are read.
use mathlib.Core.{Path.◌≡◌, Path.ap, Path.sym, Path.◌∙◌, List.List, List.◌∷◌}
use Rattle.std.specs.Prelude.{Result, Ok, Err, true, false, cond, ℕ, zero, suc, ◌+◌, ◌*◌, ◌-◌, ◌≤◌, ◌<◌}
use Rattle.std.proofs.Common.{lt-ltb, le-ltb, le-leb}
use Rattle.std.proofs.lemmas.Bool.{lt-leb}
use native.Mathlib.{Omega.arith, Numerals.add-one}
use lib.{Dec.ltb, ListN.length, ListN.take, ListN.get_or, Seq.take-suc}
use Rattle.fields.specs.{Bytes.Laws.value-snoc, Limits.max_row, declared.fault.CueFault.CueFault}
use Rattle.fields.specs.{declared.split.Heads.Heads, Split.Laws.split-count, Split.Laws.part-rest, Heads.heads_of, Children.all_names}
use Rattle.fields.specs.{Heads.Laws.Three, Heads.Laws.fields-few, Heads.Laws.fields-enough}
use Rattle.fields.specs.Bytes.{Text, bytes, value, same_text}
use Rattle.fields.specs.declared.fault.CueFault.TheVariants.{BadFields, BadNumber, NotAbove, NoName, ManyChildren}
use Rattle.fields.specs.Split.{tab, split, field, part, times}
use Rattle.fields.specs.declared.fault.AtLine.{AtLine}
use Rattle.sheet.specs.AtLine.{at_line, numbered}
use Rattle.sheet.specs.Cues.{is_cue_number, children, CueFits, cue_line, by_line, cue_lines}

pub cue-three : {l : Text} {h : Heads} → h ≡ heads_of l → CueFits l → Three l h
cue-three {l} {h} e f = fields-enough l h e f.enough

module _ (x : Text) where
  pub value-more : (i : ℕ) → i < length x → value (take (i + 1) x) ≡ 10 * value (take i x) + (get_or x i 0 - 48)
  value-more i h = rw (add-one, take-suc x i 0 h) (value-snoc (take i x) (get_or x i 0))

-- what i bytes can come to
abbrev pub limit : ℕ → ℕ
limit zero = 0
limit (suc i) = 10 * limit i + 207

pub limit-small : (i : ℕ) → i ≤ 5 → limit i ≤ 2299977
limit-small zero h = omega arith
limit-small (suc zero) h = omega arith
limit-small (suc (suc zero)) h = omega arith
limit-small (suc (suc (suc zero))) h = omega arith
limit-small (suc (suc (suc (suc zero)))) h = omega arith
limit-small (suc (suc (suc (suc (suc zero))))) h = omega arith
limit-small (suc (suc (suc (suc (suc (suc i)))))) h = absurd (omega arith)

module _ (l : Text) (h : Heads) where
  abbrev pub number_part : Text
  number_part = part l (h.first + 1) h.second

  -- kind and children
  abbrev pub names_part : Text
  names_part = part l (h.second + 1) (length l)

  rest-named : Three l h → field 2 l ∷ children l ≡ split tab names_part
  rest-named t = t.rest_is ∙ ap (split tab) (sym (part-rest l (h.second + 1)))

  names_are : Three l h → all_names (field 2 l ∷ children l) ≡ all_names (split tab names_part)
  names_are t = ap all_names (rest-named t)

  pub children-count : Three l h → length (children l) ≡ times tab names_part
  children-count t = omega (arith, ap length (rest-named t), split-count tab names_part)

-- a line of three fields or more, `cue` and a number first
pub record NumberedLine (l : Text) (h : Heads) : Type 0 where
  pub three : Three l h
  pub word : same_text (part l 0 h.first) (bytes "cue") ≡ true
  pub number : is_cue_number (number_part l h) ≡ true

-- what is said of a line, test by test
pub line-few : (p : ℕ) (l : Text) {h : Heads} → h ≡ heads_of l → length l ≤ h.second → Err BadFields ≡ cue_line p l
line-few p l {h} e k = rw (fields-few l h e k)

module _ (p : ℕ) {l : Text} {h : Heads} where
  module _ (t : Three l h) where
    pub line_word : same_text (part l 0 h.first) (bytes "cue") ≡ false → Err BadFields ≡ cue_line p l
    line_word w = rw (t.enough, t.first_is, w)

    pub line-number : same_text (part l 0 h.first) (bytes "cue") ≡ true → is_cue_number (number_part l h) ≡ false → Err BadNumber ≡ cue_line p l
    line-number w n = rw (t.enough, t.first_is, w, t.second_is, n)

  module _ (q : NumberedLine l h) {v : ℕ} (e : v ≡ value (number_part l h)) where
    t : Three l h
    t = q.three

    pub line-above : v ≤ p → Err NotAbove ≡ cue_line p l
    line-above a = rw (t.enough, t.first_is, q.word, t.second_is, q.number, ← e, le-leb v p a)

    module _ (a : p < v) where
      pub line-names : all_names (split tab (names_part l h)) ≡ false → Err NoName ≡ cue_line p l
      line-names s = rw (t.enough, t.first_is, q.word, t.second_is, q.number, ← e, lt-leb v p a, names_are l h t, s)

      module _ (s : all_names (split tab (names_part l h)) ≡ true) {k : ℕ} (c : k ≡ times tab (names_part l h)) where
        counted : cue_line p l ≡ cond (ltb max_row k) (Err ManyChildren) (Ok v)
        counted = rw (t.enough, t.first_is, q.word, t.second_is, q.number, ← e, lt-leb v p a, names_are l h t, s, children-count l h t, ← c)

        pub line-many : max_row < k → Err ManyChildren ≡ cue_line p l
        line-many m = sym (counted ∙ rw (lt-ltb max_row k m))

        pub line-good : k ≤ max_row → Ok v ≡ cue_line p l
        line-good m = sym (counted ∙ rw (le-ltb max_row k m))

by-good : (m : ℕ) (r : Result ℕ CueFault) (good : ℕ → Result ℕ (AtLine CueFault)) (bad : CueFault → Result ℕ (AtLine CueFault)) {q : ℕ}
    → numbered m r ≡ Ok q → by_line r good bad ≡ good q
by-good m (Ok n) good bad {q} e = let z : n ≡ q = cc e in ap good z
by-good m (Err f) good bad e = cc e

by-bad : (m : ℕ) (r : Result ℕ CueFault) (good : ℕ → Result ℕ (AtLine CueFault)) {f : AtLine CueFault}
    → numbered m r ≡ Err f → by_line r good (λ f. Err (at_line f m)) ≡ Err f
by-bad m (Ok n) good e = cc e
by-bad m (Err f) good e = e

-- what is said of lines, one by one
module _ (n p : ℕ) {ls ks : List Text} {l : Text} (e : ls ≡ l ∷ ks) where
  pub cues-next : {q : ℕ} → numbered (n + 1) (cue_line p l) ≡ Ok q → cue_lines n p ls ≡ cue_lines (n + 1) q ks
  cues-next g = rw (e, add-one) (by-good (n + 1) (cue_line p l) _ _ g)

  pub cues-bad : {f : AtLine CueFault} → numbered (n + 1) (cue_line p l) ≡ Err f → cue_lines n p ls ≡ Err f
  cues-bad g = rw e (by-bad (suc n) (cue_line p l) _ (rw add-one at g))
