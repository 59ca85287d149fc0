-- What the text of a count tells of it.
use mathlib.Core.{Path.◌≡◌, Path.refl, Path.sym, Path.ap, Path.ap₂, Path.◌∙◌, List.[], List.◌∷◌, List.◌++◌, List.append_assoc}
use Rattle.std.specs.Prelude.{Bool, true, false, cond, not, ◌&&◌, T, eqb, leb, ltb, length, drop, get_or, set}
use Rattle.std.proofs.Math.Bool.{and-false}
use Rattle.std.proofs.lemmas.Bool.{false≢true, eqb-false, lt-leb}
use Prim.Native.{Nat.ℕ, Nat.suc, Nat.◌+◌, Nat.◌≤◌, Nat.◌<◌, Char.code}
use native.Mathlib.{Omega.arith, Nat.add-zero}
use Rattle.std.proofs.Common.{length-append, get_or-drop, eqb-true, eq-eqb, ne_eqb, leb-true, le-leb, lt-ltb}
use Rattle.std.proofs.Math.Facts.{and_yes, eqb_no}
use Rattle.fields.specs.Tests.{by-test}
use Rattle.fields.specs.Bytes.{Text, bytes, is_digit, all, is_numeral, value}
use Rattle.fields.specs.Bytes.Laws.{T_true, apart}
use Rattle.model.specs.Syntax.{Count, unwritten, between, onward, count_text, CountFormed}
use Rattle.model.specs.Accept.{Length.value_grows}
use Rattle.model.proofs.AcceptScan.{is_counting, inside_count, inside-counting}
use Rattle.judge.specs.Reading.Lexeme.Laws.{digit_low}
use Rattle.canonical.specs.Tidy.{from_zero, raised, tidy_count}
use Rattle.canonical.specs.Writer.Place.{up_to, behind_count, Free, Ends.count-some, Ends.count_none}

-- the count behind a name ends where its text does
up-inside : (u w : Text) → T (all is_counting u) → up_to (code "]") (u ++ (code "]" ∷ w)) ≡ u ++ bytes "]"
up-inside [] w h = refl
up-inside (b ∷ u) w h =
    let q = and_yes (is_counting b) (all is_counting u) h in
    rw (apart is_counting b (code "]") q.0 tt, up-inside u w q.1)

no-bracket : (w : Text) → Free w → get_or w 0 0 ≡ code "[" → ⊥
no-bracket [] g e = omega arith
no-bracket (b ∷ w) g e = eqb-false b (code "[") g.1 e

module _ (x : Text) (n : ℕ) (w : Text) where
  first_is : (y : Text) → drop n x ≡ y → get_or x n 0 ≡ get_or y 0 0
  first_is y e = ap (λ i. get_or x i 0) (sym (add-zero n)) ∙ sym (get_or-drop n x 0 0) ∙ ap (λ y. get_or y 0 0) e

  written-end : (c : Count) → CountFormed c → count_text c ≡ code "[" ∷ (inside_count c ++ bytes "]") → drop n x ≡ count_text c ++ w
      → n + length (count_text c) ≡ behind_count x n
  written-end c f s e =
      let u = inside_count c in
      let t : drop n x ≡ code "[" ∷ (u ++ (code "]" ∷ w)) = e ∙ ap (λ y. y ++ w) s ∙ ap (λ y. code "[" ∷ y) (append_assoc u (bytes "]") w) in
      rw s (sym (count-some x n (first_is _ t) ∙ ap (λ y. n + length (up_to (code "]") y)) t ∙ rw (up-inside u w (inside-counting c f))))

  pub count-end : (c : Count) → CountFormed c → Free w → drop n x ≡ count_text c ++ w → n + length (count_text c) ≡ behind_count x n
  count-end unwritten f g e = add-zero n ∙ count_none x n (λ b. no-bracket w g (sym (first_is w e) ∙ b))
  count-end (between m k) f g e = written-end (between m k) f (ap (λ y. code "[" ∷ y) (sym (append_assoc m (bytes ".." ++ k) (bytes "]")))) e
  count-end (onward m) f g e = written-end (onward m) f (ap (λ y. code "[" ∷ y) (sym (append_assoc m (bytes "..*") (bytes "]")))) e

-- numbers by their digits
long-numeral : (d e : ℕ) (ds : Text) → T (is_numeral (d ∷ e ∷ ds)) → (code "0" < d) × (10 ≤ value (d ∷ e ∷ ds))
long-numeral d e ds h =
    let q = and_yes (is_digit d) (not (eqb d (code "0"))) (and_yes (is_digit d && not (eqb d (code "0"))) (all is_digit (e ∷ ds)) h).0 in
    let l : code "0" < d = omega (arith, digit_low d (T_true (is_digit d) q.0), eqb_no {a = d} {b = code "0"} q.1) in
    (l, omega (arith, value_grows (value (d ∷ e ∷ [])) ds))

pub same : (b c : Bool) → (b ≡ true → c ≡ true) → (c ≡ true → b ≡ true) → b ≡ c
same b c f g = by-test b (λ e. e ∙ sym (f e)) (λ e. by-test c (λ k. g k ∙ sym k) (λ k. e ∙ sym k))

first-zero : (m w : Text) → T (is_numeral m) → eqb (get_or (m ++ w) 0 0) (code "0") ≡ eqb (value m) 0
first-zero [] w h = absurd h
first-zero (d ∷ []) w h =
    let l = digit_low d (T_true (is_digit d) h) in
    same (eqb d (code "0")) (eqb (value (d ∷ [])) 0) (omega (arith, eqb-true, eq-eqb)) (omega (arith, eqb-true, eq-eqb))
first-zero (d ∷ e ∷ ds) w h =
    let l = long-numeral d e ds h in
    ne_eqb d (code "0") (λ z. omega arith) ∙ sym (ne_eqb (value (d ∷ e ∷ ds)) 0 (λ z. omega arith))

-- a lower count of 0
lower-zero : (m t w : Text) → T (is_numeral m) → ltb 0 (suc (length (m ++ t))) && eqb (get_or ((m ++ t) ++ w) 0 0) (code "0") ≡ eqb (value m) 0
lower-zero m t w h = rw (lt-ltb 0 (suc (length (m ++ t))) (omega arith), append_assoc m t w) (first-zero m (t ++ w) h)

pub zero-count : (c : Count) → CountFormed c → (w : Text)
    → ltb 0 (length (count_text c)) && eqb (get_or (count_text c ++ w) 1 0) (code "0") ≡ from_zero c
zero-count unwritten f w = refl
zero-count (between m n) f w = lower-zero m (bytes ".." ++ (n ++ bytes "]")) w f.0
zero-count (onward m) f w = lower-zero m (bytes "..*]") w f

-- `[0..1]` and `[1..1]`
abbrev pub is_one : Count → Bool
is_one unwritten = false
is_one (between m n) = leb (value m) 1 && eqb (value n) 1
is_one (onward m) = false

-- how the writer finds them, in a text that begins with the count
abbrev pub one_in : Count → Text → Bool
one_in c w = eqb (length (count_text c)) 6 && leb (get_or (count_text c ++ w) 1 0) (code "1") && eqb (get_or (count_text c ++ w) 4 0) (code "1")

too_long-is : (c : Count) (w : Text) → 6 < length (count_text c) → one_in c w ≡ false
too_long-is c w l = rw (ne_eqb (length (count_text c)) 6 (λ e. omega arith))

one-between : (m n w : Text) → T (is_numeral m) → T (is_numeral n) → one_in (between m n) w ≡ leb (value m) 1 && eqb (value n) 1
one-between [] n w h k = absurd h
one-between (d ∷ []) [] w h k = absurd k
one-between (d ∷ []) (e ∷ []) w h k =
    let l = digit_low d (T_true (is_digit d) h) in
    let u = digit_low e (T_true (is_digit e) k) in
    ap₂ ◌&&◌
    (same (leb d (code "1")) (leb (value (d ∷ [])) 1) (omega (arith, leb-true, le-leb)) (omega (arith, leb-true, le-leb)))
    (same (eqb e (code "1")) (eqb (value (e ∷ [])) 1) (omega (arith, eqb-true, eq-eqb)) (omega (arith, eqb-true, eq-eqb)))
one-between (d ∷ []) (e ∷ f ∷ n) w h k =
    too_long-is (between (d ∷ []) (e ∷ f ∷ n)) w (simp length-append (omega arith))
    ∙ rw (ne_eqb (value (e ∷ f ∷ n)) 1 (λ z. omega (arith, long-numeral e f n k)), and-false)
one-between (d ∷ c ∷ m) [] w h k = absurd k
one-between (d ∷ c ∷ m) (e ∷ n) w h k =
    too_long-is (between (d ∷ c ∷ m) (e ∷ n)) w (simp length-append (omega arith))
    ∙ rw (lt-leb (value (d ∷ c ∷ m)) 1 (omega (arith, long-numeral d c m h)))

one-onward : (m w : Text) → T (is_numeral m) → one_in (onward m) w ≡ false
one-onward [] w h = absurd h
one-onward (d ∷ []) w h = and-false (leb d (code "1"))
one-onward (d ∷ c ∷ m) w h = too_long-is (onward (d ∷ c ∷ m)) w (simp length-append (omega arith))

pub one-count : (c : Count) → CountFormed c → (w : Text) → one_in c w ≡ is_one c
one-count unwritten f w = refl
one-count (between m n) f w = one-between m n w f.0 f.1
one-count (onward m) f w = one-onward m w f

-- the count as it is written
raised-text : (m w : Text) → T (is_numeral m)
    → code "[" ∷ (raised m ++ w) ≡ cond (eqb (value m) 0) (set (code "[" ∷ (m ++ w)) 1 (code "1")) (code "[" ∷ (m ++ w))
raised-text [] w h = absurd h
raised-text (d ∷ []) w h = by-test (eqb (value (d ∷ [])) 0) (λ e. rw e) (λ e. rw e)
raised-text (d ∷ e ∷ ds) w h =
    let l = long-numeral d e ds h in
    rw (ne_eqb (value (d ∷ e ∷ ds)) 0 (λ z. omega arith))

pub tidy_one : (c : Count) → is_one c ≡ true → count_text (tidy_count c) ≡ []
tidy_one unwritten e = refl
tidy_one (between m n) e = rw e
tidy_one (onward m) e = absurd (false≢true e)

pub tidy-text : (c : Count) → CountFormed c → is_one c ≡ false → count_text (tidy_count c) ≡ cond (from_zero c) (set (count_text c) 1 (code "1")) (count_text c)
tidy-text unwritten f e = refl
tidy-text (between m n) f e = rw e (raised-text m (bytes ".." ++ (n ++ bytes "]")) f.0)
tidy-text (onward m) f e = raised-text m (bytes "..*]") f
