-- What a key tells of a text, and what comparing eight bytes at once does.
use mathlib.Core.{Path.◌≡◌, Path.refl, Path.sym, Path.ap₂, Path.◌∙◌, Logic.by_cases, Bool.Bool, Bool.true, Bool.false, Bool.true≢false}
use mathlib.Core.{Bool.and-eq-true_iff, List.[], List.◌∷◌}
use Rattle.std.specs.Prelude.{ℕ, zero, suc, ◌+◌, ◌-◌, ◌*◌, ◌^◌, ◌<◌, ◌≤◌}
use native.Mathlib.{Decide.ℕ_discrete, Decide.dec_lt, Nat.mod-eq_of_lt, Nat.div-eq_of_lt, Omega.arith}
use lib.{ListN.length, ListN.take, ListN.drop, ListN.get_or, ListN.length-take, ListN.get_or-eq_default, Seq.get_or-take, Seq.get_or-drop}
use borrow.Author.Tests.{eqb-true, eq-eqb}
use Rattle.fields.specs.{Tests.by-test, Bytes.Text, Bytes.same_text, Bytes.Laws.same_text-is}
use Rattle.judge.specs.Reading.Table.{key_step, key_from, key_of, same_run, same_eight}

-- a text of bytes
abbrev pub Bytes : Text → Type 0
Bytes x = (i : ℕ) → get_or x i 0 < 256

pub part_bytes : (x : Text) → Bytes x → (m n : ℕ) → Bytes (take m (drop n x))
part_bytes x u m n i =
    by_cases (dec_lt i m) (λ h. rw (get_or-take m (drop n x) i 0 h, get_or-drop n x i 0) (u (n + i)))
    (λ h. rw (get_or-eq_default (take m (drop n x)) 0 {n = i} (omega (arith, length-take m (drop n x)))) (omega arith))

-- keys of m bytes are below this
abbrev room : ℕ → ℕ
room zero = 1
room (suc m) = 256 * room m

room_small : (m : ℕ) → m < 8 → room m ≤ 72057594037927936
room_small zero h = omega arith
room_small (suc zero) h = omega arith
room_small (suc (suc zero)) h = omega arith
room_small (suc (suc (suc zero))) h = omega arith
room_small (suc (suc (suc (suc zero)))) h = omega arith
room_small (suc (suc (suc (suc (suc zero))))) h = omega arith
room_small (suc (suc (suc (suc (suc (suc zero)))))) h = omega arith
room_small (suc (suc (suc (suc (suc (suc (suc zero))))))) h = omega arith
room_small (suc (suc (suc (suc (suc (suc (suc (suc m)))))))) h = absurd (omega arith)

-- nothing is turned away yet
step_is : (k b : ℕ) → k < 72057594037927936 → b < 256 → key_step k b ≡ k * 256 + b
unfolding key_step
step_is k b h l =
    let s : k * 256 + 0 + b < 2 ^ 64 = omega arith in
    rw (mod-eq_of_lt h, div-eq_of_lt h, mod-eq_of_lt s) (omega arith)

-- by bytes that follow m others
key_apart : (x y : Text) (j k m : ℕ) → j < room m → k < room m → m + length x ≤ 8 → length x ≡ length y → Bytes x → Bytes y
    → key_from j x ≡ key_from k y → (j ≡ k) × (x ≡ y)
key_apart [] [] j k m g h l e u v q = (q, refl)
key_apart [] (c ∷ y) j k m g h l e u v q = absurd (omega (arith, e))
key_apart (b ∷ x) [] j k m g h l e u v q = absurd (omega (arith, e))
key_apart (b ∷ x) (c ∷ y) j k m g h l e u v q =
    let r = room_small m (omega arith) in
    let s = step_is j b (omega arith) (u 0) in
    let t = step_is k c (omega arith) (v 0) in
    let (n, z) = key_apart x y (key_step j b) (key_step k c) (suc m) (omega (arith, s, u 0)) (omega (arith, t, v 0)) (omega arith) (omega (arith, e))
    (λ i. u (suc i)) (λ i. v (suc i)) q in
    let d : j * 256 + b ≡ k * 256 + c = sym s ∙ n ∙ t in
    let f : b ≡ c = omega (arith, u 0, v 0) in
    (omega (arith, u 0, v 0), ap₂ (λ a l. a ∷ l) f z)

pub key-tells : (a b : Text) → length a ≡ length b → length a ≤ 8 → Bytes a → Bytes b → key_of a ≡ key_of b → true ≡ same_text a b
key-tells a b e l u v q = sym ((same_text-is a b).1 (key_apart a b 0 0 0 (omega arith) (omega arith) (omega arith) e u v q).1)

-- texts that are the same byte by byte
same_bytes : (a b : Text) → length a ≡ length b → ((j : ℕ) → j < length a → get_or a j 0 ≡ get_or b j 0) → a ≡ b
same_bytes [] [] e h = refl
same_bytes [] (y ∷ b) e h = absurd (omega (arith, e))
same_bytes (x ∷ a) [] e h = absurd (omega (arith, e))
same_bytes (x ∷ a) (y ∷ b) e h = ap₂ (λ c l. c ∷ l) (h 0 (omega arith)) (same_bytes a b (omega (arith, e)) (λ j l. h (suc j) (omega arith)))

module _ (a b : Text) where
  run_at : (n i : ℕ) → same_run n a b i ≡ true → (j : ℕ) → j < n → get_or a (i + j) 0 ≡ get_or b (i + j) 0
  run_at zero i e j h = absurd (omega arith)
  run_at (suc n) i e j h =
      let (p, q) = (and-eq-true_iff (same_run n a b i) _).0 e in
      by_cases (ℕ_discrete j n) (λ d. rw d (eqb-true _ _ q)) (λ d. run_at n i p j (omega arith))

  -- the first i bytes were compared
  abbrev pub Compared : ℕ → Type 0
  Compared i = (j : ℕ) → j < i → get_or a j 0 ≡ get_or b j 0

  pub eight-more : (i : ℕ) → same_eight a b i ≡ true → Compared i → Compared (i + 8)
  unfolding same_eight
  eight-more i e h j l =
      by_cases (dec_lt j i) (h j)
      (λ d. let z : i + (j - i) ≡ j = omega arith in rw z at (run_at 8 i e (j - i) (omega arith)))

  pub eight-differ : (i : ℕ) → same_eight a b i ≡ false → false ≡ same_text a b
  unfolding same_eight
  eight-differ i e = by-test (same_text a b) (λ s. absurd (true≢false (sym (rw ((same_text-is a b).0 s) (run-self 8)) ∙ e))) sym
    where
      run-self : (n : ℕ) → same_run n b b i ≡ true
      run-self zero = refl
      run-self (suc n) = rw (run-self n, eq-eqb (get_or b (i + n) 0) (get_or b (i + n) 0) refl)

  -- the last eight bytes, of which some may have been compared before
  pub eight-last : (i n : ℕ) (r : Bool) → length a ≡ n → length a ≡ length b → 8 ≤ n → n - 8 ≤ i → Compared i → r ≡ same_eight a b (n - 8) → r ≡ same_text a b
  eight-last i n r l e m k h q =
      by-test (same_eight a b (n - 8))
      (λ t. q ∙ t ∙ sym ((same_text-is a b).1 (same_bytes a b e (λ j d. eight-more (n - 8) t (λ j d. h j (omega arith)) j (omega arith)))))
      (λ t. q ∙ t ∙ eight-differ (n - 8) t)
