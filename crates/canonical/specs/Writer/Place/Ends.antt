-- Where names, counts and atoms end: a byte more, for the loops that run over them, and bounds.
use mathlib.Core.{Path.◌≡◌, Path.refl, Path.ap, Logic.by_cases, List.[], List.◌∷◌}
use Rattle.std.specs.Prelude.{true, false, cond, not, ◌&&◌, ◌||◌, ℕ, ◌+◌, ◌-◌, ◌≤◌, ◌<◌, eqb, leb, ltb, length, take, drop, get_or, set}
use Rattle.std.proofs.Math.Bool.{and-false, or-false, or-true}
use Prim.Native.Char.{code}
use native.Mathlib.{Omega.arith, Decide.dec_lt, Numerals.add-one}
use Rattle.std.proofs.Common.{length-take, length-drop, length-set, drop-cons, eqb-true, ltb-true, ltb-false, eq-eqb, ne_eqb, lt-ltb, le-ltb}
use Rattle.fields.specs.{Bytes.Text, Bytes.is_inner, Tests.by-test}
use Rattle.model.specs.Fault.{name_from, is}
use Rattle.judge.specs.Reading.Lexeme.Laws.{front-step, front-stop, front_out, front-short, stands-inside}
use Rattle.canonical.specs.Order.{not_after}
use Rattle.canonical.specs.Writer.Place.{behind_name, up_to, behind_count, atom_end, zero_at, one_at, kept_end, piece_at}

-- a byte more of a name, or none
module _ (x : Text) (i : ℕ) where
  pub name-step : i < length x → is_inner (get_or x i 0) ≡ true → behind_name x i ≡ behind_name x (i + 1)
  name-step h e = omega (arith, ap length (front-step is_inner x i h e))

  pub name-stop : i < length x → is_inner (get_or x i 0) ≡ false → behind_name x i ≡ i
  name-stop h e = omega (arith, ap length (front-stop is_inner x i h e))

  pub name_out : length x ≤ i → behind_name x i ≡ i
  name_out h = omega (arith, ap length (front_out is_inner x i h))

-- a name goes on at p
pub record Inner (x : Text) (p : ℕ) : Type 0 where
  pub inside : p < length x
  pub inner : is_inner (get_or x p 0) ≡ true

module _ (x : Text) (p : ℕ) where
  pub name-goes : p < behind_name x p → Inner x p
  name-goes h =
      by_cases (dec_lt p (length x))
      (λ i. record { inside = i; inner = by-test (is_inner (get_or x p 0)) (λ e. e) (λ e. absurd (omega (arith, name-stop x p i e))) })
      (λ n. absurd (omega (arith, name_out x p (omega arith))))

  pub name-over : behind_name x p ≤ p → name_from x p ≡ []
  name-over h = none (name_from x p) (omega arith)
    where
      none : (y : Text) → length y ≤ 0 → y ≡ []
      none [] i = refl
      none (c ∷ y) i = absurd (omega arith)

-- a byte more of a count, the last one, or none
abbrev pub count_from : Text → ℕ → ℕ
count_from x i = i + length (up_to (code "]") (drop i x))

module _ (x : Text) (i : ℕ) where
  pub count-step : i < length x → (get_or x i 0 ≡ code "]" → ⊥) → count_from x i ≡ count_from x (i + 1)
  count-step h n = rw (drop-cons x i 0 h, ne_eqb (get_or x i 0) (code "]") n, add-one) (omega arith)

  pub count-some : get_or x i 0 ≡ code "[" → behind_count x i ≡ count_from x i
  count-some e = rw (eq-eqb (get_or x i 0) (code "[") e)

  pub count_none : (get_or x i 0 ≡ code "[" → ⊥) → i ≡ behind_count x i
  count_none n = rw (ne_eqb (get_or x i 0) (code "[") n)

-- two names, byte by byte
module _ (x : Text) (p q : ℕ) where
  pub after-over : name_from x p ≡ [] → false ≡ not (not_after (name_from x p) (name_from x q))
  after-over e = rw e

  module _ (h : Inner x p) where
    pub after-longer : name_from x q ≡ [] → true ≡ not (not_after (name_from x p) (name_from x q))
    after-longer e = rw (front-step is_inner x p h.inside h.inner, e)

    module _ (k : Inner x q) where
      both_go : not_after (name_from x p) (name_from x q)
          ≡ ltb (get_or x p 0) (get_or x q 0) || (eqb (get_or x p 0) (get_or x q 0) && not_after (name_from x (p + 1)) (name_from x (q + 1)))
      both_go = rw (front-step is_inner x p h.inside h.inner, front-step is_inner x q k.inside k.inner)

      pub after_same : get_or x p 0 ≡ get_or x q 0 → not_after (name_from x p) (name_from x q) ≡ not_after (name_from x (p + 1)) (name_from x (q + 1))
      after_same e = rw (both_go, le-ltb (get_or x p 0) (get_or x q 0) (omega arith), eq-eqb (get_or x p 0) (get_or x q 0) e)

      after-other : (get_or x p 0 ≡ get_or x q 0 → ⊥) → ltb (get_or x q 0) (get_or x p 0) ≡ not (not_after (name_from x p) (name_from x q))
      after-other n =
          by-test (ltb (get_or x q 0) (get_or x p 0))
          (λ e. rw (
            both_go,
            e,
            le-ltb (get_or x p 0) (get_or x q 0) (omega (arith, ltb-true (get_or x q 0) (get_or x p 0) e)),
            ne_eqb (get_or x p 0) (get_or x q 0) n,
          ))
          (λ e. rw (both_go, e, lt-ltb (get_or x p 0) (get_or x q 0) (omega (arith, ltb-false (get_or x q 0) (get_or x p 0) e, n))))

    -- the first name goes on with another byte than the text at q
    pub after-differs : q < length x → (get_or x p 0 ≡ get_or x q 0 → ⊥)
        → ltb (get_or x q 0) (get_or x p 0) || not (is_inner (get_or x q 0)) ≡ not (not_after (name_from x p) (name_from x q))
    after-differs i n =
        by-test (is_inner (get_or x q 0))
        (λ e. rw (e, or-false) (after-other (record { inside = i; inner = e }) n))
        (λ e. rw (e, or-true) (after-longer (front-stop is_inner x q i e)))

-- all ends are inside
up-short : (b : ℕ) (y : Text) → length (up_to b y) ≤ length y
up-short b [] = omega arith
up-short b (c ∷ y) =
    by-test (eqb c b)
    (λ e. rw e (omega arith))
    (λ e. rw e (omega (arith, up-short b y)))

pub count-inside : (x : Text) (p : ℕ) → p ≤ length x → (p ≤ behind_count x p) × (behind_count x p ≤ length x)
count-inside x p h =
    by-test (is x (code "[") p)
    (λ e. rw e (omega (arith, up-short (code "]") (drop p x), length-drop p x)))
    (λ e. rw e (omega arith))

count-two : (x : Text) (p : ℕ) → p < behind_count x p → p + 1 < length x → p + 1 < behind_count x p
count-two x p k l =
    by-test (is x (code "[") p)
    (λ e.
    let b = eqb-true (get_or x p 0) (code "[") e in
    let c = count-step x p (omega arith) (λ f. omega (arith, b, f)) in
    let d : p + 1 < count_from x (p + 1) = rw (drop-cons x (p + 1) 0 l) (omega arith) in
    rw e (omega (arith, c)))
    (λ e. let n : p < p = rw e at k in absurd (omega arith))

module _ (x : Text) (p : ℕ) (h : p ≤ length x) where
  pub name-inside : behind_name x p ≤ length x
  name-inside = omega (arith, front-short is_inner (drop p x), length-drop p x)

  pub atom-bounds : (behind_name x p ≤ atom_end x p) × (atom_end x p ≤ length x)
  atom-bounds = count-inside x (behind_name x p) name-inside

  pub kept-bounds : (p ≤ kept_end x p) × (behind_name x p ≤ kept_end x p) × (kept_end x p ≤ atom_end x p)
  kept-bounds =
      by-test (one_at x p)
      (λ e. rw e (omega (arith, atom-bounds)))
      (λ e. rw e (omega (arith, atom-bounds)))

  -- of a count that is kept, a second byte is kept if there is one
  pub kept-two : behind_name x p < kept_end x p → behind_name x p + 1 < length x → behind_name x p + 1 < kept_end x p
  kept-two k l =
      by-test (one_at x p)
      (λ e. let n : behind_name x p < behind_name x p = rw e at k in absurd (omega arith))
      (λ e. rw e (count-two x (behind_name x p) (rw e at k) l))

-- the name at p ends at n, and the count behind it at e
pub record AtomEnds (x : Text) (p n e : ℕ) : Type 0 where
  pub name_is : n ≡ behind_name x p
  pub count_is : e ≡ behind_count x n

module _ {x : Text} {p n e : ℕ} (r : AtomEnds x p n e) where
  pub ended-inside : p ≤ length x → (n ≤ e) × (e ≤ length x)
  ended-inside l = rw (r.count_is, r.name_is) (atom-bounds x p l)

  pub zero-by : zero_at x p ≡ ltb n e && is x (code "0") (n + 1)
  zero-by = rw (r.count_is, r.name_is)

  pub kept_by : kept_end x p ≡ cond (eqb e (n + 6) && leb (get_or x (n + 1) 0) (code "1") && is x (code "1") (n + 4)) n e
  kept_by = rw (r.count_is, r.name_is)

-- the name at p ends at n, and what is kept of the atom at e
pub record KeptEnds (x : Text) (p n e : ℕ) : Type 0 where
  pub name_is : n ≡ behind_name x p
  pub kept_is : e ≡ kept_end x p

module _ {x : Text} {p n e : ℕ} (r : KeptEnds x p n e) where
  pub piece-by : piece_at x p
      ≡ cond (ltb n e && is x (code "0") (n + 1)) (set (take (e - p) (drop p x)) (n + 1 - p) (code "1")) (take (e - p) (drop p x))
  piece-by = rw (r.kept_is, r.name_is)

  pub piece-raised : n + 1 < e → get_or x (n + 1) 0 ≡ code "0" → piece_at x p ≡ set (take (e - p) (drop p x)) (n + 1 - p) (code "1")
  piece-raised l z = rw (piece-by, lt-ltb n e (omega arith), eq-eqb (get_or x (n + 1) 0) (code "0") z)

  pub piece-same : (get_or x (n + 1) 0 ≡ code "0" → ⊥) → piece_at x p ≡ take (e - p) (drop p x)
  piece-same z = rw (piece-by, ne_eqb (get_or x (n + 1) 0) (code "0") z, and-false)

  module _ (l : p ≤ length x) where
    pub kept-inside : (p ≤ n) × (n ≤ e) × (e ≤ length x)
    kept-inside = rw (r.kept_is, r.name_is) (omega (arith, kept-bounds x p l, atom-bounds x p l))

    pub kept-length : length (take (e - p) (drop p x)) ≡ e - p
    kept-length = rw (length-take, length-drop) (omega (arith, kept-inside))

    pub piece-length : length (piece_at x p) ≡ e - p
    piece-length =
        rw piece-by
        (by-test (ltb n e && is x (code "0") (n + 1))
        (λ t. rw (t, length-set) kept-length)
        (λ t. rw t kept-length))

    pub piece-short : e ≤ n + 1 → piece_at x p ≡ take (e - p) (drop p x)
    piece-short s =
        by-test (ltb n e)
        (λ t.
        piece-same
        (λ z.
        let i : n + 1 < length x = stands-inside x (code "0") (n + 1) (omega arith) (eq-eqb (get_or x (n + 1) 0) (code "0") z) in
        omega (arith, r, kept-two x p l (omega (arith, r, ltb-true n e t)) (omega (arith, r)))))
        (λ t. rw (piece-by, t))
