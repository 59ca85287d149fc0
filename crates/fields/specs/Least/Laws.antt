-- One fault is first at most, so the one that is found is the answer. And how a table is gone through, test by test.
use mathlib.Core.{Path.◌≡◌, Path.refl, Logic.◌↔◌, Logic.◌⊎◌, Logic.inl, Logic.inr, Bool.Bool, Bool.true, Bool.false, Bool.cond}
use Rattle.std.specs.Prelude.{ℕ, suc, ◌≤◌, ◌<◌}
use native.Mathlib.{Decide.ℕ_discrete, Omega.arith}
use Rattle.fields.specs.{Tests.Tells, Tests.untold, Least.Before, Least.First, Least.Least}

-- an answer of which there is at most one
pub exactly : {O : Type 0} (P : O → Type 0) → ((a b : O) → P a → P b → a ≡ b) → (o : O) → P o → (a : O) → (o ≡ a) ↔ P a
exactly P once o h a = (λ e. rw e at h, λ k. once o a h k)

-- of a rank that no two faults share, or no two that stand at one place
module _ {F : Type 0} (rank : F → ℕ) where
  pub least-once : {Stands : F → Type 0} → ((f g : F) → rank f ≡ rank g → f ≡ g) → (f g : F) → Least rank Stands f → Least rank Stands g → f ≡ g
  least-once one f g h k = one f g (omega (arith, h.1 g k.0, k.1 f h.0))

  pub first_alone : {Stands : F → ℕ → Type 0} → ((f g : F) (n : ℕ) → Stands f n → Stands g n → rank f ≡ rank g → f ≡ g)
      → (f g : F) (n m : ℕ) → First rank Stands f n → First rank Stands g m → (f ≡ g) × (n ≡ m)
  first_alone one f g n m h k = go (h.1 g m k.0) (k.1 f n h.0)
    where
      go : Before rank f n g m → Before rank g m f n → (f ≡ g) × (n ≡ m)
      go (inl a) (inl b) = absurd (omega arith)
      go (inl a) (inr b) = absurd (omega arith)
      go (inr a) (inl b) = absurd (omega arith)
      go (inr a) (inr b) = (one f g n h.0 (rw a.0 k.0) (omega arith), a.0)

  pub first-once : {Stands : F → ℕ → Type 0} → ((f g : F) → rank f ≡ rank g → f ≡ g)
      → (f g : F) (n m : ℕ) → First rank Stands f n → First rank Stands g m → (f ≡ g) × (n ≡ m)
  first-once one = first_alone (λ f g n _ _ e. one f g e)

-- when each fault stands, and its rank
pub record Table (F : Type 0) : Type 1 where
  pub rank : F → ℕ
  pub Stands : F → ℕ → Type 0

module _ {F : Type 0} (T : Table F) where
  abbrev pub FirstOf : F → ℕ → Type 0
  FirstOf f n = First T.rank T.Stands f n

  -- whatever stands, stands behind place n, or there with rank r or above
  abbrev pub Above : ℕ → ℕ → F → ℕ → Type 0
  Above n r g m = (n < m) ⊎ ((n ≡ m) × (r ≤ T.rank g))

  abbrev pub Cleared : ℕ → ℕ → Type 0
  Cleared n r = (g : F) (m : ℕ) → T.Stands g m → Above n r g m

  narrow : (n r s : ℕ) → ((g : F) → T.Stands g n → r ≤ T.rank g → s ≤ T.rank g) → Cleared n r → Cleared n s
  narrow n r s k t g m h = go (t g m h)
    where
      go : Above n r g m → Above n s g m
      go (inl a) = inl a
      go (inr a) = inr (a.0, k g (rw a.0 h) a.1)

  -- no other fault has the rank of f
  abbrev pub Own : F → Type 0
  Own f = (g : F) → T.rank f ≡ T.rank g → f ≡ g

  cleared : (f : F) (n : ℕ) → Own f → ¬ T.Stands f n → Cleared n (T.rank f) → Cleared n (suc (T.rank f))
  cleared f n own c = narrow n (T.rank f) (suc (T.rank f)) (λ g h k. above g h k (ℕ_discrete (T.rank f) (T.rank g)))
    where
      above : (g : F) → T.Stands g n → T.rank f ≤ T.rank g → Dec (T.rank f ≡ T.rank g) → T.rank f < T.rank g
      above g h k (yes e) = absurd (c (rw (own g e) h))
      above g h k (no e) = omega arith

  -- one fault is tried, by a test that tells whether it stands
  pub try : {O : Type 0} (P : O → Type 0) (f : F) (n : ℕ) (b : Bool) (o p : O) → Own f → Tells b (T.Stands f n)
      → (FirstOf f n → P o) → (b ≡ false → Cleared n (suc (T.rank f)) → P p) → Cleared n (T.rank f) → P (cond b o p)
  try P f n true o p own t bad good h = bad (t.0 refl, h)
  try P f n false o p own t bad good h = good refl (cleared f n own (untold false t refl) h)
