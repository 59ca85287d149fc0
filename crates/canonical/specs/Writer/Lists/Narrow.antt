-- The place of a new member, found by halving a list whose names fall.
use mathlib.Core.{Path.◌≡◌, Path.sym, Path.ap, Path.subst, Path.◌∙◌, Logic.by_cases, Bool.Bool, Bool.true, Bool.false, Bool.not, Bool.true≢false, List.List}
use Rattle.std.specs.Prelude.{ℕ, zero, suc, ◌+◌, ◌-◌, ◌≤◌, ◌<◌, length, get_or, set}
use native.Mathlib.{Omega.arith, Decide.dec_lt}
use Rattle.std.proofs.lemmas.Bool.{not-true, not-false}
use Rattle.fields.specs.{Bytes.Text, Tests.by-test}
use Rattle.model.specs.{Tree.◌▹◌, Syntax.Syntax}
use Rattle.canonical.specs.declared.head.Head.{Head}
use Rattle.canonical.specs.Order.{not_after, smallest_name, insert, Smallest.not-after-itself, Smallest.not-after-trans}
use Rattle.canonical.specs.Neat.{Rising}
use Rattle.canonical.specs.Writer.Lists.{tree_at, trees_listed, is_behind, Falling, Narrowed, Inserted}
use Rattle.canonical.specs.Writer.Lists.Laws.{Moved, listed-less, BehindInserted, behind-none, behind_more, stops-there, stops_first, inserted}

module _ (x : Text) (stack : List Head) where
  not-behind-trans : (p q r : ℕ) → is_behind x stack p q ≡ false → is_behind x stack q r ≡ false → is_behind x stack p r ≡ false
  not-behind-trans p q r h k =
      let name : ℕ → Text = λ o. smallest_name (tree_at x stack o) in
      ap not (not-after-trans (name p) (name q) (name r) (not-false _ h) (not-false _ k))

  behind-too : (p q r : ℕ) → is_behind x stack p q ≡ true → is_behind x stack r q ≡ false → is_behind x stack p r ≡ true
  behind-too p q r h k = by-test (is_behind x stack p r) (λ e. e) (λ e. absurd (true≢false (sym h ∙ not-behind-trans p r q e k)))

  -- members that rise are listed with the last first
  module _ (list : List ℕ) (start : ℕ) where
    next-before : (t : Syntax) (n : ℕ) → start < n → n ≤ length list → Rising (t ▹ trees_listed x stack list start n)
        → not_after (smallest_name t) (smallest_name (tree_at x stack (get_or list (n - 1) 0))) ≡ true
    next-before t n h i r = (rw (listed-less x stack list start n h i) at r).0

    pub rising-falls : (n : ℕ) → n ≤ length list → Rising (trees_listed x stack list start n) → Falling x stack list start n
    rising-falls zero e r i j h k l = absurd (omega arith)
    rising-falls (suc n) e r i j h k l =
        let q : suc n - 1 ≡ n = omega arith in
        let r : Rising (tree_at x stack (get_or list n 0) ▹ trees_listed x stack list start n) =
        rw (listed-less x stack list start (suc n) (omega arith) e, q) at r in
        by_cases (dec_lt j n) (λ o. rising-falls n (omega arith) r.1 i j h k o)
        (λ o.
        let f : j ≡ n = omega arith in
        rw f
        (by_cases (dec_lt i n)
        (λ p. not-behind-trans (get_or list n 0) (get_or list (n - 1) 0) (get_or list i 0)
        (ap not (next-before (tree_at x stack (get_or list n 0)) n (omega arith) (omega arith) r))
        (rising-falls n (omega arith) r.1 i (n - 1) h (omega arith) (omega arith)))
        (λ p. let g : i ≡ n = omega arith in rw g (ap not (not-after-itself (smallest_name (tree_at x stack (get_or list n 0))))))))

module _ {x : Text} {stack : List Head} {list : List ℕ} {start end m : ℕ} where
  module _ {low high : ℕ} (c : Narrowed x stack list start end m low high) (mid : ℕ) (h : (low ≤ mid) × (mid < high))
      {r : Bool} (t : r ≡ is_behind x stack m (get_or list mid 0)) where
    pub narrowed-below : Falling x stack list start end → r ≡ true → Narrowed x stack list start end m low mid
    narrowed-below f e =
        record {
          inside = omega (arith, c.inside);
          behind = λ j i k. behind-too x stack m (get_or list mid 0) (get_or list j 0) (sym t ∙ e) (f mid j (omega (arith, c.inside)) i k);
          stops = c.stops;
        }

  -- the members from the place on move up
  module _ {k : ℕ} (c : Narrowed x stack list start end m k k) (l : end < length list) where
    behind-down : (n : ℕ) → n + k ≤ end → BehindInserted x stack list start end (tree_at x stack m) (end - n)
    behind-down zero h =
        let e : end - 0 ≡ end = omega arith in
        rw e (behind-none x stack list start end (tree_at x stack m))
    behind-down (suc n) h =
        let i = c.inside in
        let e : end - suc n ≡ end - n - 1 = omega arith in
        rw e
        (behind_more x stack list start end (tree_at x stack m) (end - n) (omega arith) (behind-down n (omega arith)) (omega arith)
        (not-true _ (c.behind (end - n - 1) (omega arith) (omega arith))))

    behind-place : BehindInserted x stack list start end (tree_at x stack m) k
    behind-place =
        let e : end - (end - k) ≡ k = omega (arith, c.inside) in
        subst (BehindInserted x stack list start end (tree_at x stack m)) e (behind-down (end - k) (omega (arith, c.inside)))

    stops-place : insert (tree_at x stack m) (trees_listed x stack list start k) ≡ tree_at x stack m ▹ trees_listed x stack list start k
    stops-place =
        by_cases (dec_lt start k)
        (λ h. stops-there x stack list start end (tree_at x stack m) k h behind-place (omega (arith, c.inside)) (not-false _ (c.stops h)))
        (λ h. stops_first x stack list start end (tree_at x stack m) k (omega arith))

    pub inserted-there : {new : List ℕ} {j : ℕ} → j ≡ k → Moved list new start end j → Inserted x stack list (set new j m) start end m
    inserted-there e v = rw e (inserted x stack (rw e at v) behind-place stops-place)
