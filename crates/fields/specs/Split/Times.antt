-- How often a byte stands in a text, counted from the beginning, byte by byte and part by part; how many lines there are.
use mathlib.Core.{Path.◌≡◌, Path.refl, Path.ap, Path.◌∙◌, List.List, List.[], List.◌∷◌, List.◌++◌}
use Rattle.std.specs.Prelude.{ℕ, suc, ◌+◌, ◌≤◌}
use native.Mathlib.{Omega.arith}
use lib.{Dec.eqb, ListN.length}
use Rattle.fields.specs.{Tests.by-test, Bytes.Text}
use Rattle.fields.specs.Split.{line_feed, but_last, lines, times, Laws.parted, Laws.split-count}

module _ (s : ℕ) where
  pub times-append : (x y : Text) → times s (x ++ y) ≡ times s x + times s y
  times-append [] y = omega arith
  times-append (b ∷ x) y = by-test (eqb b s) (λ e. rw e (omega (arith, times-append x y))) (λ e. rw e (times-append x y))

  -- no more often than there are bytes
  pub times-few : (y : Text) → times s y ≤ length y
  times-few [] = omega arith
  times-few (b ∷ y) = by-test (eqb b s) (λ e. rw e (omega (arith, times-few y))) (λ e. rw e (omega (arith, times-few y)))

but-last-length : (p : Text) (ps : List Text) → length (but_last (p ∷ ps)) ≡ length ps
but-last-length p [] = refl
but-last-length p (q ∷ ps) = ap suc (but-last-length q ps)

-- no more lines than bytes
pub lines-few : (x : Text) → length (lines x) ≤ length x
lines-few x =
    let h = parted line_feed x in
    let n = ap (λ ps. length (but_last ps)) h.is ∙ but-last-length h.first h.rest in
    omega (arith, n, ap length h.is, split-count line_feed x, times-few line_feed x)
