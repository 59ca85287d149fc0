-- What the tests of neighbouring bytes say of the fields.
use mathlib.Core.{Path.◌≡◌, Path.refl, Path.sym, Path.◌∙◌, List.[], List.◌∷◌}
use Rattle.std.specs.Prelude.{Bool, cond, ◌&&◌, ℕ, ◌+◌, ◌-◌, ◌<◌}
use Rattle.std.proofs.Math.Bool.{and_assoc}
use native.Mathlib.{Omega.arith, Numerals.add-one}
use lib.{Dec.eqb, ListN.length, ListN.drop, ListN.get_or, Seq.drop-cons}
use Rattle.std.proofs.Common.{eqb-true}
use Rattle.fields.specs.{Tests.by-test, Split.tab, Split.split, Split.Laws.parted}
use Rattle.fields.specs.Bytes.{Text, is_initial, is_later}
use Rattle.fields.specs.Children.Spelling.{all_spelt, may_follow, goes_on, rest_spelt}

-- behind a tab names begin, behind any other byte one goes on
goes_on-is : (a : ℕ) (y : Text) → goes_on a y ≡ cond (eqb a tab) (all_spelt (split tab y)) (rest_spelt (split tab y))
goes_on-is a [] = by-test (eqb a tab) (λ e. rw e) (λ e. rw e)
goes_on-is a (b ∷ y) =
    let h = parted tab y in
    by-test (eqb b tab)
    (λ d. rw (goes_on-is b y, d, eqb-true b tab d) (by-test (eqb a tab) (λ e. rw e) (λ e. rw e)))
    (λ d. rw (goes_on-is b y, d, h.is)
    (by-test (is_initial b)
    (λ f. rw f (by-test (eqb a tab) (λ e. rw e) (λ e. rw e)))
    (λ f. rw f (by-test (eqb a tab) (λ e. rw e) (λ e. rw e (by-test (is_later b) (λ g. rw g) (λ g. rw g)))))))

module _ (x : Text) where
  pub spelt-first : 0 < length x → all_spelt (split tab x) ≡ may_follow tab (get_or x 0 0) && goes_on (get_or x 0 0) (drop 1 x)
  spelt-first h = sym (goes_on-is tab x) ∙ go x h
    where
      go : (y : Text) → 0 < length y → goes_on tab y ≡ may_follow tab (get_or y 0 0) && goes_on (get_or y 0 0) (drop 1 y)
      go [] h = absurd (omega arith)
      go (b ∷ y) h = refl

  pub spelt-next : (i : ℕ) (good : Bool) → i < length x
      → good && goes_on (get_or x (i - 1) 0) (drop i x)
      ≡ (good && may_follow (get_or x (i - 1) 0) (get_or x i 0)) && goes_on (get_or x (i + 1 - 1) 0) (drop (i + 1) x)
  spelt-next i good h =
      let j : i + 1 - 1 ≡ i = omega arith in
      rw (j, add-one, drop-cons x i 0 h) (sym (and_assoc good _ _))
