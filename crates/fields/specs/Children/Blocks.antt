-- Whether no field is too long, by blocks: where each whole block of 16 bytes has a tab, no field has as many bytes as two blocks.
use mathlib.Core.{Path.◌≡◌, Path.refl, Path.◌∙◌, List.[], List.◌∷◌}
use Rattle.std.specs.Prelude.{true, false, ℕ, zero, suc, ◌+◌, ◌-◌, ◌≤◌, ◌<◌, ◌++◌, length, drop, get_or}
use Rattle.std.proofs.Common.{true≢false, length-append, drop_at, eqb-true, lt-ltb, ltb-true}
use Rattle.std.proofs.Math.Bool.{and-eq-true_iff}
use native.Mathlib.{Omega.arith}
use lib.{Dec.eqb, Dec.ltb, ListN.get_or-append, Seq.drop-drop}
use Rattle.fields.specs.{Tests.by-test, Limits.max_name, Bytes.Text, Bytes.all, Split.tab, Split.split, Split.other}
use Rattle.fields.specs.Children.Lengths.{all_short, fits, short-fits, fits_all, fits-tab}

-- more room does no harm
fits_more : (q r : ℕ) (y : Text) → q ≤ r → fits q y ≡ true → fits r y ≡ true
fits_more q r [] h e = refl
fits_more q r (b ∷ y) h e =
    by-test (eqb b tab)
    (λ d. rw d (rw d at e))
    (λ d.
    let f = (and-eq-true_iff (ltb 0 q) (fits (q - 1) y)).0 (rw d at e) in
    let p = ltb-true 0 q f.0 in
    rw (d, lt-ltb 0 r (omega arith)) (fits_more (q - 1) (r - 1) y (omega arith) f.1))

-- n bytes take no more room than n
fits-behind : (n q r : ℕ) (y : Text) → n + q ≤ r → r ≤ max_name → fits q (drop n y) ≡ true → fits r y ≡ true
fits-behind zero q r y h l e = fits_more q r y (omega arith) e
fits-behind (suc n) q r [] h l e = refl
fits-behind (suc n) q r (b ∷ y) h l e =
    by-test (eqb b tab)
    (λ d. rw d (fits-behind n q max_name y (omega arith) (omega arith) e))
    (λ d. rw (d, lt-ltb 0 r (omega arith)) (fits-behind n q (r - 1) y (omega arith) (omega arith) e))

-- where there is a tab, some place has it
tab-stands : (y : Text) → all (other tab) y ≡ false → (k : ℕ) × ((k < length y) × (get_or y k 0 ≡ tab))
tab-stands [] e = absurd (true≢false e)
tab-stands (b ∷ y) e =
    by-test (eqb b tab)
    (λ d. (0, (omega arith, eqb-true b tab d)))
    (λ d. let h = tab-stands y (rw d at e) in (suc h.0, (omega (arith, h.1.0), h.1.1)))

-- half of a name's length
abbrev block : ℕ
block = 16

-- no field is too long, if the rest of the text fits into as much room as a block
abbrev pub DenseTo : Text → Text → Type 0
DenseTo x rest = fits block rest ≡ true → all_short (split tab x) ≡ true

module _ (x : Text) where
  pub dense-none : DenseTo x x
  dense-none e = short-fits x ∙ fits_more block max_name x (omega arith) e

  pub dense-block : (b rest : Text) → length b ≡ block → all (other tab) b ≡ false → DenseTo x (b ++ rest) → DenseTo x rest
  dense-block b rest n t d e =
      let h = tab-stands b t in
      let k = h.0 in
      let l : k < block = omega (arith, h.1.0) in
      let f = fits-tab block k (b ++ rest) (omega arith) (omega arith) (rw length-append (omega arith)) (get_or-append b rest 0 k h.1.0 ∙ h.1.1) in
      let j : drop (block - suc k) (drop (suc k) (b ++ rest)) ≡ rest = rw drop-drop (drop_at b rest (suc k + (block - suc k)) (n ∙ omega arith)) in
      d (f ∙ fits-behind (block - suc k) block max_name (drop (suc k) (b ++ rest)) (omega arith) (omega arith) (rw j e))

  pub dense-end : (rest : Text) → length rest < block → DenseTo x rest → all_short (split tab x) ≡ true
  dense-end rest h d = d (fits_all block rest (omega arith) (omega arith))
