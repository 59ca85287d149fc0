-- Whether no field is too long, by hops from tab to tab.
use mathlib.Core.{Path.◌≡◌, Path.refl, Path.sym, Path.◌∙◌, List.List, List.[], List.◌∷◌}
use Rattle.std.specs.Prelude.{Bool, true, false, cond, ◌&&◌, ℕ, zero, suc, ◌+◌, ◌-◌, ◌≤◌, ◌<◌}
use Rattle.std.proofs.Math.Bool.{and_assoc}
use Rattle.std.proofs.Common.{arith, eq-eqb, le-leb, lt-ltb, ltb-true}
use lib.{Dec.eqb, Dec.leb, Dec.ltb, Dec.leb-suc-suc, ListN.length, ListN.drop, ListN.get_or, ListN.length-drop, Seq.get_or-drop, Seq.drop-drop}
use Rattle.std.proofs.lemmas.Bool.{lt-leb}
use Rattle.fields.specs.{Tests.by-test, Limits.max_name, Bytes.Text, Bytes.front, Split.tab, Split.split, Split.other, Split.part_end}
use Rattle.fields.specs.Split.Laws.{parted}

abbrev pub all_short : List Text → Bool
all_short [] = true
all_short (c ∷ cs) = leb (length c) max_name && all_short cs

-- the first part is no longer than r, and no other is longer than a name: of the parts, and of their text
abbrev parts_fit : ℕ → List Text → Bool
parts_fit r [] = true
parts_fit r (c ∷ cs) = leb (length c) r && all_short cs

abbrev pub fits : ℕ → Text → Bool
fits r [] = true
fits r (b ∷ y) = cond (eqb b tab) (fits max_name y) (ltb 0 r && fits (r - 1) y)

short-parts : (y : Text) → all_short (split tab y) ≡ parts_fit max_name (split tab y)
short-parts y = rw (parted tab y).is

one_less : (n r : ℕ) → leb (suc n) r ≡ ltb 0 r && leb n (r - 1)
one_less n zero = lt-leb (suc n) zero (omega arith)
one_less n (suc r) = let e : suc r - 1 ≡ r = omega arith in rw (lt-ltb 0 (suc r) (omega arith), e) (leb-suc-suc n r)

parts-fit : (r : ℕ) (y : Text) → parts_fit r (split tab y) ≡ fits r y
parts-fit r [] = rw (le-leb 0 r (omega arith))
parts-fit r (b ∷ y) =
    let h = parted tab y in
    by-test (eqb b tab)
    (λ d. rw (d, le-leb 0 r (omega arith)) (short-parts y ∙ parts-fit max_name y))
    (λ d. rw (d, ← parts-fit (r - 1) y, h.is, one_less (length h.first) r) (and_assoc (ltb 0 r) _ _))

pub short-fits : (y : Text) → all_short (split tab y) ≡ fits max_name y
short-fits y = short-parts y ∙ parts-fit max_name y

-- no part is longer than the text
pub fits_all : (r : ℕ) (y : Text) → length y ≤ r → r ≤ max_name → fits r y ≡ true
fits_all r [] h l = refl
fits_all r (b ∷ y) h l =
    by-test (eqb b tab)
    (λ d. rw d (fits_all max_name y (omega arith) (omega arith)))
    (λ d. rw (d, lt-ltb 0 r (omega arith)) (fits_all (r - 1) y (omega arith) (omega arith)))

-- the parts before a tab that is near are short, so those behind it decide
pub fits-tab : (r k : ℕ) (y : Text) → k ≤ r → r ≤ max_name → k < length y → get_or y k 0 ≡ tab → fits r y ≡ fits max_name (drop (suc k) y)
fits-tab r k [] n l h e = absurd (omega arith)
fits-tab r zero (b ∷ y) n l h e = rw (eq-eqb b tab e)
fits-tab r (suc k) (b ∷ y) n l h e =
    by-test (eqb b tab)
    (λ d. rw d (fits-tab max_name k y (omega arith) (omega arith) (omega arith) e))
    (λ d. rw (d, lt-ltb 0 r (omega arith)) (fits-tab (r - 1) k y (omega arith) (omega arith) (omega arith) e))

-- the first part is longer
fits_not : (r : ℕ) (y : Text) → r < length (front (other tab) y) → fits r y ≡ false
fits_not r [] h = absurd (omega arith)
fits_not r (b ∷ y) h =
    by-test (eqb b tab)
    (λ d. absurd (omega (arith, rw d at h)))
    (λ d. by-test (ltb 0 r)
    (λ t. rw (d, t) (fits_not (r - 1) y (omega (arith, rw d at h, ltb-true 0 r t))))
    (λ t. rw (d, t)))

-- A hop from the beginning of a field to that of another, over fields that are short enough.
pub record Hop (x : Text) (at next : ℕ) : Type 0 where
  pub ahead : at < next
  pub within : next ≤ length x
  pub same : all_short (split tab (drop at x)) ≡ all_short (split tab (drop next x))

module _ (x : Text) (at : ℕ) where
  pub short-rest : length x - at ≤ max_name → all_short (split tab (drop at x)) ≡ true
  short-rest h = short-fits (drop at x) ∙ fits_all max_name (drop at x) (rw length-drop h) (omega arith)

  pub hop-tab : (i : ℕ) → at ≤ i → i ≤ at + max_name → i < length x → get_or x i 0 ≡ tab → Hop x at (i + 1)
  hop-tab i p n h e =
      let k = i - at in
      let j : at + k ≡ i = omega arith in
      let s : at + suc k ≡ i + 1 = omega arith in
      let t : get_or (drop at x) k 0 ≡ tab = rw (get_or-drop, j) e in
      let f = fits-tab max_name k (drop at x) (omega arith) (omega arith) (rw length-drop (omega arith)) t in
      record { ahead = omega arith; within = omega arith; same = short-fits (drop at x) ∙ f ∙ rw (drop-drop, s) (sym (short-fits (drop (i + 1) x))) }

  pub hop-none : at + max_name < part_end x tab at → all_short (split tab (drop at x)) ≡ false
  hop-none h = short-fits (drop at x) ∙ fits_not max_name (drop at x) (omega arith)
