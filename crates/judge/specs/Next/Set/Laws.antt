-- Which names are in a set that was made by `single`, by a test or by the union of two.
use mathlib.Core.{Path.◌≡◌, Path.refl, Path.sym, Path.ap, Path.◌∙◌, Bool.Bool, Bool.true, Bool.false, Bool.cond, Bool.◌&&◌, Bool.◌||◌}
use Rattle.std.specs.Prelude.{ℕ, zero, suc, ◌-◌, ◌/◌, ◌%◌, ◌^◌, ◌<◌, ◌≤◌}
use native.Mathlib.{Nat.zero-div, Numerals.one-add, Numerals.sub-one, Omega.arith}
use Rattle.std.proofs.Common.{ne_eqb}
use lib.{Dec.eqb, Dec.eqb-zero-suc, Dec.eqb-suc-zero, Dec.eqb-suc-suc, Bits.bit_or, Bits.or_shr, Bits.or_mod, Pow.shr-shr}
use Rattle.judge.specs.Next.Set.{single, in_set}

pub in-none : (k : ℕ) → in_set 0 k ≡ false
unfolding in_set
in-none k = rw zero-div

pub in-only-if : (t : Bool) (s k : ℕ) → in_set (cond t s 0) k ≡ t && in_set s k
in-only-if true s k = refl
in-only-if false s k = in-none k

digit_or : (x y : ℕ) → x < 2 → y < 2 → eqb (bit_or x y) 1 ≡ eqb x 1 || eqb y 1
digit_or zero y g h = refl
digit_or (suc zero) zero g h = refl
digit_or (suc zero) (suc zero) g h = refl
digit_or (suc zero) (suc (suc y)) g h = absurd (omega arith)
digit_or (suc (suc x)) y g h = absurd (omega arith)

pub in_either : (a b k : ℕ) → in_set (bit_or a b) k ≡ in_set a k || in_set b k
unfolding in_set
in_either a b k =
    let x = a / 2 ^ (k - 1) in
    let y = b / 2 ^ (k - 1) in
    rw (or_shr a b (k - 1), or_mod x y 1) (digit_or (x % 2) (y % 2) (omega arith) (omega arith))

-- a power of two has one digit
halved : (n j : ℕ) → n / 2 ^ suc j ≡ n / 2 / 2 ^ j
halved n j = sym (shr-shr n 1 j ∙ ap (λ x. n / 2 ^ x) (one-add j))

digit-single : (i j : ℕ) → eqb (2 ^ i / 2 ^ j % 2) 1 ≡ eqb j i
digit-single zero zero = refl
digit-single zero (suc j) = rw (halved 1 j, zero-div, eqb-suc-zero)
digit-single (suc i) zero = rw eqb-zero-suc (ne_eqb (2 ^ suc i / 2 ^ 0 % 2) 1 (λ e. omega arith))
digit-single (suc i) (suc j) =
    let e : 2 ^ suc i / 2 ≡ 2 ^ i = omega arith in
    rw (halved (2 ^ suc i) j, e, eqb-suc-suc) (digit-single i j)

pub in-single : (a k : ℕ) → 1 ≤ a → 1 ≤ k → in_set (single a) k ≡ eqb k a
unfolding in_set single
in-single zero k g h = absurd (omega arith)
in-single (suc i) zero g h = absurd (omega arith)
in-single (suc i) (suc j) g h = rw (sub-one (suc i), sub-one (suc j), eqb-suc-suc) (digit-single i j)
