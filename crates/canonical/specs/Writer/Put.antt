-- A byte that was put is overwritten.
use mathlib.Core.{Path.◌≡◌, Path.sym, Path.ap, Path.◌∙◌, List.[], List.◌∷◌, List.◌++◌}
use Rattle.std.specs.Prelude.{ℕ, ◌+◌, ◌<◌, length, take, drop, set}
use native.Mathlib.{Omega.arith, Nat.zero-add, Nat.suc-add}
use Rattle.std.proofs.Common.{length-take, length-set}
use Rattle.std.proofs.lemmas.List.{set-append_left}
use Rattle.fields.specs.{Bytes.Text, Put.Put}

pub set-behind : (u w : Text) (j b : ℕ) → set (u ++ w) (length u + j) b ≡ u ++ set w j b
set-behind [] w j b = ap (λ k. set w k b) (zero-add j)
set-behind (c ∷ u) w j b = ap (λ k. set (c ∷ (u ++ w)) k b) (suc-add (length u) j) ∙ ap (λ r. c ∷ r) (set-behind u w j b)

pub put-set : {old new : Text} {at : ℕ} {s : Text} {end : ℕ} → Put old new at s end → (j b : ℕ) → j < length s
    → Put old (set new (at + j) b) at (set s j b) end
put-set {old} {new} {at} {s} {end} p j b h =
    let l : length (take at old) ≡ at = length-take at old ∙ omega (arith, p.fits) in
    let rest = drop (at + length s) old in
    record {
      fits = rw length-set p.fits;
      end_is = rw length-set p.end_is;
      text_is =
          rw (length-set s j b, p.text_is)
          (ap (λ k. set (take at old ++ (s ++ rest)) (k + j) b) (sym l) ∙ set-behind (take at old) (s ++ rest) j b
          ∙ ap (λ r. take at old ++ r) (set-append_left s rest j b h));
    }
