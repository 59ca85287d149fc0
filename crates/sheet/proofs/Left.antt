-- The first of the lines that a walk has left.
use Rattle.std.specs.Prelude.{◌≡◌, ℕ, suc, ◌+◌, ◌<◌, List, [], ◌∷◌, length, drop, get_or}
use Rattle.std.proofs.Common.{ap, sym, ◌∙◌, arith, add-one, drop-cons, length-drop}
use Rattle.fields.specs.Bytes.{Text}

pub left_at : (ls : List Text) (n : ℕ) {l : Text} {ks : List Text} → drop n ls ≡ l ∷ ks → (n < length ls) × (get_or ls n [] ≡ l) × (drop (n + 1) ls ≡ ks)
left_at ls n {l} {ks} e =
    let h : n < length ls = omega (arith, length-drop n ls, ap length e) in
    let d : get_or ls n [] ∷ drop (suc n) ls ≡ l ∷ ks = sym (drop-cons ls n [] h) ∙ e in
    let a : get_or ls n [] ≡ l = cc d in
    let b : drop (suc n) ls ≡ ks = cc d in
    (h, a, rw add-one b)
