-- Laws of the trees on the stack.
use mathlib.Core.{Path.◌≡◌, Path.refl, Path.sym, Path.ap, Path.◌∙◌, List.List, List.[], List.◌∷◌}
use Rattle.std.specs.Prelude.{ℕ, suc, ◌+◌, length, take, drop}
use native.Mathlib.{Omega.arith, Nat.add-zero, Nat.zero-add}
use Rattle.model.specs.Tree.{Members, none, ◌▹◌, size}
use Rattle.model.specs.Flatten.{◌⧺◌, Append.append-none}
use Rattle.model.specs.Syntax.{Spelling, Syntax}
use Rattle.canonical.specs.Writer.Stack.{turned, stacked}

pub stacked-append : (ts us : Members Spelling) (l : List Syntax) → stacked (ts ⧺ us) l ≡ stacked us (stacked ts l)
stacked-append none us l = refl
stacked-append (t ▹ ts) us l = stacked-append ts us (t ∷ l)

take-stacked : (ts : Members Spelling) (n : ℕ) (l : List Syntax) → take (size ts + n) (stacked ts l) ≡ stacked ts (take n l)
take-stacked none n l = rw zero-add
take-stacked (t ▹ ts) n l =
    let e : suc (size ts) + n ≡ size ts + suc n = omega arith in
    ap (λ k. take k (stacked ts (t ∷ l))) e ∙ take-stacked ts (suc n) (t ∷ l)

drop-stacked : (ts : Members Spelling) (n : ℕ) (l : List Syntax) → drop (size ts + n) (stacked ts l) ≡ drop n l
drop-stacked none n l = rw zero-add
drop-stacked (t ▹ ts) n l =
    let e : suc (size ts) + n ≡ size ts + suc n = omega arith in
    ap (λ k. drop k (stacked ts (t ∷ l))) e ∙ drop-stacked ts (suc n) (t ∷ l)

turned-stacked : (ts : Members Spelling) (l : List Syntax) (us : Members Spelling) → turned (stacked ts l) us ≡ turned l (ts ⧺ us)
turned-stacked none l us = refl
turned-stacked (t ▹ ts) l us = turned-stacked ts (t ∷ l) us

-- the members come back
pub members-back : (ts : Members Spelling) (l : List Syntax) → turned (take (size ts) (stacked ts l)) none ≡ ts
members-back ts l =
    ap (λ k. turned (take k (stacked ts l)) none) (sym (add-zero (size ts))) ∙ ap (λ k. turned k none) (take-stacked ts 0 l) ∙ turned-stacked ts [] none
    ∙ append-none ts

pub others-back : (ts : Members Spelling) (l : List Syntax) → drop (size ts) (stacked ts l) ≡ l
others-back ts l = ap (λ k. drop k (stacked ts l)) (sym (add-zero (size ts))) ∙ drop-stacked ts 0 l

pub stacked-length : (ts : Members Spelling) (l : List Syntax) → length (stacked ts l) ≡ size ts + length l
stacked-length none l = omega arith
stacked-length (t ▹ ts) l = stacked-length ts (t ∷ l) ∙ omega arith
