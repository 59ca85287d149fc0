-- The byte order of names is total, and the smallest of some names does not depend on the order in which they stand.
use mathlib.Core.{Path.◌≡◌, Path.refl, Path.sym, Path.ap, Path.ap₂, Path.◌∙◌, Logic.◌⊎◌, Logic.inl, Logic.inr, Logic.⊎_elim, Logic.by_cases}
use Rattle.std.specs.Prelude.{true, false, cond, ◌&&◌, ℕ, ◌+◌, ◌≤◌, ◌<◌, eqb, ltb}
use Rattle.std.proofs.Common.{true≢false, ltb-true, lt-ltb, eqb-true, eq-eqb}
use Rattle.std.proofs.lemmas.Bool.{false≢true}
use mathlib.Core.List.Memᴰ
use mathlib.Core.List.{List, [], ◌∷◌, ◌++◌, Memᴰ}
use native.Mathlib.{Decide.dec_lt, Omega.arith}
use Rattle.fields.specs.{Bytes.Text, Bytes.same_text, Bytes.Laws.same_text-is, Tests.by-test, Tests.Tells, Tests.tells-and, Tests.tells-or}
use Rattle.canonical.specs.Order.{not_after, smaller, smallest}

first_byte : (c d : ℕ) (x y : Text) → Tells (not_after (c ∷ x) (d ∷ y)) ((c < d) ⊎ ((c ≡ d) × (not_after x y ≡ true)))
first_byte c d x y =
    tells-or (ltb c d) (eqb c d && not_after x y) (ltb-true c d, lt-ltb c d)
    (tells-and (eqb c d) (not_after x y) (eqb-true c d, eq-eqb c d) (λ e. e, λ e. e))

pub not-after-itself : (x : Text) → not_after x x ≡ true
not-after-itself [] = refl
not-after-itself (c ∷ x) = (first_byte c c x x).1 (inr (refl, not-after-itself x))

pub not-after-total : (x y : Text) → (not_after x y ≡ true) ⊎ (not_after y x ≡ true)
not-after-total [] y = inl refl
not-after-total (c ∷ x) [] = inr refl
not-after-total (c ∷ x) (d ∷ y) =
    by_cases (dec_lt c d) (λ l. inl ((first_byte c d x y).1 (inl l)))
    (λ l. by_cases (dec_lt d c) (λ k. inr ((first_byte d c y x).1 (inl k)))
    (λ k.
    let e : c ≡ d = omega arith in
    ⊎_elim (λ h. inl ((first_byte c d x y).1 (inr (e, h)))) (λ h. inr ((first_byte d c y x).1 (inr (sym e, h)))) (not-after-total x y)))

pub not-after-other : (x y : Text) → not_after x y ≡ false → not_after y x ≡ true
not-after-other x y e = ⊎_elim (λ h. absurd (true≢false (sym h ∙ e))) (λ h. h) (not-after-total x y)

pub not-after-trans : (x y z : Text) → not_after x y ≡ true → not_after y z ≡ true → not_after x z ≡ true
not-after-trans [] y z h k = refl
not-after-trans (c ∷ x) [] z h k = absurd (false≢true h)
not-after-trans (c ∷ x) (d ∷ y) [] h k = absurd (false≢true k)
not-after-trans (c ∷ x) (d ∷ y) (b ∷ z) h k =
    let q = (first_byte d b y z).0 k in
    (first_byte c b x z).1 (⊎_elim
    (λ l. inl (⊎_elim (λ r. omega (arith, l, r)) (λ r. omega (arith, l, r.0)) q))
    (λ l. ⊎_elim (λ r. inl (omega (arith, l.0, r))) (λ r. inr (l.0 ∙ r.0, not-after-trans x y z l.1 r.1)) q)
    ((first_byte c d x y).0 h))

pub not-after-both : (x y : Text) → not_after x y ≡ true → not_after y x ≡ true → x ≡ y
not-after-both [] [] h k = refl
not-after-both [] (d ∷ y) h k = absurd (false≢true k)
not-after-both (c ∷ x) [] h k = absurd (false≢true h)
not-after-both (c ∷ x) (d ∷ y) h k =
    ⊎_elim (λ l. ⊎_elim (λ r. absurd (omega (arith, l, r))) (λ r. absurd (omega (arith, l, r.0))) ((first_byte d c y x).0 k))
    (λ l. ⊎_elim
    (λ r. absurd (omega (arith, l.0, r))) (λ r. ap₂ (λ b z. b ∷ z) l.0 (not-after-both x y l.1 r.1)) ((first_byte d c y x).0 k))
    ((first_byte c d x y).0 h)

-- the smallest is one of the names, and is after none
smaller-left : (x y : Text) → not_after (smaller x y) x ≡ true
smaller-left x y = by-test (not_after x y) (λ e. rw e (not-after-itself x)) (λ e. rw e (not-after-other x y e))

smaller-right : (x y : Text) → not_after (smaller x y) y ≡ true
smaller-right x y = by-test (not_after x y) (λ e. rw e e) (λ e. rw e (not-after-itself y))

pub smallest-in : (x : Text) (l : List Text) → Memᴰ (smallest (x ∷ l)) (x ∷ l)
smallest-in x [] = Memᴰ.head refl
smallest-in x (y ∷ l) =
    by-test (not_after x (smallest (y ∷ l))) (λ e. rw e (Memᴰ.head refl)) (λ e. rw e (Memᴰ.tail (smallest-in y l)))

pub smallest-first : (l : List Text) (y : Text) → Memᴰ y l → not_after (smallest l) y ≡ true
smallest-first [] y m = absurd (Memᴰ.not-nil m)
smallest-first (x ∷ []) y m = ⊎_elim (λ e. rw e (not-after-itself x)) (λ i. absurd (Memᴰ.not-nil i)) (Memᴰ.cases_cons m)
smallest-first (x ∷ z ∷ l) y m =
    let s = smallest (z ∷ l) in
    ⊎_elim (λ e. rw e (smaller-left x s)) (λ i. not-after-trans (smaller x s) s y (smaller-right x s) (smallest-first (z ∷ l) y i))
    (Memᴰ.cases_cons m)

-- the smallest of names and others behind them
smaller-both : (w x y : Text) → not_after w x ≡ true → not_after w y ≡ true → not_after w (smaller x y) ≡ true
smaller-both w x y h k = by-test (not_after x y) (λ e. rw e h) (λ e. rw e k)

smaller-assoc : (x y z : Text) → smaller x (smaller y z) ≡ smaller (smaller x y) z
smaller-assoc x y z =
    let r = smaller x (smaller y z) in
    let l = smaller (smaller x y) z in
    let p = not-after-trans r (smaller y z) y (smaller-right x (smaller y z)) (smaller-left y z) in
    let q = not-after-trans r (smaller y z) z (smaller-right x (smaller y z)) (smaller-right y z) in
    let i = not-after-trans l (smaller x y) x (smaller-left (smaller x y) z) (smaller-left x y) in
    let j = not-after-trans l (smaller x y) y (smaller-left (smaller x y) z) (smaller-right x y) in
    not-after-both r l
    (smaller-both r (smaller x y) z (smaller-both r x y (smaller-left x (smaller y z)) p) q)
    (smaller-both l x (smaller y z) i (smaller-both l y z j (smaller-right (smaller x y) z)))

pub smallest-append : (x : Text) (k : List Text) (y : Text) (l : List Text) → smallest ((x ∷ k) ++ (y ∷ l)) ≡ smaller (smallest (x ∷ k)) (smallest (y ∷ l))
smallest-append x [] y l = refl
smallest-append x (z ∷ k) y l = ap (smaller x) (smallest-append z k y l) ∙ smaller-assoc x (smallest (z ∷ k)) (smallest (y ∷ l))

-- how often a name stands in a list
abbrev pub occurs : Text → List Text → ℕ
occurs x [] = 0
occurs x (y ∷ l) = cond (same_text y x) 1 0 + occurs x l

pub occurs-here : (x : Text) (l : List Text) → Memᴰ x l → 1 ≤ occurs x l
occurs-here x [] m = absurd (Memᴰ.not-nil m)
occurs-here x (y ∷ l) m =
    ⊎_elim (λ e. rw ((same_text-is y x).1 (sym e)) (omega arith)) (λ i. omega (arith, occurs-here x l i)) (Memᴰ.cases_cons m)

pub occurs-in : (x : Text) (l : List Text) → 1 ≤ occurs x l → Memᴰ x l
occurs-in x [] h = absurd (omega arith)
occurs-in x (y ∷ l) h =
    by-test (same_text y x) (λ e. Memᴰ.head (sym ((same_text-is y x).0 e))) (λ e. Memᴰ.tail (occurs-in x l (omega (arith, rw e at h))))

-- the same names, each as often
abbrev pub SameNames : List Text → List Text → Type 0
SameNames k l = (x : Text) → occurs x k ≡ occurs x l

pub smallest-same : (k l : List Text) → SameNames k l → smallest k ≡ smallest l
smallest-same [] [] h = refl
smallest-same [] (y ∷ l) h = absurd (omega (arith, h y, occurs-here y (y ∷ l) (Memᴰ.head refl)))
smallest-same (x ∷ k) [] h = absurd (omega (arith, h x, occurs-here x (x ∷ k) (Memᴰ.head refl)))
smallest-same (x ∷ k) (y ∷ l) h =
    let a = smallest (x ∷ k) in
    let b = smallest (y ∷ l) in
    let i = occurs-here a (x ∷ k) (smallest-in x k) in
    let j = occurs-here b (y ∷ l) (smallest-in y l) in
    not-after-both a b
    (smallest-first (x ∷ k) b (occurs-in b (x ∷ k) (omega (arith, h b, j))))
    (smallest-first (y ∷ l) a (occurs-in a (y ∷ l) (omega (arith, h a, i))))
