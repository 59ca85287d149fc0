-- Laws of the operators of document 001 on languages: each has a neutral language, and is associative.
use mathlib.Core.{Path.◌≡◌, Path.refl, Path.sym, Path.ap, Path.◌∙◌, Path.subst, Logic.◌↔◌, Logic.◌⊎◌, Logic.inl, Logic.inr, Logic.⊎_elim}
use mathlib.Core.List.{[], ◌∷◌, ◌++◌, append_assoc, append-nil, cons≢nil}
use Rattle.model.specs.Word.{Word, Shuffle, none, left, right}
use Rattle.model.proofs.WordLaws.{shuffle-swap, append-shuffle}
use Rattle.model.specs.Types.{Operator, sequence, choice, interleaving, Language, Joined}

-- the same words
abbrev pub Same : Language → Language → Type 0
Same P Q = (w : Word) → P w ↔ Q w

pub itself : (P : Language) → Same P P
itself P w = (λ h. h, λ h. h)

pub thus : {P Q R : Language} → Same P Q → Same Q R → Same P R
thus f g w = (λ h. (g w).0 ((f w).0 h), λ h. (f w).1 ((g w).1 h))

pub back : {P Q : Language} → Same P Q → Same Q P
back f w = ((f w).1, (f w).0)

pub nil-or-not : (w : Word) → (w ≡ []) ⊎ (¬ w ≡ [])
nil-or-not [] = inl refl
nil-or-not (x ∷ w) = inr (λ e. cons≢nil e)

-- the empty row alone
abbrev pub Empty : Language
Empty w = w ≡ []

-- what changes nothing in a join
abbrev pub Neutral : Operator → Language
Neutral sequence w = w ≡ []
Neutral choice w = ⊥
Neutral interleaving w = w ≡ []

pub joined_same : (o : Operator) {P P' Q Q' : Language} → Same P P' → Same Q Q' → Same (Joined o P Q) (Joined o P' Q')
joined_same sequence f g w = (λ (u, v, e, p, q). (u, v, e, (f u).0 p, (g v).0 q), λ (u, v, e, p, q). (u, v, e, (f u).1 p, (g v).1 q))
joined_same choice f g w = (⊎_elim (λ p. inl ((f w).0 p)) (λ q. inr ((g w).0 q)), ⊎_elim (λ p. inl ((f w).1 p)) (λ q. inr ((g w).1 q)))
joined_same interleaving f g w = (λ (u, v, e, p, q). (u, v, e, (f u).0 p, (g v).0 q), λ (u, v, e, p, q). (u, v, e, (f u).1 p, (g v).1 q))

shuffle-nil : {v w : Word} → Shuffle [] v w → v ≡ w
shuffle-nil none = refl
shuffle-nil (right {a = a} s) = ap (λ l. a ∷ l) (shuffle-nil s)

pub neutral-left : (o : Operator) (P : Language) → Same (Joined o (Neutral o) P) P
neutral-left sequence P w = (λ (u, v, e, p, q). subst P (sym (e ∙ ap (λ l. l ++ v) p)) q, λ q. ([], w, refl, refl, q))
neutral-left choice P w = (⊎_elim (λ p. absurd p) (λ q. q), inr)
neutral-left interleaving P w =
    (λ (u, v, e, p, q). subst P (shuffle-nil (subst (λ l. Shuffle l v w) p e)) q, λ q. ([], w, append-shuffle [] w, refl, q))

pub neutral-right : (o : Operator) (P : Language) → Same (Joined o P (Neutral o)) P
neutral-right sequence P w =
    (λ (u, v, e, p, q). subst P (sym (e ∙ ap (λ l. u ++ l) q ∙ append-nil u)) p, λ p. (w, [], sym (append-nil w), p, refl))
neutral-right choice P w = (⊎_elim (λ p. p) (λ q. absurd q), inl)
neutral-right interleaving P w = (
  λ (u, v, e, p, q). subst P (shuffle-nil (shuffle-swap (subst (λ l. Shuffle u l w) q e))) p,
  λ p. (w, [], shuffle-swap (append-shuffle [] w), p, refl),
)

shuffle_right : {u v w x y : Word} → Shuffle u v w → Shuffle x y u → (z : Word) × Shuffle x z w × Shuffle y v z
shuffle_right none none = ([], none, none)
shuffle_right (left s) (left t) = let (z, p, q) = shuffle_right s t in (z, left p, q)
shuffle_right (left {a = a} s) (right t) = let (z, p, q) = shuffle_right s t in (a ∷ z, right p, left q)
shuffle_right (right {a = a} s) t = let (z, p, q) = shuffle_right s t in (a ∷ z, right p, right q)

shuffle_left : {u v w y z : Word} → Shuffle u v w → Shuffle y z v → (x : Word) × Shuffle x z w × Shuffle u y x
shuffle_left s t = let (x, p, q) = shuffle_right (shuffle-swap s) (shuffle-swap t) in (x, shuffle-swap p, shuffle-swap q)

pub joined-assoc : (o : Operator) (P Q R : Language) → Same (Joined o (Joined o P Q) R) (Joined o P (Joined o Q R))
joined-assoc sequence P Q R w = (
  λ (u, v, e, (x, y, f, p, q), r). (x, y ++ v, e ∙ ap (λ l. l ++ v) f ∙ append_assoc x y v, p, (y, v, refl, q, r)),
  λ (u, v, e, p, (y, z, f, q, r)). (u ++ y, z, e ∙ ap (λ l. u ++ l) f ∙ sym (append_assoc u y z), (u, y, refl, p, q), r),
)
joined-assoc choice P Q R w = (
  ⊎_elim (⊎_elim inl (λ q. inr (inl q))) (λ r. inr (inr r)),
  ⊎_elim (λ p. inl (inl p)) (⊎_elim (λ q. inl (inr q)) inr),
)
joined-assoc interleaving P Q R w = (
  λ (u, v, e, (x, y, f, p, q), r). let (z, i, j) = shuffle_right e f in (x, z, i, p, (y, v, j, q, r)),
  λ (u, v, e, p, (y, z, f, q, r)). let (x, i, j) = shuffle_left e f in (x, z, i, (u, y, j, p, q), r),
)
