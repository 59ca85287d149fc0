-- At a place stands one tree at most.
use mathlib.Core.{Path.◌≡◌, Path.refl, Path.sym, Path.ap, Path.ap₂, Path.◌∙◌, Path.subst, Logic.◌⊎◌, Logic.inl, Logic.inr, Logic.⊎_elim}
use mathlib.Core.{Bool.◌||◌, List.List, List.[], List.◌∷◌, List.◌++◌, List.append-nil, List.head-eq_of_cons-eq, List.tail-eq_of_cons-eq}
use Prim.Native.{Nat.ℕ, Char.code}
use Rattle.std.specs.Prelude.{T, eqb}
use Rattle.std.proofs.Common.{eqb→eq}
use Rattle.std.proofs.Math.Facts.{or_yes}
use Rattle.fields.specs.Bytes.{Text}
use Rattle.model.specs.Tree.{Formed}
use Rattle.model.specs.Syntax.{Syntax, text, SpellingFormed}
use Rattle.model.specs.Syntax.Machine.{State, dead, Alive, at, run, step, start}
use Rattle.model.proofs.SyntaxComplete.{focus_behind, parts, tree-run, spells-once}
use Rattle.model.specs.Syntax.Sound.{run-append, run-dead}
use Rattle.canonical.specs.Writer.Place.{is_stop, Stops, TreeAt}

-- of two beginnings of one text, one begins the other
abbrev Beginning : {A : Type 0} → List A → List A → List A → List A → Type 0
Beginning {A} x r y s = (z : List A) × (y ≡ x ++ z) × (r ≡ z ++ s)

beginnings : {A : Type 0} (x r y s : List A) → x ++ r ≡ y ++ s → Beginning x r y s ⊎ Beginning y s x r
beginnings [] r y s e = inl (y, refl, e)
beginnings (a ∷ x) r [] s e = inr (a ∷ x, refl, sym e)
beginnings {A} (a ∷ x) r (b ∷ y) s e =
    let h : a ≡ b = head-eq_of_cons-eq e in
    ⊎_elim
    (λ (z, p, q). inl (z, ap₂ {C = List A} (λ c l. c ∷ l) (sym h) p, q))
    (λ (z, p, q). inr (z, ap₂ {C = List A} (λ c l. c ∷ l) h p, q))
    (beginnings x r y s (tail-eq_of_cons-eq e))

pub stop-cases : (P : ℕ → Type 0) → P (code ")") → P (code ",") → P (code "|") → P (code "&") → (b : ℕ) → T (is_stop b) → P b
stop-cases P p q r t b s =
    let is : (c : ℕ) → P c → T (eqb b c) → P b = λ c x e. subst P (sym (eqb→eq b c e)) x in
    ⊎_elim
    (λ s. ⊎_elim (λ s. ⊎_elim (is (code ")") p) (is (code ",") q) (or_yes (eqb b (code ")")) _ s)) (is (code "|") r)
    (or_yes (eqb b (code ")") || eqb b (code ",")) _ s))
    (is (code "&") t)
    (or_yes (eqb b (code ")") || eqb b (code ",") || eqb b (code "|")) _ s)

-- a whole tree has nothing behind it
stop-ends : (t : Syntax) (b : ℕ) → T (is_stop b) → step (at [] (focus_behind t)) b ≡ dead
stop-ends t b s =
    stop-cases (λ (b : ℕ). step (at [] (focus_behind t)) b ≡ dead)
    (parts [] t (code ")") refl refl refl) (parts [] t (code ",") refl refl refl)
    (parts [] t (code "|") refl refl refl) (parts [] t (code "&") refl refl refl) b s

no_longer : (t u : Syntax) → Formed SpellingFormed t → Formed SpellingFormed u → (z s : Text) → text u ≡ text t ++ z → Stops (z ++ s) → z ≡ []
no_longer t u f g [] s e h = refl
no_longer t u f g (b ∷ z) s e h =
    let r : run start (text u) ≡ dead =
    ap (run start) e ∙ run-append start (text t) (b ∷ z) ∙ ap (λ (q : State). run (step q b) z) (tree-run t [] f)
    ∙ ap (λ (q : State). run q z) (stop-ends t b h) ∙ run-dead z in
    absurd (subst Alive (sym (tree-run u [] g) ∙ r) tt)

same_text-is : (t u : Syntax) → Formed SpellingFormed t → Formed SpellingFormed u → (r s : Text) → Stops r → Beginning (text t) r (text u) s → t ≡ u
same_text-is t u f g r s h (z, e, q) =
    let n = no_longer t u f g z s e (subst Stops q h) in
    spells-once (record { formed = f; spelt = refl }) (record { formed = g; spelt = e ∙ ap (λ l. text t ++ l) n ∙ append-nil (text t) })

tree-once : {x : Text} {p : ℕ} {t u : Syntax} → TreeAt x p t → TreeAt x p u → t ≡ u
tree-once {x} {p} {t} {u} h k =
    ⊎_elim
    (same_text-is t u h.formed k.formed h.rest k.rest h.stops)
    (λ b. sym (same_text-is u t k.formed h.formed k.rest h.rest k.stops b))
    (beginnings (text t) h.rest (text u) k.rest (sym h.splits ∙ k.splits))

-- what holds of the tree that stands at p holds of every tree that stands there
pub every-tree : {x : Text} {p : ℕ} {t : Syntax} (P : Syntax → Type 0) → TreeAt x p t → P t → (u : Syntax) → TreeAt x p u → P u
every-tree P h a u k = subst P (tree-once h k) a
