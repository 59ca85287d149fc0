-- Members joined from left to right, by any way to join two: it serves the attributes of a group's members and what is ahead of them.
use mathlib.Core.{Path.◌≡◌, Path.refl, Path.◌∙◌, Bool.cond, List.List, List.[], List.◌∷◌, List.◌++◌, List.map}
use Rattle.std.specs.Prelude.{suc}
use Rattle.std.proofs.Common.{arith, ne_eqb}
use lib.{Dec.eqb, ListN.length}
use Rattle.model.specs.{Types.Operator, Types.Ty, Types.ε, Types.join, Model.joined_from, Model.joined_type}

module _ {A : Type 0} (pair : A → A → A) where
  abbrev pub joined_on : A → List A → A
  joined_on x [] = x
  joined_on x (y ∷ l) = joined_on (pair x y) l

  -- no members give e
  abbrev pub joined_all : A → List A → A
  joined_all e [] = e
  joined_all e (x ∷ l) = joined_on x l

  joined-more : (x : A) (l : List A) (y : A) → joined_on x (l ++ (y ∷ [])) ≡ pair (joined_on x l) y
  joined-more x [] y = refl
  joined-more x (z ∷ l) y = joined-more (pair x z) l y

  -- a member more, which may be the first
  pub members-more : (e : A) (l : List A) (y : A) → joined_all e (l ++ (y ∷ [])) ≡ cond (eqb (length l) 0) y (pair (joined_all e l) y)
  members-more e [] y = refl
  members-more e (x ∷ l) y = let d = ne_eqb (suc (length l)) 0 (λ f. omega arith) in rw d (joined-more x l y)

-- f carries the join of two types into `pair`, and so that of a group's members
module _ {A : Type 0} (f : Ty → A) (pair : Operator → A → A → A) (on-join : (o : Operator) (B C : Ty) → f (join o B C) ≡ pair o (f B) (f C)) where
  carried_on : (o : Operator) (B : Ty) (l : List Ty) → f (joined_from o B l) ≡ joined_on (pair o) (f B) (map f l)
  carried_on o B [] = refl
  carried_on o B (C ∷ l) = carried_on o (join o B C) l ∙ rw on-join

  pub carried : (e : A) → f ε ≡ e → (o : Operator) (l : List Ty) → f (joined_type o l) ≡ joined_all (pair o) e (map f l)
  carried e d o [] = d
  carried e d o (B ∷ l) = carried_on o B l
