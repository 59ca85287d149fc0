-- What is ahead of each node, member by member: the pass over the nodes computes `ahead_by`.
use mathlib.Core.{Path.◌≡◌, Path.refl, Path.ap, List.List, List.[], List.◌∷◌, List.◌++◌}
use Rattle.std.specs.Prelude.{ℕ, zero, suc, ◌<◌, min}
use Rattle.std.proofs.Common.{arith}
use lib.{Dec.eqb, ListN.length, ListN.get_or, ListN.set}
use Rattle.model.specs.{declared.rule.Kind.Kind, Model.operator}
use Rattle.model.specs.declared.rule.Kind.TheVariants.{Atom, Group}
use Rattle.judge.specs.{declared.tally.Seen.Seen, declared.ahead.Ahead.Ahead, Row.Stack.Parts, Row.Joined.members-more, Row.Attribute.attribute_in}
use Rattle.judge.specs.Next.Ahead.{pair_ahead, empty_ahead, ahead_by, part_ahead, grown_ahead}

part-more : (n : ℕ) (κ : Kind) (a : ℕ) (z : Seen) (l : List Ahead) (y : Ahead)
    → part_ahead n κ a z (l ++ (y ∷ [])) ≡ grown_ahead κ (eqb (length l) 0) (part_ahead n κ a z l) y
unfolding part_ahead grown_ahead
part-more n (Atom lo hi) a z l y = refl
part-more n (Group s m) a z l y = members-more (pair_ahead (operator s)) (empty_ahead n) l y

pub ahead-parts : (n : ℕ) (s : ℕ → Seen) → Parts (ahead_by n s) (λ κ a l. part_ahead n κ a (s a) l) grown_ahead
unfolding part_ahead
ahead-parts n s = record { atom_is = λ lo hi a l. refl; group_is = λ g m a k l. refl; more = λ κ a l y. part-more n κ a (s a) l y }

-- attributes in numbers, and the sets beside them
abbrev pub aheads_in : List ℕ → List ℕ → List Ahead
aheads_in [] ss = []
aheads_in (w ∷ ws) [] = []
aheads_in (w ∷ ws) (s ∷ ss) = record { part = attribute_in w; next = s } ∷ aheads_in ws ss

pub aheads-long : (ws ss : List ℕ) → length (aheads_in ws ss) ≡ min (length ws) (length ss)
aheads-long [] ss = omega arith
aheads-long (w ∷ ws) [] = omega arith
aheads-long (w ∷ ws) (s ∷ ss) = omega (arith, aheads-long ws ss)

pub aheads-at : (ws ss : List ℕ) (i : ℕ) (d : Ahead) → i < length (aheads_in ws ss)
    → get_or (aheads_in ws ss) i d ≡ record { part = attribute_in (get_or ws i 0); next = get_or ss i 0 }
aheads-at [] ss i d h = absurd (omega arith)
aheads-at (w ∷ ws) [] i d h = absurd (omega arith)
aheads-at (w ∷ ws) (s ∷ ss) zero d h = refl
aheads-at (w ∷ ws) (s ∷ ss) (suc i) d h = aheads-at ws ss i d (omega arith)

pub aheads-set : (ws ss : List ℕ) (i w s : ℕ) → aheads_in (set ws i w) (set ss i s) ≡ set (aheads_in ws ss) i (record { part = attribute_in w; next = s })
aheads-set [] ss i w s = refl
aheads-set (v ∷ ws) [] zero w s = refl
aheads-set (v ∷ ws) [] (suc i) w s = refl
aheads-set (v ∷ ws) (r ∷ ss) zero w s = refl
aheads-set (v ∷ ws) (r ∷ ss) (suc i) w s = ap (λ l. record { part = attribute_in v; next = r } ∷ l) (aheads-set ws ss i w s)
