-- The second pass over a row: the attributes that it computes, member by member, and at its end that of the first node.
use mathlib.Core.{Path.◌≡◌, Path.refl, Bool.Bool, Bool.cond, List.List, List.[], List.◌∷◌, List.◌++◌}
use Rattle.std.specs.Prelude.{ℕ}
use lib.{Dec.eqb, ListN.length, ListN.get_or}
use Rattle.model.specs.{declared.rule.Kind.Kind, declared.rule.Rule.Rule, Rule.used, Model.operator, Model.eval}
use Rattle.model.specs.declared.rule.Kind.TheVariants.{Atom, Group}
use Rattle.judge.specs.{declared.tally.Seen.Seen, declared.attribute.Attribute.Attribute, Row.Stack.Parts, Row.Joined.members-more}
use Rattle.judge.specs.Row.Attribute.{empty_attribute, pair_attribute, counted_attribute, joined_attribute, attribute_by}

-- of the first node of a rule, in a row of n children
abbrev pub root_attribute : Rule → ℕ → (ℕ → Seen) → Attribute
root_attribute r n s = get_or (eval (attribute_by n s) (used r) 1) 0 (empty_attribute n)

-- of an atom, by what is seen of its name, or of a group, by some first of its members
unfoldable pub part_attribute : ℕ → Kind → Seen → List Attribute → Attribute
part_attribute n (Atom lo hi) x l = counted_attribute n lo x
part_attribute n (Group s m) x l = joined_attribute n (operator s) l

-- a member more, which may be the first
unfoldable pub grown_attribute : Kind → Bool → Attribute → Attribute → Attribute
grown_attribute (Atom lo hi) b x y = x
grown_attribute (Group s m) b x y = cond b y (pair_attribute (operator s) x y)

part-more : (n : ℕ) (κ : Kind) (z : Seen) (l : List Attribute) (y : Attribute)
    → part_attribute n κ z (l ++ (y ∷ [])) ≡ grown_attribute κ (eqb (length l) 0) (part_attribute n κ z l) y
unfolding part_attribute grown_attribute
part-more n (Atom lo hi) z l y = refl
part-more n (Group s m) z l y = members-more (pair_attribute (operator s)) (empty_attribute n) l y

-- the attributes of nodes, member by member
pub attribute-parts : (n : ℕ) (s : ℕ → Seen) → Parts (attribute_by n s) (λ κ a l. part_attribute n κ (s a) l) grown_attribute
unfolding part_attribute
attribute-parts n s = record { atom_is = λ lo hi a l. refl; group_is = λ g m a k l. refl; more = λ κ a l y. part-more n κ (s a) l y }
