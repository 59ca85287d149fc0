-- The members of `|` and `&` in the byte order of their smallest name: document 02, W4. Below it:
--   Smallest      the order of names is total
--   Sorted        members rise, and stay as they are when they are ordered again
--   Rows, Kept    the rows are the same, and all else that does not look at the order
pub mod Smallest
pub mod Kept
pub mod Sorted
pub mod Rows
use mathlib.Core.{Bool.Bool, Bool.true, Bool.false, Bool.cond, Bool.◌&&◌, Bool.◌||◌, List.List, List.[], List.◌∷◌}
use Rattle.std.specs.Prelude.{eqb, ltb}
use Rattle.fields.specs.Bytes.{Text}
use Rattle.model.specs.declared.rule.Sign.{Sign}
use Rattle.model.specs.declared.rule.Sign.TheVariants.{None, Sequence, Choice, Interleaving}
use Rattle.model.specs.Tree.{Node, leaf, group, marked, Members, none, ◌▹◌}
use Rattle.model.specs.Syntax.{Spelling, Syntax, written_names}

-- byte order, in which a name comes before those that it begins
abbrev pub not_after : Text → Text → Bool
not_after [] y = true
not_after (c ∷ x) [] = false
not_after (c ∷ x) (d ∷ y) = ltb c d || (eqb c d && not_after x y)

abbrev pub smaller : Text → Text → Text
smaller x y = cond (not_after x y) x y

-- of no name, the empty text
abbrev pub smallest : List Text → Text
smallest [] = []
smallest (x ∷ []) = x
smallest (x ∷ y ∷ l) = smaller x (smallest (y ∷ l))

abbrev pub smallest_name : Syntax → Text
smallest_name t = smallest (written_names t)

-- before the first member that has no smaller name
abbrev pub insert : Syntax → Members Spelling → Members Spelling
insert t none = t ▹ none
insert t (u ▹ us) = cond (not_after (smallest_name t) (smallest_name u)) (t ▹ u ▹ us) (u ▹ insert t us)

abbrev pub sort : Members Spelling → Members Spelling
sort none = none
sort (t ▹ ts) = insert t (sort ts)

abbrev pub arrange : Sign → Members Spelling → Members Spelling
arrange None ts = ts
arrange Sequence ts = ts
arrange Choice ts = sort ts
arrange Interleaving ts = sort ts

abbrev mutual
  pub order_node : Node Spelling → Node Spelling
  order_node (leaf a) = leaf a
  order_node (group s ts) = group s (arrange s (order_all ts))

  pub order : Syntax → Syntax
  order (marked m n) = marked m (order_node n)

  pub order_all : Members Spelling → Members Spelling
  order_all none = none
  order_all (t ▹ ts) = order t ▹ order_all ts
