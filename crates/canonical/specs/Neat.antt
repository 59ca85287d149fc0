-- The form of a canonical tree.
use mathlib.Core.{Path.◌≡◌, Bool.Bool, Bool.true, Bool.false, Bool.◌&&◌}
use Rattle.std.specs.Prelude.{◌≤◌}
use Rattle.model.specs.declared.rule.Sign.{Sign}
use Rattle.model.specs.declared.rule.Sign.TheVariants.{None, Sequence, Choice, Interleaving}
use Rattle.model.specs.Tree.{Node, leaf, group, marked, Members, none, ◌▹◌, size}
use Rattle.model.specs.{Syntax.Spelling, Syntax.Syntax, Flatten.is_choice, Flatten.merges}
use Rattle.canonical.specs.{Tidy.from_zero, Tidy.tidy_count, Tidy.node_nullable, Tidy.tree_nullable, Tidy.fitting, Order.not_after, Order.smallest_name}

-- a member of a choice that holds the empty row
abbrev pub strips : Sign → Syntax → Bool
strips s t = is_choice s && tree_nullable t

-- a member that stays as it is in a group of the sign
abbrev pub Stays : Sign → Syntax → Type 0
Stays s t = (merges s t ≡ false) × (strips s t ≡ false)

-- Nothing can be left out or joined: groups have two members or more, none of them is `()`, and each mark changes something.
abbrev mutual
  pub NeatNode : Node Spelling → Type 0
  NeatNode (leaf a) = (from_zero a.count ≡ false) × (tidy_count a.count ≡ a.count)
  NeatNode (group s ts) = (2 ≤ size ts) × NeatAll ts s

  pub Neat : Syntax → Type 0
  Neat (marked m n) = (fitting m (node_nullable n) ≡ m) × NeatNode n

  pub NeatAll : Members Spelling → Sign → Type 0
  NeatAll none s = Unit {0}
  NeatAll (t ▹ ts) s = Neat t × Stays s t × NeatAll ts s

-- no smallest name is after that of the next member
abbrev pub BeforeFirst : Syntax → Members Spelling → Type 0
BeforeFirst t none = Unit {0}
BeforeFirst t (u ▹ us) = not_after (smallest_name t) (smallest_name u) ≡ true

abbrev pub Rising : Members Spelling → Type 0
Rising none = Unit {0}
Rising (t ▹ ts) = BeforeFirst t ts × Rising ts

abbrev pub InTurn : Sign → Members Spelling → Type 0
InTurn None ts = Unit {0}
InTurn Sequence ts = Unit {0}
InTurn Choice ts = Rising ts
InTurn Interleaving ts = Rising ts

-- The members of every `|` and `&` rise by their smallest names.
abbrev mutual
  pub OrderedNode : Node Spelling → Type 0
  OrderedNode (leaf a) = Unit {0}
  OrderedNode (group s ts) = InTurn s ts × OrderedAll ts

  pub Ordered : Syntax → Type 0
  Ordered (marked m n) = OrderedNode n

  pub OrderedAll : Members Spelling → Type 0
  OrderedAll none = Unit {0}
  OrderedAll (t ▹ ts) = Ordered t × OrderedAll ts
