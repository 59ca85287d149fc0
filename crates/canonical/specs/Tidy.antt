-- Counts and marks in one form, and flattening with them: document 02, W4 and W7, but for the order of members. Built from the pieces of `Flatten`.
-- Below it:
--   Nullable, Rows          `tree_nullable` tells of the empty row; the rows are the same
--   Form                    what is left is neat, and a neat tree stays as it is
--   Flat, Flattened         flattening leaves it as it is; to flatten first changes nothing
--   Append, Leaves, Formed  members behind members; the atoms; what an accepted text needs
pub mod Append
pub mod Nullable
pub mod Rows
pub mod Flattened
pub mod Form
pub mod Flat
pub mod Leaves
pub mod Formed
use mathlib.Core.{Bool.Bool, Bool.true, Bool.false, Bool.cond, Bool.◌&&◌, Bool.◌||◌, List.List, List.[], List.◌∷◌, List.map}
use Rattle.std.specs.Prelude.{eqb, leb}
use Rattle.fields.specs.Bytes.{Text, bytes, value}
use Rattle.model.specs.{declared.rule.Sign.Sign, declared.rule.Mark.Mark}
use Rattle.model.specs.declared.rule.Mark.TheVariants.{Plain, Optional, Nonempty}
use Rattle.model.specs.Tree.{Node, leaf, group, marked, Members, none, ◌▹◌, node_under, is_plain}
use Rattle.model.specs.Syntax.{Count, unwritten, between, onward, Spelling, Syntax}
use Rattle.model.specs.Flatten.{is_choice, is_nil, gathered, grouped, dropped_mark}

-- the lower count is 0
abbrev pub from_zero : Count → Bool
from_zero unwritten = false
from_zero (between m n) = eqb (value m) 0
from_zero (onward m) = eqb (value m) 0

abbrev pub raised : Text → Text
raised m = cond (eqb (value m) 0) (bytes "1") m

-- `[0..n]` as `[1..n]`, and `[1..1]` left out
abbrev pub tidy_count : Count → Count
tidy_count unwritten = unwritten
tidy_count (between m n) = cond (leb (value m) 1 && eqb (value n) 1) unwritten (between (raised m) n)
tidy_count (onward m) = onward (raised m)

abbrev pub tidy_atom : Spelling → Spelling
tidy_atom a = record { name = a.name; count = tidy_count a.count }

-- whether the empty row is held under a mark, by whether it is held without one
abbrev pub nullable_under : Mark → Bool → Bool
nullable_under Plain nullable = nullable
nullable_under Optional nullable = true
nullable_under Nonempty nullable = false

-- the empty row is held
abbrev mutual
  pub node_nullable : Node Spelling → Bool
  node_nullable (leaf a) = from_zero a.count
  node_nullable (group s ts) = group_nullable ts s

  pub group_nullable : Members Spelling → Sign → Bool
  group_nullable none s = true
  group_nullable (t ▹ ts) s = cond (is_choice s) (tree_nullable t || some_nullable ts) (tree_nullable t && all_nullable ts)

  pub tree_nullable : Syntax → Bool
  tree_nullable (marked m n) = nullable_under m (node_nullable n)

  pub all_nullable : Members Spelling → Bool
  all_nullable none = true
  all_nullable (t ▹ ts) = tree_nullable t && all_nullable ts

  pub some_nullable : Members Spelling → Bool
  some_nullable none = false
  some_nullable (t ▹ ts) = tree_nullable t || some_nullable ts

-- a mark, or none where it changes nothing
abbrev pub fitting : Mark → Bool → Mark
fitting Plain nullable = Plain
fitting Optional nullable = cond nullable Plain Optional
fitting Nonempty nullable = cond nullable Nonempty Plain

-- a mark takes the place of the mark that is there, and is dropped where it changes nothing
abbrev pub marking : Mark → Syntax → Syntax
marking m t = cond (is_plain m || is_nil t) t (marked (fitting m (node_nullable (node_under t))) (node_under t))

-- a member of a choice is written without the empty row, which the choice then gets by a `?`
abbrev pub stripped : Sign → Syntax → Syntax
stripped s t = cond (is_choice s) (marking Nonempty t) t

-- a tree of the list holds the empty row
abbrev pub any_nullable : List Syntax → Bool
any_nullable [] = false
any_nullable (t ∷ l) = tree_nullable t || any_nullable l

-- a group of tidied members
abbrev pub settled_group : Sign → List Syntax → Syntax
settled_group s l = marking (dropped_mark s (any_nullable l)) (grouped s (gathered s (map (stripped s) l)))

abbrev mutual
  pub tidy_node : Node Spelling → Syntax
  tidy_node (leaf a) = marked (cond (from_zero a.count) Optional Plain) (leaf (tidy_atom a))
  tidy_node (group s ts) = settled_group s (tidy_all ts)

  pub tidy : Syntax → Syntax
  tidy (marked m n) = marking m (tidy_node n)

  pub tidy_all : Members Spelling → List Syntax
  tidy_all none = []
  tidy_all (t ▹ ts) = tidy t ∷ tidy_all ts
