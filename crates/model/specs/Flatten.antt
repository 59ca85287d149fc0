-- Flattening a tree, from the inside out, and its depth: document 02, W3. Atoms may be of any kind.
pub mod Append
pub mod Merges
pub mod Map
pub mod Leaves
use Rattle.std.specs.Prelude.{Bool, false, cond, ◌&&◌, ◌||◌, List, [], ◌∷◌, ◌++◌, ℕ, suc, eqb}
use Rattle.model.specs.{declared.rule.Sign.Sign, declared.rule.Mark.Mark}
use Rattle.model.specs.declared.rule.Sign.TheVariants.{None, Sequence, Choice, Interleaving}
use Rattle.model.specs.declared.rule.Mark.TheVariants.{Plain, Optional}
use Rattle.model.specs.Tree.{Node, leaf, group, Tree, marked, Members, none, ◌▹◌, node_under, is_plain, highest}

abbrev pub sign_number : Sign → ℕ
sign_number None = 0
sign_number Sequence = 1
sign_number Choice = 2
sign_number Interleaving = 3

abbrev pub same_sign : Sign → Sign → Bool
same_sign s r = eqb (sign_number s) (sign_number r)

abbrev pub is_choice : Sign → Bool
is_choice s = same_sign s Choice

-- a `()` that is dropped from a choice marks it with `?`
abbrev pub dropped_mark : Sign → Bool → Mark
dropped_mark s dropped = cond (is_choice s && dropped) Optional Plain

module _ {A : Type 0} where
  infixr 60 ◌⧺◌
  -- members, and others behind them
  abbrev pub ◌⧺◌ : Members A → Members A → Members A
  none ⧺ us = us
  (t ▹ ts) ⧺ us = t ▹ (ts ⧺ us)

  -- `()`
  abbrev pub nil : Tree A
  nil = marked Plain (group None none)

  abbrev pub is_nil : Tree A → Bool
  is_nil (marked m (leaf a)) = false
  is_nil (marked m (group s none)) = is_plain m
  is_nil (marked m (group s (t ▹ ts))) = false

  abbrev pub some_nil : List (Tree A) → Bool
  some_nil [] = false
  some_nil (t ∷ l) = is_nil t || some_nil l

  -- an unmarked group of the sign
  abbrev pub merges : Sign → Tree A → Bool
  merges s (marked m (leaf a)) = false
  merges s (marked m (group r ts)) = same_sign s r && is_plain m

  abbrev pub members_of : Tree A → Members A
  members_of (marked m (leaf a)) = none
  members_of (marked m (group s ts)) = ts

  -- a member more in front: an unmarked group of the same sign joins the group, any other member stays
  abbrev pub with_member : Sign → Tree A → Members A → Members A
  with_member s t us = cond (merges s t) (members_of t ⧺ us) (t ▹ us)

  -- the members of a group of the sign; `()` is dropped
  abbrev pub gathered : Sign → List (Tree A) → Members A
  gathered s [] = none
  gathered s (t ∷ l) = cond (is_nil t) (gathered s l) (with_member s t (gathered s l))

  -- a group left without members is `()`, and a group of one dissolves
  abbrev pub grouped : Sign → Members A → Tree A
  grouped s none = nil
  grouped s (t ▹ none) = t
  grouped s (t ▹ u ▹ ts) = marked Plain (group s (t ▹ u ▹ ts))

  -- a mark passes to what its group has become, in the place of a mark that is there; none stays on `()`
  abbrev pub over : Mark → Tree A → Tree A
  over m t = cond (is_plain m || is_nil t) t (marked m (node_under t))

  abbrev mutual
    pub flatten_node : Node A → Tree A
    flatten_node (leaf a) = marked Plain (leaf a)
    flatten_node (group s ts) = over (dropped_mark s (some_nil (flatten_all ts))) (grouped s (gathered s (flatten_all ts)))

    pub flatten : Tree A → Tree A
    flatten (marked m n) = over m (flatten_node n)

    pub flatten_all : Members A → List (Tree A)
    flatten_all none = []
    flatten_all (t ▹ ts) = flatten t ∷ flatten_all ts

  -- for each atom in the order written, how many groups are around it, where d are around the tree
  abbrev mutual
    pub node_around : Node A → ℕ → List ℕ
    node_around (leaf a) d = d ∷ []
    node_around (group s ts) d = members_around ts (suc d)

    pub groups_around : Tree A → ℕ → List ℕ
    groups_around (marked m n) d = node_around n d

    pub members_around : Members A → ℕ → List ℕ
    members_around none d = []
    members_around (t ▹ ts) d = groups_around t d ++ members_around ts d

  -- the largest number of groups around an atom of the flattened tree
  abbrev pub depth : Tree A → ℕ
  depth t = highest (groups_around (flatten t) 0)
