-- What the recursion over a model text keeps: the tree that stands at a place is tidied, and its members stand on the stack.
pub mod Place
pub mod Steps
pub mod Stepped
pub mod Group
pub mod Turns
pub mod Ended
use mathlib.Core.{Path.◌≡◌, Logic.◌⊎◌, List.List, List.◌∷◌, List.◌++◌, List.map}
use Prim.Native.{Nat.ℕ, Nat.suc, Nat.◌+◌, Nat.◌≤◌, Nat.◌<◌, Char.code}
use Rattle.std.specs.Prelude.{length, drop}
use Rattle.fields.specs.{Bytes.Text, Limits.max_text, Limits.max_nodes}
use Rattle.model.specs.{declared.rule.Sign.Sign, declared.rule.Sign.TheVariants.None, declared.rule.Mark.Mark}
use Rattle.model.specs.Tree.{group, marked, Members, none, size, nodes, members_weight, MembersFormed}
use Rattle.model.specs.Flatten.{◌⧺◌, members_of, gathered}
use Rattle.model.specs.Syntax.{Spelling, Syntax, text, members_text, mark_text, SpellingFormed}
use Rattle.canonical.specs.declared.head.Head.{Head}
use Rattle.canonical.specs.{declared.tidy.Tidied.Tidied, declared.tidy.Gathered.Gathered, Tidy.stripped, Tidy.any_nullable, Tidy.tidy, Tidy.tidy_all}
use Rattle.canonical.specs.Writer.{Place.TreeAt, Stack.stacked, Stack.trees_on, Stack.HeadsFit, Keeps.sign_byte, Keeps.KeepsTree, Keeps.KeepsMembers}

pub record TidyReady (x : Text) (stack : List Head) (p top : ℕ) : Type 0 where
  pub tree : Syntax
  pub stands : TreeAt x p tree
  pub short : length x ≤ max_text
  pub entries : length stack ≡ max_nodes
  pub room : nodes tree ≤ top
  pub inside : top ≤ max_nodes
  pub heads : HeadsFit x (drop top stack)

-- the members of u stand on the stack, from top down to end
pub record OnStack (x : Text) (u : Syntax) (old new : List Head) (top end : ℕ) : Type 0 where
  pub entries : length new ≡ length old
  pub top_is : end + nodes u ≡ top + 1
  pub trees_are : trees_on x (drop end new) ≡ stacked (members_of u) (trees_on x (drop top old))
  pub heads : HeadsFit x (drop end new)

pub record TidiedAt (x : Text) (old new : List Head) (p top : ℕ) (r : Tidied) (t : Syntax) : Type 0 where
  pub keeps : KeepsTree x (tidy t) r
  pub next_is : r.next ≡ p + length (text t)
  pub few : nodes (tidy t) ≤ nodes t
  pub on_stack : OnStack x (tidy t) old new top r.top

abbrev pub Tidies : Text → List Head → List Head → ℕ → ℕ → Tidied → Type 0
Tidies x old new p top r = (t : Syntax) → TreeAt x p t → TidiedAt x old new p top r t

-- the members that a group of the sign gathers of these
abbrev pub gathered_of : Sign → Members Spelling → Members Spelling
gathered_of s ts = gathered s (map (stripped s) (tidy_all ts))

-- The walk over the members of a group: some are done, and stand on the stack from g.top on; the text goes on at p with those that are left.
pub record Walking (x : Text) (old new : List Head) (s : Sign) (ts : Members Spelling) (behind : Text) (top p : ℕ) (sign : Sign) (g : Gathered) : Type 0 where
  pub done : Members Spelling
  pub left : Members Spelling
  pub parts : ts ≡ done ⧺ left
  pub formed : MembersFormed SpellingFormed left
  pub ahead : drop p x ≡ members_text left s ++ (code ")" ∷ behind)
  pub sign_is : ((done ≡ none) × (sign ≡ None)) ⊎ (sign ≡ s)
  pub keeps : KeepsMembers x s (gathered_of s done) (any_nullable (tidy_all done)) g
  pub few : members_weight 1 1 (gathered_of s done) ≤ members_weight 1 1 done
  pub several : 2 ≤ size (gathered_of s done) → 0 < sign_byte s
  pub entries : length new ≡ length old
  pub top_is : g.top + members_weight 1 1 (gathered_of s done) ≡ top
  pub trees_are : trees_on x (drop g.top new) ≡ stacked (gathered_of s done) (trees_on x (drop top old))
  pub heads : HeadsFit x (drop g.top new)

-- at the head of the loop over the members of the group at p
pub record Looping (x : Text) (old new : List Head) (p top place : ℕ) (sign : Sign) (g : Gathered) : Type 0 where
  pub mark : Mark
  pub sign_of_group : Sign
  pub members : Members Spelling
  pub stands : TreeAt x p (marked mark (group sign_of_group members))
  pub short : length x ≤ max_text
  pub stack_length : length old ≡ max_nodes
  pub room : suc (members_weight 1 1 members) ≤ top
  pub inside : top ≤ max_nodes
  pub from : p < place
  pub walking : Walking x old new sign_of_group members (mark_text mark ++ stands.rest) top place sign g
