-- What the code keeps of a tidied tree, and of the members of a group so far.
pub mod Laws
pub mod Member
use mathlib.Core.{Path.◌≡◌, Logic.◌⊎◌, Bool.Bool, List.List, List.[], List.◌∷◌, List.map}
use Prim.Native.{Nat.ℕ, Nat.◌≤◌, Nat.◌<◌, Char.code}
use Rattle.std.specs.Prelude.{length}
use Rattle.fields.specs.Bytes.{Text}
use Rattle.model.specs.{declared.rule.Sign.Sign, declared.rule.Mark.Mark, Fault.name_from}
use Rattle.model.specs.declared.rule.Sign.TheVariants.{None, Sequence, Choice, Interleaving}
use Rattle.model.specs.Tree.{Node, leaf, group, marked, Members, none, ◌▹◌, size, nodes, members_weight, members_leaves, node_under}
use Rattle.model.specs.Flatten.{nil, members_of}
use Rattle.model.specs.Syntax.{Spelling, Syntax, node_text, written_names}
use Rattle.canonical.specs.declared.head.Shape.{Shape, TheVariants.Atom, TheVariants.Group}
use Rattle.canonical.specs.{declared.tidy.Tidied.Tidied, declared.tidy.Gathered.Gathered, Order.smallest}
use Rattle.canonical.specs.Tidy.{tidy_atom, node_nullable, group_nullable}
use Rattle.canonical.specs.Writer.Place.{atom_at, piece_at}

-- the byte of a sign, 0 for none
abbrev pub sign_byte : Sign → ℕ
sign_byte None = 0
sign_byte Sequence = code ","
sign_byte Choice = code "|"
sign_byte Interleaving = code "&"

abbrev pub shape_of : Node Spelling → Shape
shape_of (leaf a) = Atom
shape_of (group s ts) = Group s

abbrev pub mark_in : Syntax → Mark
mark_in (marked m n) = m

-- an atom as the text has it at p, or a group of two members or more
abbrev pub Proper : Text → Node Spelling → ℕ → Type 0
Proper x (leaf a) p = (a ≡ tidy_atom (atom_at x p)) × (piece_at x p ≡ node_text (leaf a))
Proper x (group s ts) p = (2 ≤ size ts) × (0 < sign_byte s)

-- at p stands the smallest of some names
abbrev pub LeastAt : Text → ℕ → List Text → Type 0
LeastAt x p [] = ⊥
LeastAt x p (n ∷ l) = name_from x p ≡ smallest (n ∷ l)

-- u has an atom or more: at p stands the one, or the smallest name
pub record NamedAt (x : Text) (u : Syntax) (p : ℕ) : Type 0 where
  pub proper : Proper x (node_under u) p
  pub least : LeastAt x p (written_names u)

-- r is what is kept of the tree u
pub record KeepsTree (x : Text) (u : Syntax) (r : Tidied) : Type 0 where
  pub shape_is : r.head.shape ≡ shape_of (node_under u)
  pub mark_is : r.head.mark ≡ mark_in u
  pub nullable_is : r.head.nullable ≡ node_nullable (node_under u)
  pub members_is : r.head.members ≡ size (members_of u)
  pub size_is : r.head.size ≡ nodes u
  pub least_inside : r.head.least ≤ length x
  pub kind_is : (u ≡ nil) ⊎ NamedAt x u r.head.least

-- g is what is kept of the members us of a group with the sign s, of which some held the empty row if v says so
pub record KeepsMembers (x : Text) (s : Sign) (us : Members Spelling) (v : Bool) (g : Gathered) : Type 0 where
  pub given_is : g.given ≡ v
  pub members_are : g.members ≡ size us
  pub nodes_are : g.size ≡ members_weight 1 1 us
  pub within : g.least ≤ length x
  pub members_nullable : 0 < size us → g.nullable ≡ group_nullable us s
  pub all_least : 0 < size us → LeastAt x g.least (map (λ a. a.name) (members_leaves us))
  pub last_is : (u : Syntax) → us ≡ u ▹ none → KeepsTree x u g.last
