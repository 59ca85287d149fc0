-- The trees on the writer's stack, the top first: a group takes its members from those behind it, the last of them first.
pub mod Laws
pub mod Skip
pub mod Push
use mathlib.Core.{Path.◌≡◌, Bool.true, Bool.false, Bool.cond, List.List, List.[], List.◌∷◌}
use Prim.Native.{Nat.ℕ, Nat.◌≤◌}
use lib.{Dec.eqb, ListN.length, ListN.take, ListN.drop}
use Rattle.fields.specs.Bytes.{Text}
use Rattle.model.specs.{Fault.name_from, Tree.leaf, Tree.group, Tree.marked, Tree.Members, Tree.none, Tree.◌▹◌, Tree.nodes}
use Rattle.model.specs.Syntax.{Spelling, Syntax, node_text, sign_text}
use Rattle.canonical.specs.Writer.{Head.is_atom, Head.sign_of, Keeps.sign_byte}
use Rattle.canonical.specs.{declared.head.Head.Head, Tidy.tidy_atom, Order.smallest_name, Writer.Place.atom_at, Writer.Place.piece_at}

-- members before others, from a list that has the last first
abbrev pub turned : List Syntax → Members Spelling → Members Spelling
turned [] ts = ts
turned (t ∷ l) ts = turned l (t ▹ ts)

-- members on top of a list, the last first
abbrev pub stacked : Members Spelling → List Syntax → List Syntax
stacked none l = l
stacked (t ▹ ts) l = stacked ts (t ∷ l)

abbrev pub tree_with : Text → Head → List Syntax → Syntax
tree_with x h l =
    marked h.mark
    (cond (is_atom h.shape) (leaf (tidy_atom (atom_at x h.least))) (group (sign_of h.shape) (turned (take h.members l) none)))

unfoldable pub trees_on : Text → List Head → List Syntax
trees_on x [] = []
trees_on x (h ∷ l) = tree_with x h (trees_on x l) ∷ drop h.members (trees_on x l)

-- what is known of a head above trees: an atom has no members and stands in the text, a group has some and a sign
pub record HeadFits (x : Text) (h : Head) (l : List Syntax) : Type 0 where
  pub enough : h.members ≤ length l
  pub size_is : h.size ≡ nodes (tree_with x h l)
  pub least_is : name_from x h.least ≡ smallest_name (tree_with x h l)
  pub least_inside : h.least ≤ length x
  pub atom_is : is_atom h.shape ≡ true → (h.members ≡ 0) × (piece_at x h.least ≡ node_text (leaf (tidy_atom (atom_at x h.least))))
  pub group_is : is_atom h.shape ≡ false → (2 ≤ h.members) × (sign_text (sign_of h.shape) ≡ sign_byte (sign_of h.shape) ∷ [])

abbrev pub HeadsFit : Text → List Head → Type 0
HeadsFit x [] = Unit {0}
HeadsFit x (h ∷ l) = HeadFits x h (trees_on x l) × HeadsFit x l
