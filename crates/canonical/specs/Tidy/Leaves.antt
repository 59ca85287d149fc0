-- Tidying keeps the atoms in the order written, each with its count in one way.
use mathlib.Core.{Path.◌≡◌, Path.refl, Path.sym, Path.ap, Path.ap₂, Path.◌∙◌, Bool.◌||◌}
use Rattle.std.specs.Prelude.{List, [], ◌∷◌, ◌++◌, map, length}
use Rattle.std.proofs.lemmas.List.{map-append, length-map}
use Rattle.fields.specs.{Bytes.Text, Tests.by-test}
use Rattle.model.specs.{declared.rule.Sign.Sign, declared.rule.Mark.Mark}
use Rattle.model.specs.declared.rule.Mark.TheVariants.{Plain, Nonempty}
use Rattle.model.specs.Tree.{Node, leaf, group, marked, Members, none, ◌▹◌, node_leaves, leaves, members_leaves, node_weight, atoms, is_plain}
use Rattle.model.specs.Syntax.{Spelling, Syntax, written_names}
use Rattle.model.specs.{Tree.Leaves.length-leaves, Flatten.Leaves.list_leaves, Flatten.Leaves.gathered-leaves, Flatten.Leaves.grouped-leaves}
use Rattle.model.specs.Flatten.{is_choice, is_nil, gathered, grouped, dropped_mark}
use Rattle.canonical.specs.Tidy.{tidy_atom, node_nullable, fitting, marking, stripped, any_nullable, settled_group, tidy_node, tidy, tidy_all}

-- what does not look at the mark
pub marking-kept : {B : Type 0} (f : Syntax → B) → ((j k : Mark) (n : Node Spelling) → f (marked j n) ≡ f (marked k n))
    → (m : Mark) (t : Syntax) → f (marking m t) ≡ f t
marking-kept f h m (marked k n) =
    by-test (is_plain m || is_nil (marked k n)) (λ e. rw e) (λ e. rw e (h (fitting m (node_nullable n)) k n))

marking-leaves : (m : Mark) (t : Syntax) → leaves (marking m t) ≡ leaves t
marking-leaves = marking-kept leaves (λ j k n. refl)

stripped-leaves : (s : Sign) (l : List Syntax) → list_leaves (map (stripped s) l) ≡ list_leaves l
stripped-leaves s [] = refl
stripped-leaves s (t ∷ l) =
    rw (stripped-leaves s l) (by-test (is_choice s) (λ c. rw (c, marking-leaves Nonempty t)) (λ c. rw c))

settled-leaves : (s : Sign) (l : List Syntax) → leaves (settled_group s l) ≡ list_leaves l
settled-leaves s l =
    let k = map (stripped s) l in
    marking-leaves (dropped_mark s (any_nullable l)) (grouped s (gathered s k)) ∙ grouped-leaves s (gathered s k) ∙ gathered-leaves s k ∙ stripped-leaves s l

mutual
  node-leaves : (n : Node Spelling) → leaves (tidy_node n) ≡ map tidy_atom (node_leaves n)
  node-leaves (leaf a) = refl
  node-leaves (group s ts) = settled-leaves s (tidy_all ts) ∙ all-leaves ts

  pub tidy-leaves : (t : Syntax) → leaves (tidy t) ≡ map tidy_atom (leaves t)
  tidy-leaves (marked m n) = marking-leaves m (tidy_node n) ∙ node-leaves n

  all-leaves : (ts : Members Spelling) → list_leaves (tidy_all ts) ≡ map tidy_atom (members_leaves ts)
  all-leaves none = refl
  all-leaves (t ▹ ts) = ap₂ {C = List Spelling} (λ k l. k ++ l) (tidy-leaves t) (all-leaves ts) ∙ sym (map-append tidy_atom (leaves t) (members_leaves ts))

same_names : (l : List Spelling) → map (λ a. a.name) (map tidy_atom l) ≡ map (λ a. a.name) l
same_names [] = refl
same_names (a ∷ l) = ap (λ (k : List Text). a.name ∷ k) (same_names l)

pub tidy-names : (t : Syntax) → written_names (tidy t) ≡ written_names t
tidy-names t = ap (map (λ a. a.name)) (tidy-leaves t) ∙ same_names (leaves t)

pub tidy-atoms : (t : Syntax) → atoms (tidy t) ≡ atoms t
tidy-atoms t = sym (length-leaves (tidy t)) ∙ ap length (tidy-leaves t) ∙ length-map (leaves t) tidy_atom ∙ length-leaves t

pub tidy_node-atoms : (n : Node Spelling) → atoms (tidy_node n) ≡ node_weight 1 0 n
tidy_node-atoms n = tidy-atoms (marked Plain n)
