-- Other atoms change nothing: a tree over other atoms, each made from an atom and its number, is flattened in the same way and is as deep.
use mathlib.Core.{Path.◌≡◌, Path.refl, Path.sym, Path.ap, Path.ap₂, Path.◌∙◌, Bool.true, Bool.◌||◌}
use Rattle.std.specs.Prelude.{List, [], ◌∷◌, ◌++◌, ℕ, suc, ◌+◌, length}
use Rattle.std.proofs.Common.{add-zero, add_assoc}
use Rattle.fields.specs.Tests.{by-test}
use Rattle.model.specs.{declared.rule.Sign.Sign, declared.rule.Mark.Mark}
use Rattle.model.specs.Tree.{Node, leaf, group, Tree, marked, Members, none, ◌▹◌, atoms, members_weight, map_node, map_tree, map_members, is_plain, highest}
use Rattle.model.specs.Tree.{number_node, number_tree, number_all}
use Rattle.model.specs.Flatten.{◌⧺◌, is_nil, some_nil, merges, members_of, gathered, grouped, over, dropped_mark, flatten_node, flatten, flatten_all}
use Rattle.model.specs.Flatten.{node_around, groups_around, members_around, depth}
use Rattle.model.specs.{Tree.Leaves.length-leaves, Tree.Leaves.members-leaves, Tree.Map.map-number}
use Rattle.model.specs.Flatten.Leaves.{nil-atoms, merged-leaves, flatten-atoms}

module _ {A : Type 0} where
  merged-atoms : (s : Sign) (t : Tree A) → merges s t ≡ true → atoms t ≡ members_weight 1 0 (members_of t)
  merged-atoms s t e = sym (length-leaves t) ∙ ap length (sym (merged-leaves s t e)) ∙ members-leaves (members_of t)

-- atoms are numbered from k in the order written
module _ {A B : Type 0} (f : ℕ → A → B) where
  abbrev number_list : List (Tree A) → ℕ → List (Tree B)
  number_list [] k = []
  number_list (t ∷ l) k = number_tree f t k ∷ number_list l (k + atoms t)

  append-number : (ts us : Members A) (k : ℕ) → number_all f ts k ⧺ number_all f us (k + members_weight 1 0 ts) ≡ number_all f (ts ⧺ us) k
  append-number none us k = rw add-zero
  append-number (t ▹ ts) us k = rw (← add_assoc k (atoms t) (members_weight 1 0 ts), append-number ts us (k + atoms t))

  nil-number : (t : Tree A) (k : ℕ) → is_nil (number_tree f t k) ≡ is_nil t
  nil-number (marked m (leaf a)) k = refl
  nil-number (marked m (group s none)) k = refl
  nil-number (marked m (group s (t ▹ ts))) k = refl

  some-nil-number : (l : List (Tree A)) (k : ℕ) → some_nil (number_list l k) ≡ some_nil l
  some-nil-number [] k = refl
  some-nil-number (t ∷ l) k = ap₂ ◌||◌ (nil-number t k) (some-nil-number l (k + atoms t))

  merges-number : (s : Sign) (t : Tree A) (k : ℕ) → merges s (number_tree f t k) ≡ merges s t
  merges-number s (marked m (leaf a)) k = refl
  merges-number s (marked m (group r ts)) k = refl

  members-number : (t : Tree A) (k : ℕ) → members_of (number_tree f t k) ≡ number_all f (members_of t) k
  members-number (marked m (leaf a)) k = refl
  members-number (marked m (group s ts)) k = refl

  gathered-number : (s : Sign) (l : List (Tree A)) (k : ℕ) → gathered s (number_list l k) ≡ number_all f (gathered s l) k
  gathered-number s [] k = refl
  gathered-number s (t ∷ l) k =
      rw (nil-number t k, merges-number s t k, members-number t k, gathered-number s l (k + atoms t))
      (by-test (is_nil t)
      (λ e. rw (e, nil-atoms t e, add-zero))
      (λ e. by-test (merges s t)
      (λ j. rw (e, j, merged-atoms s t j) (append-number (members_of t) (gathered s l) k))
      (λ j. rw (e, j))))

  grouped-number : (s : Sign) (ts : Members A) (k : ℕ) → grouped s (number_all f ts k) ≡ number_tree f (grouped s ts) k
  grouped-number s none k = refl
  grouped-number s (t ▹ none) k = refl
  grouped-number s (t ▹ u ▹ ts) k = refl

  over-number : (m : Mark) (t : Tree A) (k : ℕ) → over m (number_tree f t k) ≡ number_tree f (over m t) k
  over-number m (marked j n) k =
      rw (nil-number (marked j n) k) (by-test (is_plain m || is_nil (marked j n)) (λ e. rw e) (λ e. rw e))

  mutual
    flatten_node-number : (n : Node A) (k : ℕ) → flatten_node (number_node f n k) ≡ number_tree f (flatten_node n) k
    flatten_node-number (leaf a) k = refl
    flatten_node-number (group s ts) k =
        let l = flatten_all ts in
        rw (flatten_all-number ts k, some-nil-number l k, gathered-number s l k, grouped-number s (gathered s l) k)
        (over-number (dropped_mark s (some_nil l)) (grouped s (gathered s l)) k)

    pub flatten-number : (t : Tree A) (k : ℕ) → flatten (number_tree f t k) ≡ number_tree f (flatten t) k
    flatten-number (marked m n) k = rw (flatten_node-number n k) (over-number m (flatten_node n) k)

    flatten_all-number : (ts : Members A) (k : ℕ) → flatten_all (number_all f ts k) ≡ number_list (flatten_all ts) k
    flatten_all-number none k = refl
    flatten_all-number (t ▹ ts) k = rw (flatten-number t k, flatten_all-number ts (k + atoms t), flatten-atoms t)

module _ {A B : Type 0} (f : A → B) where
  pub flatten-map : (t : Tree A) → flatten (map_tree f t) ≡ map_tree f (flatten t)
  flatten-map t = rw (← map-number f t 0, ← map-number f (flatten t) 0) (flatten-number (λ i a. f a) t 0)

  mutual
    node_around-map : (n : Node A) (d : ℕ) → node_around (map_node f n) d ≡ node_around n d
    node_around-map (leaf a) d = refl
    node_around-map (group s ts) d = members_around-map ts (suc d)

    groups_around-map : (t : Tree A) (d : ℕ) → groups_around (map_tree f t) d ≡ groups_around t d
    groups_around-map (marked m n) d = node_around-map n d

    members_around-map : (ts : Members A) (d : ℕ) → members_around (map_members f ts) d ≡ members_around ts d
    members_around-map none d = refl
    members_around-map (t ▹ ts) d = ap₂ {C = List ℕ} (λ k l. k ++ l) (groups_around-map t d) (members_around-map ts d)

  pub depth-map : (t : Tree A) → depth (map_tree f t) ≡ depth t
  depth-map t = ap highest (ap (λ (u : Tree B). groups_around u 0) (flatten-map t) ∙ groups_around-map (flatten t) 0)
