-- How many groups are around the atoms of a tree. Flattening takes groups away, those of one member among them: a tree is no deeper than it is high,
-- and no higher than its brackets are nested.
use mathlib.Core.{Path.◌≡◌, Path.refl, Path.ap, Path.sym, Path.◌∙◌, Bool.true, Bool.◌||◌}
use Rattle.std.specs.Prelude.{List, [], ◌∷◌, ◌++◌, map, ℕ, suc, ◌≤◌, ◌<◌, max, length}
use Rattle.std.proofs.lemmas.List.{map-append}
use Rattle.std.proofs.Common.{append_assoc, arith, length-append}
use Rattle.fields.specs.Tests.{by-test}
use Rattle.model.specs.{declared.rule.Sign.Sign, declared.rule.Mark.Mark}
use Rattle.model.specs.declared.rule.Mark.TheVariants.{Plain}
use Rattle.model.specs.Tree.{Node, leaf, group, Tree, marked, Members, none, ◌▹◌, size, is_plain, highest, node_nesting, nesting, members_nesting}
use Rattle.model.specs.Tree.{height_over, node_height, height, members_height, nodes, node_weight, members_weight}
use Rattle.model.specs.Flatten.{◌⧺◌, is_nil, some_nil, merges, members_of, gathered, grouped, over, dropped_mark, flatten_node, flatten, flatten_all}
use Rattle.model.specs.Flatten.{node_around, groups_around, members_around, depth, Append.append-none}
use Rattle.model.proofs.FlattenSolid.{Solid, SolidAll}

-- the greatest of two lists, and of numbers that are one more
pub highest-append : (l m : List ℕ) → highest (l ++ m) ≡ max (highest l) (highest m)
highest-append [] m = omega arith
highest-append (d ∷ l) m = omega (arith, highest-append l m)

highest-more : (l : List ℕ) → (highest l ≤ highest (map suc l)) × (highest (map suc l) ≤ suc (highest l))
highest-more [] = (omega arith, omega arith)
highest-more (d ∷ l) = let h = highest-more l in (omega (arith, h.0), omega (arith, h.1))

highest-one-more : (l : List ℕ) → 0 < length l → highest (map suc l) ≡ suc (highest l)
highest-one-more [] h = absurd (omega arith)
highest-one-more (d ∷ []) h = omega arith
highest-one-more (d ∷ e ∷ l) h = omega (arith, highest-one-more (e ∷ l) (omega arith))

module _ {A : Type 0} where
  -- of a tree as it is
  abbrev pub deepest : Tree A → ℕ
  deepest t = highest (groups_around t 0)

  abbrev pub deepest_of : Members A → ℕ
  deepest_of ts = highest (members_around ts 0)

  around-append : (ts us : Members A) (d : ℕ) → members_around (ts ⧺ us) d ≡ members_around ts d ++ members_around us d
  around-append none us d = refl
  around-append (t ▹ ts) us d =
      ap (λ (l : List ℕ). groups_around t d ++ l) (around-append ts us d) ∙ sym (append_assoc (groups_around t d) (members_around ts d) (members_around us d))

  pub deepest-append : (ts us : Members A) → deepest_of (ts ⧺ us) ≡ max (deepest_of ts) (deepest_of us)
  deepest-append ts us = ap highest (around-append ts us 0) ∙ highest-append (members_around ts 0) (members_around us 0)

  pub deepest-first : (t : Tree A) (ts : Members A) → deepest_of (t ▹ ts) ≡ max (deepest t) (deepest_of ts)
  deepest-first t ts = highest-append (groups_around t 0) (members_around ts 0)

  mutual
    node-deeper : (n : Node A) (d : ℕ) → node_around n (suc d) ≡ map suc (node_around n d)
    node-deeper (leaf a) d = refl
    node-deeper (group s ts) d = members-deeper ts (suc d)

    tree-deeper : (t : Tree A) (d : ℕ) → groups_around t (suc d) ≡ map suc (groups_around t d)
    tree-deeper (marked m n) d = node-deeper n d

    members-deeper : (ts : Members A) (d : ℕ) → members_around ts (suc d) ≡ map suc (members_around ts d)
    members-deeper none d = refl
    members-deeper (t ▹ ts) d = rw (tree-deeper t d, members-deeper ts d, map-append)

  -- a tree that flattening leaves has an atom, so its group is around one
  mutual
    node-atom : (n : Node A) (d : ℕ) → Solid (marked Plain n) → 0 < length (node_around n d)
    node-atom (leaf a) d h = omega arith
    node-atom (group s ts) d h = members-atom ts s (suc d) h.1 (omega (arith, h.0))

    tree-atom : (t : Tree A) (d : ℕ) → Solid t → 0 < length (groups_around t d)
    tree-atom (marked m n) d h = node-atom n d h

    members-atom : (ts : Members A) (s : Sign) (d : ℕ) → SolidAll ts s → 0 < size ts → 0 < length (members_around ts d)
    members-atom none s d h k = absurd (omega arith)
    members-atom (t ▹ ts) s d h k = omega (arith, length-append (groups_around t d) (members_around ts d), tree-atom t d h.0)

  pub group-deepest : (m : Mark) (s : Sign) (ts : Members A) → Solid (marked m (group s ts)) → deepest (marked m (group s ts)) ≡ suc (deepest_of ts)
  group-deepest m s ts h =
      ap highest (members-deeper ts 0) ∙ highest-one-more (members_around ts 0) (members-atom ts s 0 h.1 (omega (arith, h.0)))

  -- no deeper
  abbrev pub deepest_in : List (Tree A) → ℕ
  deepest_in [] = 0
  deepest_in (t ∷ l) = max (deepest t) (deepest_in l)

  members-inside : (t : Tree A) → deepest_of (members_of t) ≤ deepest t
  members-inside (marked m (leaf a)) = omega arith
  members-inside (marked m (group s ts)) = rw (members-deeper ts 0) (highest-more (members_around ts 0)).0

  pub gathered-inside : (s : Sign) (l : List (Tree A)) → deepest_of (gathered s l) ≤ deepest_in l
  gathered-inside s [] = omega arith
  gathered-inside s (t ∷ l) =
      let h = gathered-inside s l in
      by-test (is_nil t) (λ e. rw e (omega (arith, h))) (λ e. rw e (by-test (merges s t)
      (λ f. rw f (omega (arith, deepest-append (members_of t) (gathered s l), members-inside t, h)))
      (λ f. rw f (omega (arith, deepest-first t (gathered s l), h)))))

  pub grouped-inside : (s : Sign) (ts : Members A) → deepest (grouped s ts) ≤ suc (deepest_of ts)
  grouped-inside s none = omega arith
  grouped-inside s (t ▹ none) = omega (arith, deepest-first t none)
  grouped-inside s (t ▹ u ▹ ts) = rw (members-deeper (t ▹ u ▹ ts) 0) (highest-more (members_around (t ▹ u ▹ ts) 0)).1

  over-inside : (m : Mark) (t : Tree A) → deepest (over m t) ≡ deepest t
  over-inside m (marked k n) = by-test (is_plain m || is_nil (marked k n)) (λ e. rw e) (λ e. rw e)

  -- a group of one is no deeper than its member
  joined-inside : (s : Sign) (t : Tree A) → merges s t ≡ true → deepest (grouped s (members_of t)) ≤ deepest t
  joined-inside s (marked m (leaf a)) e = omega arith
  joined-inside s (marked m (group r none)) e = omega arith
  joined-inside s (marked m (group r (t ▹ none))) e = omega (arith, deepest-first t none, members-inside (marked m (group r (t ▹ none))))
  joined-inside s (marked m (group r (t ▹ u ▹ ts))) e = omega arith

  one_inside : (s : Sign) (t : Tree A) → deepest (grouped s (gathered s (t ∷ []))) ≤ deepest t
  one_inside s t =
      by-test (is_nil t) (λ e. rw e (omega arith)) (λ e. rw e (by-test (merges s t)
      (λ f. rw (f, append-none (members_of t)) (joined-inside s t f))
      (λ f. rw f (omega arith))))

  group-inside : (s : Sign) (ts : Members A) → deepest_in (flatten_all ts) ≤ members_height ts
      → deepest (grouped s (gathered s (flatten_all ts))) ≤ height_over (size ts) (members_height ts)
  group-inside s none h = omega arith
  group-inside s (t ▹ none) h = omega (arith, one_inside s (flatten t))
  group-inside s (t ▹ u ▹ ts) h =
      let l = flatten_all (t ▹ u ▹ ts) in
      omega (arith, grouped-inside s (gathered s l), gathered-inside s l)

  mutual
    node-inside : (n : Node A) → deepest (flatten_node n) ≤ node_height n
    node-inside (leaf a) = omega arith
    node-inside (group s ts) =
        let l = flatten_all ts in
        omega (arith, over-inside (dropped_mark s (some_nil l)) (grouped s (gathered s l)), group-inside s ts (all-inside ts))

    pub no-higher : (t : Tree A) → depth t ≤ height t
    no-higher (marked m n) = omega (arith, over-inside m (flatten_node n), node-inside n)

    all-inside : (ts : Members A) → deepest_in (flatten_all ts) ≤ members_height ts
    all-inside none = omega arith
    all-inside (t ▹ ts) = omega (arith, no-higher t, all-inside ts)

  -- nor is it higher than its brackets are nested, and each of these groups has a bracket and a node
  mutual
    node-groups : (n : Node A) → (node_height n ≤ node_nesting n) × (node_height n ≤ node_weight 1 1 n)
    node-groups (leaf a) = (omega arith, omega arith)
    node-groups (group s ts) = let h = members-groups ts in (omega (arith, h.0), omega (arith, h.1))

    tree-groups : (t : Tree A) → (height t ≤ nesting t) × (height t ≤ nodes t)
    tree-groups (marked m n) = node-groups n

    members-groups : (ts : Members A) → (members_height ts ≤ members_nesting ts) × (members_height ts ≤ members_weight 1 1 ts)
    members-groups none = (omega arith, omega arith)
    members-groups (t ▹ ts) =
        let h = tree-groups t in
        let k = members-groups ts in
        (omega (arith, h.0, k.0), omega (arith, h.1, k.1))

  pub no_deeper : (t : Tree A) → depth t ≤ nesting t
  no_deeper t = omega (arith, no-higher t, (tree-groups t).0)

  pub height-nodes : (t : Tree A) → height t ≤ nodes t
  height-nodes t = (tree-groups t).1
