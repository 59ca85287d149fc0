-- Flattening keeps the atoms, in the order written.
use mathlib.Core.{Path.◌≡◌, Path.refl, Path.sym, Path.ap, Path.ap₂, Path.◌∙◌, Bool.true, Bool.◌||◌, Bool.false≢true}
use Rattle.std.specs.Prelude.{List, [], ◌∷◌, ◌++◌, length}
use Rattle.std.proofs.Common.{append-nil, append_assoc}
use Rattle.fields.specs.Tests.{by-test}
use Rattle.model.specs.{declared.rule.Sign.Sign, declared.rule.Mark.Mark}
use Rattle.model.specs.declared.rule.Mark.TheVariants.{Plain}
use Rattle.model.specs.Tree.{Node, leaf, group, Tree, marked, Members, none, ◌▹◌, node_leaves, leaves, members_leaves, node_weight, atoms, is_plain}
use Rattle.model.specs.Tree.Leaves.{length-leaves}
use Rattle.model.specs.Flatten.{◌⧺◌, is_nil, some_nil, merges, members_of, gathered, grouped, over, dropped_mark, flatten_node, flatten, flatten_all}

module _ {A : Type 0} where
  abbrev pub list_leaves : List (Tree A) → List A
  list_leaves [] = []
  list_leaves (t ∷ l) = leaves t ++ list_leaves l

  pub append-leaves : (ts us : Members A) → members_leaves (ts ⧺ us) ≡ members_leaves ts ++ members_leaves us
  append-leaves none us = refl
  append-leaves (t ▹ ts) us = rw (append-leaves ts us, append_assoc)

  pub nil-leaves : (t : Tree A) → is_nil t ≡ true → leaves t ≡ []
  nil-leaves (marked m (leaf a)) e = absurd (false≢true e)
  nil-leaves (marked m (group s none)) e = refl
  nil-leaves (marked m (group s (t ▹ ts))) e = absurd (false≢true e)

  pub nil-atoms : (t : Tree A) → is_nil t ≡ true → atoms t ≡ 0
  nil-atoms t e = sym (length-leaves t) ∙ ap length (nil-leaves t e)

  pub merged-leaves : (s : Sign) (t : Tree A) → merges s t ≡ true → members_leaves (members_of t) ≡ leaves t
  merged-leaves s (marked m (leaf a)) e = absurd (false≢true e)
  merged-leaves s (marked m (group r ts)) e = refl

  pub gathered-leaves : (s : Sign) (l : List (Tree A)) → members_leaves (gathered s l) ≡ list_leaves l
  gathered-leaves s [] = refl
  gathered-leaves s (t ∷ l) =
      by-test (is_nil t)
      (λ e. rw (e, nil-leaves t e) (gathered-leaves s l))
      (λ e. by-test (merges s t)
      (λ j. rw (e, j, append-leaves (members_of t) (gathered s l), merged-leaves s t j, gathered-leaves s l))
      (λ j. rw (e, j, gathered-leaves s l)))

  pub grouped-leaves : (s : Sign) (ts : Members A) → leaves (grouped s ts) ≡ members_leaves ts
  grouped-leaves s none = refl
  grouped-leaves s (t ▹ none) = sym (append-nil (leaves t))
  grouped-leaves s (t ▹ u ▹ ts) = refl

  over-leaves : (m : Mark) (t : Tree A) → leaves (over m t) ≡ leaves t
  over-leaves m (marked k n) = by-test (is_plain m || is_nil (marked k n)) (λ e. rw e) (λ e. rw e)

  mutual
    node_kept : (n : Node A) → leaves (flatten_node n) ≡ node_leaves n
    node_kept (leaf a) = refl
    node_kept (group s ts) =
        let l = flatten_all ts in
        over-leaves (dropped_mark s (some_nil l)) (grouped s (gathered s l)) ∙ grouped-leaves s (gathered s l) ∙ gathered-leaves s l ∙ members_kept ts

    pub flatten-leaves : (t : Tree A) → leaves (flatten t) ≡ leaves t
    flatten-leaves (marked m n) = over-leaves m (flatten_node n) ∙ node_kept n

    members_kept : (ts : Members A) → list_leaves (flatten_all ts) ≡ members_leaves ts
    members_kept none = refl
    members_kept (t ▹ ts) = ap₂ {C = List A} (λ k l. k ++ l) (flatten-leaves t) (members_kept ts)

  pub flatten-atoms : (t : Tree A) → atoms (flatten t) ≡ atoms t
  flatten-atoms t = sym (length-leaves (flatten t)) ∙ ap length (flatten-leaves t) ∙ length-leaves t

  pub flatten_node-atoms : (n : Node A) → atoms (flatten_node n) ≡ node_weight 1 0 n
  flatten_node-atoms n = flatten-atoms (marked Plain n)
