-- What is the same in whichever order the members stand: nodes, brackets, the depth, the names, the length of the text, the empty row, and what holds of
-- each atom.
use mathlib.Core.{Path.◌≡◌, Path.refl, Path.sym, Path.ap, Path.ap₂, Path.◌∙◌}
use Rattle.std.specs.Prelude.{Bool, true, false, cond, ◌&&◌, ◌||◌, List, [], ◌∷◌, ◌++◌, map, ℕ, zero, suc, ◌+◌, max, length}
use Rattle.std.proofs.Common.{arith, length-append}
use Rattle.fields.specs.{Bytes.Text, Bytes.bytes, Bytes.same_text, Tests.by-test}
use Rattle.model.specs.{declared.rule.Sign.Sign, declared.rule.Mark.Mark}
use Rattle.model.specs.declared.rule.Sign.TheVariants.{None, Sequence, Choice, Interleaving}
use Rattle.model.specs.Tree.{Node, leaf, group, marked, Members, none, ◌▹◌, size, node_leaves, leaves, members_leaves, node_weight, weight, members_weight}
use Rattle.model.specs.Tree.{node_nesting, nesting, members_nesting, NodeFormed, Formed, MembersFormed}
use Rattle.model.specs.Syntax.{Spelling, Syntax, sign_text, mark_text, node_text, text, members_text, more_text, written_names}
use Rattle.model.specs.Flatten.{is_choice}
use Rattle.canonical.specs.Tidy.{nullable_under, node_nullable, group_nullable, tree_nullable, all_nullable, some_nullable}
use Rattle.canonical.specs.Order.{not_after, smallest_name, insert, sort, arrange, order_node, order, order_all, Smallest.occurs}
use Rattle.canonical.specs.Order.Smallest.{SameNames, smallest-same}

-- computed from the members in any order
module _ {B : Type 0} (of_all : Members Spelling → B) (beside : Syntax → B → B)
    (step : (t : Syntax) (ts : Members Spelling) → of_all (t ▹ ts) ≡ beside t (of_all ts))
    (swap : (t u : Syntax) (b : B) → beside t (beside u b) ≡ beside u (beside t b)) where
  insert-kept : (t : Syntax) (ts : Members Spelling) → of_all (insert t ts) ≡ of_all (t ▹ ts)
  insert-kept t none = refl
  insert-kept t (u ▹ us) =
      by-test (not_after (smallest_name t) (smallest_name u)) (λ e. rw e refl)
      (λ e. rw e
      (step u (insert t us) ∙ ap (beside u) (insert-kept t us ∙ step t us) ∙ swap u t (of_all us)
      ∙ ap (beside t) (sym (step u us)) ∙ sym (step t (u ▹ us))))

  sort-kept : (ts : Members Spelling) → of_all (sort ts) ≡ of_all ts
  sort-kept none = refl
  sort-kept (t ▹ ts) = insert-kept t (sort ts) ∙ step t (sort ts) ∙ ap (beside t) (sort-kept ts) ∙ sym (step t ts)

  pub arrange-kept : (s : Sign) (ts : Members Spelling) → of_all (arrange s ts) ≡ of_all ts
  arrange-kept None ts = refl
  arrange-kept Sequence ts = refl
  arrange-kept Choice ts = sort-kept ts
  arrange-kept Interleaving ts = sort-kept ts

-- computed from the atoms, marks and signs, and from the members in any order
module _ {A B : Type 0} (of_node : Node Spelling → A) (of_tree : Syntax → A) (of_all : Members Spelling → B)
    (at_group : Sign → B → A) (at_mark : Mark → A → A) (beside : A → B → B)
    (group-step : (s : Sign) (ts : Members Spelling) → of_node (group s ts) ≡ at_group s (of_all ts))
    (mark-step : (m : Mark) (n : Node Spelling) → of_tree (marked m n) ≡ at_mark m (of_node n))
    (all-step : (t : Syntax) (ts : Members Spelling) → of_all (t ▹ ts) ≡ beside (of_tree t) (of_all ts))
    (swap : (a b : A) (c : B) → beside a (beside b c) ≡ beside b (beside a c)) where
  mutual
    node_kept : (n : Node Spelling) → of_node (order_node n) ≡ of_node n
    node_kept (leaf a) = refl
    node_kept (group s ts) =
        group-step s (arrange s (order_all ts))
        ∙ ap (at_group s) (arrange-kept of_all (λ t b. beside (of_tree t) b) all-step (λ t u b. swap (of_tree t) (of_tree u) b) s (order_all ts) ∙ all-kept ts)
        ∙ sym (group-step s ts)

    tree-kept : (t : Syntax) → of_tree (order t) ≡ of_tree t
    tree-kept (marked m n) = mark-step m (order_node n) ∙ ap (at_mark m) (node_kept n) ∙ sym (mark-step m n)

    all-kept : (ts : Members Spelling) → of_all (order_all ts) ≡ of_all ts
    all-kept none = refl
    all-kept (t ▹ ts) = all-step (order t) (order_all ts) ∙ ap₂ beside (tree-kept t) (all-kept ts) ∙ sym (all-step t ts)

pub order-weight : (α γ : ℕ) (t : Syntax) → weight α γ (order t) ≡ weight α γ t
order-weight α γ =
    tree-kept (node_weight α γ) (weight α γ) (members_weight α γ) (λ s n. γ + n) (λ m n. n) ◌+◌
    (λ s ts. refl) (λ m n. refl) (λ t ts. refl) (λ a b c. omega arith)

pub order-nesting : (t : Syntax) → nesting (order t) ≡ nesting t
order-nesting =
    tree-kept node_nesting nesting members_nesting (λ s n. suc n) (λ m n. n) max
    (λ s ts. refl) (λ m n. refl) (λ t ts. refl) (λ a b c. omega arith)

-- the atoms, up to their order: a sum over them is the same, whatever each one counts
abbrev pub total : (Spelling → ℕ) → List Spelling → ℕ
total f [] = 0
total f (a ∷ l) = f a + total f l

total-append : (f : Spelling → ℕ) (k l : List Spelling) → total f (k ++ l) ≡ total f k + total f l
total-append f [] l = omega arith
total-append f (a ∷ k) l = omega (arith, total-append f k l)

pub order-total : (f : Spelling → ℕ) (t : Syntax) → total f (leaves (order t)) ≡ total f (leaves t)
order-total f =
    tree-kept (λ n. total f (node_leaves n)) (λ t. total f (leaves t)) (λ ts. total f (members_leaves ts)) (λ s n. n) (λ m n. n) ◌+◌
    (λ s ts. refl) (λ m n. refl) (λ t ts. total-append f (leaves t) (members_leaves ts)) (λ a b c. omega arith)

-- so each name stands as often
occurs-total : (x : Text) (l : List Spelling) → occurs x (map (λ a. a.name) l) ≡ total (λ a. cond (same_text a.name x) 1 0) l
occurs-total x [] = refl
occurs-total x (a ∷ l) = omega (arith, occurs-total x l)

pub order-names : (t : Syntax) → SameNames (written_names (order t)) (written_names t)
order-names t x = occurs-total x (leaves (order t)) ∙ order-total (λ a. cond (same_text a.name x) 1 0) t ∙ sym (occurs-total x (leaves t))

pub order-smallest : (t : Syntax) → smallest_name (order t) ≡ smallest_name t
order-smallest t = smallest-same (written_names (order t)) (written_names t) (order-names t)

-- The length of the text: all members, and a sign between each two.
abbrev lengths : Members Spelling → ℕ
lengths none = 0
lengths (t ▹ ts) = length (text t) + lengths ts

abbrev gaps : ℕ → ℕ → ℕ
gaps zero k = 0
gaps (suc zero) k = 0
gaps (suc (suc n)) k = k + gaps (suc n) k

members-length : (ts : Members Spelling) (s : Sign) → length (members_text ts s) ≡ lengths ts + gaps (size ts) (length (sign_text s))
members-length none s = refl
members-length (t ▹ none) s = rw length-append (omega arith)
members-length (t ▹ u ▹ ts) s =
    let h = members-length (u ▹ ts) s in
    omega (arith, h, length-append (text t) (more_text (u ▹ ts) s), length-append (sign_text s) (members_text (u ▹ ts) s))

pub order-length : (t : Syntax) → length (text (order t)) ≡ length (text t)
order-length =
    tree-kept {A = ℕ} {B = ℕ × ℕ}
    (λ n. length (node_text n)) (λ t. length (text t)) (λ ts. (lengths ts, size ts))
    (λ s b. b.0 + gaps b.1 (length (sign_text s)) + 2) (λ m n. n + length (mark_text m)) (λ n b. (n + b.0, suc b.1))
    (λ s ts. omega (arith, length-append (members_text ts s) (bytes ")"), members-length ts s)) (λ m n. length-append (node_text n) (mark_text m))
    (λ t ts. refl) (λ a b c. ap {B = ℕ × ℕ} (λ k. (k, suc (suc c.1))) (omega arith))

-- The empty row.
abbrev is_empty : Members Spelling → Bool
is_empty none = true
is_empty (t ▹ ts) = false

group-nullable : (s : Sign) (ts : Members Spelling) → group_nullable ts s ≡ is_empty ts || cond (is_choice s) (some_nullable ts) (all_nullable ts)
group-nullable s none = refl
group-nullable s (t ▹ ts) = refl

or_swap : (a b c : Bool) → a || (b || c) ≡ b || (a || c)
or_swap true true c = refl
or_swap true false c = refl
or_swap false b c = refl

and-swap : (a b c : Bool) → a && (b && c) ≡ b && (a && c)
and-swap true b c = refl
and-swap false true c = refl
and-swap false false c = refl

pub order-nullable : (n : Node Spelling) → node_nullable (order_node n) ≡ node_nullable n
order-nullable =
    node_kept {A = Bool} {B = Bool × Bool × Bool}
    node_nullable tree_nullable (λ ts. (is_empty ts, some_nullable ts, all_nullable ts))
    (λ s b. b.0 || cond (is_choice s) b.1 b.2) nullable_under (λ a b. (false, a || b.1, a && b.2))
    group-nullable (λ m n. refl) (λ t ts. refl)
    (λ a b c. ap₂ {C = Bool × Bool × Bool} (λ x y. (false, x, y)) (or_swap a b c.1) (and-swap a b c.2))

-- What holds of all members holds of them in any order.
module _ (All : Members Spelling → Type 0) (One : Syntax → Type 0) (parted : (t : Syntax) (ts : Members Spelling) → All (t ▹ ts) → One t × All ts)
    (joined : (t : Syntax) (ts : Members Spelling) → One t → All ts → All (t ▹ ts)) where
  insert_all : (t : Syntax) (ts : Members Spelling) → All (t ▹ ts) → All (insert t ts)
  insert_all t none h = h
  insert_all t (u ▹ us) h =
      let p = parted t (u ▹ us) h in
      let q = parted u us p.1 in
      by-test (not_after (smallest_name t) (smallest_name u))
      (λ e. rw e h) (λ e. rw e (joined u (insert t us) q.0 (insert_all t us (joined t us p.0 q.1))))

  sort-all : (ts : Members Spelling) → All ts → All (sort ts)
  sort-all none h = h
  sort-all (t ▹ ts) h = let p = parted t ts h in insert_all t (sort ts) (joined t (sort ts) p.0 (sort-all ts p.1))

  pub arrange-all : (s : Sign) (ts : Members Spelling) → All ts → All (arrange s ts)
  arrange-all None ts h = h
  arrange-all Sequence ts h = h
  arrange-all Choice ts h = sort-all ts h
  arrange-all Interleaving ts h = sort-all ts h

all-size : (ts : Members Spelling) → size (order_all ts) ≡ size ts
all-size none = refl
all-size (t ▹ ts) = ap suc (all-size ts)

pub order-size : (s : Sign) (ts : Members Spelling) → size (arrange s (order_all ts)) ≡ size ts
order-size s ts = arrange-kept size (λ t n. suc n) (λ t us. refl) (λ t u n. refl) s (order_all ts) ∙ all-size ts

module _ (P : Spelling → Type 0) where
  mutual
    node-formed : (n : Node Spelling) → NodeFormed P n → NodeFormed P (order_node n)
    node-formed (leaf a) h = h
    node-formed (group s ts) h = (
      rw (order-size s ts) h.0,
      arrange-all (MembersFormed P) (Formed P) (λ t us k. k) (λ t us k l. (k, l)) s (order_all ts) (all-formed ts h.1),
    )

    pub order-formed : (t : Syntax) → Formed P t → Formed P (order t)
    order-formed (marked m n) h = node-formed n h

    all-formed : (ts : Members Spelling) → MembersFormed P ts → MembersFormed P (order_all ts)
    all-formed none h = tt
    all-formed (t ▹ ts) h = (order-formed t h.0, all-formed ts h.1)
