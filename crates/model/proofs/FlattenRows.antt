-- Flattening keeps the rows, of every tree whose marks fit. What `()` leaves behind where it is dropped is the one thing that differs from sign to sign.
use mathlib.Core.{Path.◌≡◌, Path.refl, Path.ap, Path.ap₂, Logic.◌↔◌, Logic.inl, Logic.inr, Logic.⊎_elim}
use Rattle.std.specs.Prelude.{Bool, true, false, cond, ◌&&◌, List, [], ◌∷◌, ℕ, ◌+◌}
use Rattle.std.proofs.lemmas.Bool.{false≢true}
use Rattle.std.proofs.Common.{arith, ltb-true}
use Rattle.fields.specs.Tests.{by-test}
use Rattle.model.specs.{declared.rule.Sign.Sign, declared.rule.Mark.Mark, Word.Word}
use Rattle.model.specs.declared.rule.Sign.TheVariants.{None, Sequence, Choice, Interleaving}
use Rattle.model.specs.declared.rule.Mark.TheVariants.{Plain, Optional, Nonempty}
use Rattle.model.specs.Tree.{Node, leaf, group, Tree, marked, Members, none, ◌▹◌, size, node_weight, atoms, mark_fits}
use Rattle.model.specs.Tree.{NodeMarksFit, MarksFit, MembersMarksFit, number_node, number_tree, number_all, Map.marks-number}
use Rattle.model.specs.Types.{Ty, ε, join, nonempty, Operator, sequence, choice, interleaving, Language, Joined, Holds}
use Rattle.model.proofs.TypesLanguages.{Same, itself, thus, back, nil-or-not, Empty, Neutral, joined_same, neutral-left, neutral-right, joined-assoc}
use Rattle.model.specs.Model.{Counts, Model, operator, joined_from, joined_type, marked_type, counted_type, type_by, fold_node, fold, fold_all, type_of}
use Rattle.model.specs.Model.{node_type_with, type_with, types_with}
use Rattle.model.specs.Flatten.{is_choice, ◌⧺◌, is_nil, some_nil, merges, with_member, gathered, grouped, over, dropped_mark}
use Rattle.model.specs.Flatten.{flatten_node, flatten, flatten_all}
use Rattle.model.specs.Flatten.{Map.flatten-number, Merges.merged_some, Leaves.nil-atoms, Leaves.flatten_node-atoms}

-- the words of members, joined from the right
abbrev pub Together : Operator → List Ty → Language
Together o [] = Neutral o
Together o (A ∷ l) = Joined o (Holds A) (Together o l)

pub from-together : (o : Operator) (A : Ty) (l : List Ty) → Same (Holds (joined_from o A l)) (Together o (A ∷ l))
from-together o A [] = back (neutral-right o (Holds A))
from-together o A (B ∷ l) = thus (from-together o (join o A B) l) (joined-assoc o (Holds A) (Holds B) (Together o l))

-- what stays where `()` is dropped, or is not: the empty row of a choice
abbrev pub Dropped : Operator → Bool → Language → Language
Dropped sequence b P = P
Dropped choice b P = cond b (Joined choice Empty P) P
Dropped interleaving b P = P

pub dropped-same : (o : Operator) (b : Bool) {P Q : Language} → Same P Q → Same (Dropped o b P) (Dropped o b Q)
dropped-same sequence b f = f
dropped-same choice true f = joined_same choice (itself Empty) f
dropped-same choice false f = f
dropped-same interleaving b f = f

pub dropped-not : (o : Operator) (P : Language) → Same (Dropped o false P) P
dropped-not sequence P = itself P
dropped-not choice P = itself P
dropped-not interleaving P = itself P

pub one-empty : (P : Language) → Same (Joined choice Empty P) (Joined choice Empty (Joined choice Empty P))
one-empty P w = (inr, ⊎_elim inl (λ h. h))

-- a `()` in front is dropped
dropped-nil : (o : Operator) (b : Bool) (P : Language) → Same (Dropped o true P) (Joined o Empty (Dropped o b P))
dropped-nil sequence b P = back (neutral-left sequence P)
dropped-nil choice true P = one-empty P
dropped-nil choice false P = itself (Joined choice Empty P)
dropped-nil interleaving b P = back (neutral-left interleaving P)

-- any other member in front stays
pub dropped-behind : (o : Operator) (b : Bool) (P Q : Language) → Same (Dropped o b (Joined o P Q)) (Joined o P (Dropped o b Q))
dropped-behind sequence b P Q = itself (Joined sequence P Q)
dropped-behind choice true P Q =
    λ w. (⊎_elim (λ e. inr (inl e)) (⊎_elim inl (λ q. inr (inr q))), ⊎_elim (λ p. inr (inl p)) (⊎_elim inl (λ q. inr (inr q))))
dropped-behind choice false P Q = itself (Joined choice P Q)
dropped-behind interleaving b P Q = itself (Joined interleaving P Q)

dropped-marked : (s : Sign) (b : Bool) (T : Ty) → Same (Holds (marked_type (dropped_mark s b) T)) (Dropped (operator s) b (Holds T))
dropped-marked None b T = itself (Holds T)
dropped-marked Sequence b T = itself (Holds T)
dropped-marked Choice true T = itself (Joined choice Empty (Holds T))
dropped-marked Choice false T = itself (Holds T)
dropped-marked Interleaving b T = itself (Holds T)

-- every member is dropped
dropped-all : (s : Sign) → Same (Holds (marked_type (dropped_mark s true) ε)) (Dropped (operator s) true (Neutral (operator s)))
dropped-all None = itself Empty
dropped-all Sequence = itself Empty
dropped-all Choice = λ w. (⊎_elim inl inl, ⊎_elim inl (λ h. absurd h))
dropped-all Interleaving = itself Empty

-- marks
pub marked-same : (m : Mark) (T U : Ty) → Same (Holds T) (Holds U) → Same (Holds (marked_type m T)) (Holds (marked_type m U))
marked-same Plain T U f = f
marked-same Optional T U f = joined_same choice (itself Empty) f
marked-same Nonempty T U f = λ w. (λ h. ((f w).0 h.0, h.1), λ h. ((f w).1 h.0, h.1))

-- a mark in the place of another
pub optional-over : (m : Mark) (T : Ty) → Same (Holds (marked_type Optional T)) (Holds (marked_type Optional (marked_type m T)))
optional-over Plain T = itself (Joined choice Empty (Holds T))
optional-over Optional T = one-empty (Holds T)
optional-over Nonempty T = λ w. (
  ⊎_elim inl (λ h. ⊎_elim inl (λ n. inr (h, n)) (nil-or-not w)),
  ⊎_elim inl (λ h. inr h.0),
)

pub nonempty-over : (m : Mark) (T : Ty) → Same (Holds (nonempty T)) (Holds (nonempty (marked_type m T)))
nonempty-over Plain T = itself (Holds (nonempty T))
nonempty-over Optional T = λ w. (λ h. (inr h.0, h.1), λ h. (⊎_elim (λ e. absurd (h.1 e)) (λ i. i) h.0, h.1))
nonempty-over Nonempty T = λ w. (λ h. (h, h.1), λ h. h.0)

pub dropped-fits : (s : Sign) (b : Bool) (k : ℕ) → mark_fits (dropped_mark s b) k ≡ true
dropped-fits s b k = by-test (is_choice s && b) (λ e. rw e) (λ e. rw e)

module _ {A : Type 0} where
  with-some : (s : Sign) (t : Tree A) (us : Members A) → is_nil t ≡ false → size (with_member s t us) ≡ 0 → ⊥
  with-some s t us n h =
      by-test (merges s t)
      (λ j. omega (arith, rw (j, (merged_some s t n j).2) at h))
      (λ j. omega (arith, rw j at h))

  pub none_left : (s : Sign) (t : Tree A) (l : List (Tree A)) → size (gathered s (t ∷ l)) ≡ 0 → some_nil (t ∷ l) ≡ true
  none_left s t l h = by-test (is_nil t) (λ e. rw e) (λ e. absurd (with-some s t (gathered s l) e (rw e at h)))

module _ {A : Type 0} (f : A → Ty) where
  abbrev rows : Tree A → Language
  rows t = Holds (type_with f t)

  abbrev pub tree_types : List (Tree A) → List Ty
  tree_types [] = []
  tree_types (t ∷ l) = type_with f t ∷ tree_types l

  append-rows : (o : Operator) (ts us : Members A)
      → Same (Together o (types_with f (ts ⧺ us))) (Joined o (Together o (types_with f ts)) (Together o (types_with f us)))
  append-rows o none us = back (neutral-left o (Together o (types_with f us)))
  append-rows o (t ▹ ts) us =
      thus (joined_same o (itself (rows t)) (append-rows o ts us))
      (back (joined-assoc o (rows t) (Together o (types_with f ts)) (Together o (types_with f us))))

  -- `()` has the empty row alone
  pub nil-rows : (t : Tree A) → is_nil t ≡ true → Same Empty (Holds (type_with f t))
  nil-rows (marked m (leaf a)) e = absurd (false≢true e)
  nil-rows (marked Plain (group s none)) e = itself Empty
  nil-rows (marked Optional (group s none)) e = absurd (false≢true e)
  nil-rows (marked Nonempty (group s none)) e = absurd (false≢true e)
  nil-rows (marked m (group s (t ▹ ts))) e = absurd (false≢true e)

  pub over-rows : (m : Mark) (t : Tree A) → mark_fits m (atoms t) ≡ true → Same (rows (over m t)) (Holds (marked_type m (type_with f t)))
  over-rows Plain t h = itself (rows t)
  over-rows Optional (marked m n) h =
      by-test (is_nil (marked m n))
      (λ e. rw e λ w. (inr, ⊎_elim (nil-rows (marked m n) e w).0 (λ i. i)))
      (λ e. rw e (optional-over m (node_type_with f n)))
  over-rows Nonempty (marked m n) h =
      by-test (is_nil (marked m n))
      (λ e. absurd (omega (arith, ltb-true 0 (node_weight 1 0 n) h, nil-atoms (marked m n) e)))
      (λ e. rw e (nonempty-over m (node_type_with f n)))

  with_rows : (s : Sign) (t : Tree A) (us : Members A) → is_nil t ≡ false
      → Same (Together (operator s) (types_with f (with_member s t us))) (Joined (operator s) (rows t) (Together (operator s) (types_with f us)))
  with_rows s t us n =
      let o = operator s in
      let T = Together o (types_with f us) in
      by-test (merges s t)
      (λ j. let (u, ts, e) = merged_some s t n j in
      rw (j, e) (thus (append-rows o (u ▹ ts) us) (joined_same o (back (from-together o (type_with f u) (types_with f ts))) (itself T))))
      (λ j. rw j (itself (Joined o (rows t) T)))

  pub gathered-rows : (s : Sign) (l : List (Tree A))
      → Same (Dropped (operator s) (some_nil l) (Together (operator s) (types_with f (gathered s l)))) (Together (operator s) (tree_types l))
  gathered-rows s [] = dropped-not (operator s) (Neutral (operator s))
  gathered-rows s (t ∷ l) =
      let o = operator s in
      let T = Together o (types_with f (gathered s l)) in
      by-test (is_nil t)
      (λ e. rw e (thus (dropped-nil o (some_nil l) T) (joined_same o (nil-rows t e) (gathered-rows s l))))
      (λ e. rw e
      (thus (dropped-same o (some_nil l) (with_rows s t (gathered s l) e))
      (thus (dropped-behind o (some_nil l) (rows t) T) (joined_same o (itself (rows t)) (gathered-rows s l)))))

  grouped-rows : (s : Sign) (t : Tree A) (ts : Members A) → Same (rows (grouped s (t ▹ ts))) (Together (operator s) (types_with f (t ▹ ts)))
  grouped-rows s t none = back (neutral-right (operator s) (rows t))
  grouped-rows s t (u ▹ ts) = from-together (operator s) (type_with f t) (types_with f (u ▹ ts))

  -- b: some member was dropped, as it must where none is left
  pub left-rows : (s : Sign) (b : Bool) (ts : Members A) → (size ts ≡ 0 → b ≡ true)
      → Same (Holds (marked_type (dropped_mark s b) (type_with f (grouped s ts)))) (Dropped (operator s) b (Together (operator s) (types_with f ts)))
  left-rows s b none h = rw (h refl) (dropped-all s)
  left-rows s b (t ▹ ts) h = thus (dropped-marked s b (type_with f (grouped s (t ▹ ts)))) (dropped-same (operator s) b (grouped-rows s t ts))

  group-rows : (s : Sign) (ts : Members A) → Same (Together (operator s) (tree_types (flatten_all ts))) (Together (operator s) (types_with f ts))
      → Same (rows (flatten_node (group s ts))) (Holds (node_type_with f (group s ts)))
  group-rows s none h = by-test (is_choice s) (λ e. rw e (itself Empty)) (λ e. rw e (itself Empty))
  group-rows s (t ▹ ts) h =
      let l = flatten_all (t ▹ ts) in
      thus (over-rows (dropped_mark s (some_nil l)) (grouped s (gathered s l)) (dropped-fits s (some_nil l) (atoms (grouped s (gathered s l)))))
      (thus (left-rows s (some_nil l) (gathered s l) (none_left s (flatten t) (flatten_all ts)))
      (thus (gathered-rows s l) (thus h (back (from-together (operator s) (type_with f t) (types_with f ts))))))

  mutual
    node_kept : (n : Node A) → NodeMarksFit n → Same (rows (flatten_node n)) (Holds (node_type_with f n))
    node_kept (leaf a) h = itself (Holds (f a))
    node_kept (group s ts) h = group-rows s ts (members_kept ts (operator s) h)

    pub rows-kept : (t : Tree A) → MarksFit t → (w : Word) → Holds (type_with f (flatten t)) w ↔ Holds (type_with f t) w
    rows-kept (marked m n) h =
        thus (over-rows m (flatten_node n) (rw (flatten_node-atoms n) h.0))
        (marked-same m (type_with f (flatten_node n)) (node_type_with f n) (node_kept n h.1))

    members_kept : (ts : Members A) (o : Operator) → MembersMarksFit ts → Same (Together o (tree_types (flatten_all ts))) (Together o (types_with f ts))
    members_kept none o h = itself (Neutral o)
    members_kept (t ▹ ts) o h = joined_same o (rows-kept t h.0) (members_kept ts o h.1)

-- an atom of a model means what its number and counts say
abbrev with_number : ℕ → Counts → ℕ × Counts
with_number k c = (k, c)

abbrev numbered_type : ℕ × Counts → Ty
numbered_type (k, c) = counted_type k c.min c.max

mutual
  node-type : (n : Node Counts) (k : ℕ) → node_type_with numbered_type (number_node with_number n k) ≡ fold_node type_by n k
  node-type (leaf c) k = refl
  node-type (group s ts) k = ap (joined_type (operator s)) (members-types ts k)

  tree-type : (t : Tree Counts) (k : ℕ) → type_with numbered_type (number_tree with_number t k) ≡ fold type_by t k
  tree-type (marked m n) k = ap (marked_type m) (node-type n k)

  members-types : (ts : Members Counts) (k : ℕ) → types_with numbered_type (number_all with_number ts k) ≡ fold_all type_by ts k
  members-types none k = refl
  members-types (t ▹ ts) k = ap₂ {C = List Ty} (λ T l. T ∷ l) (tree-type t k) (members-types ts (k + atoms t))

pub flatten-rows : (t : Model) → MarksFit t → (w : Word) → Holds (type_of (flatten t)) w ↔ Holds (type_of t) w
flatten-rows t h =
    rw (← tree-type (flatten t) 1, ← tree-type t 1, ← flatten-number with_number t 1)
    (rows-kept numbered_type (number_tree with_number t 1) ((marks-number with_number t 1).1 h))
