-- The one way to write a model keeps its rows of names as written, though it numbers the names in another order.
use mathlib.Core.{Path.◌≡◌, Path.refl, Path.sym, Path.ap, Path.ap₂, Path.◌∙◌, Logic.◌↔◌, List.List, List.[], List.◌∷◌, List.◌++◌, List.map}
use mathlib.Core.List.Memᴰ
use mathlib.Core.List.{Memᴰ}
use Rattle.std.specs.Prelude.{ℕ, zero, suc, ◌+◌, ◌<◌, length, get_or}
use Rattle.std.proofs.Common.{arith}
use Rattle.fields.specs.Bytes.{Text}
use Rattle.model.specs.{Tree.Leaves.length-leaves, Tree.Map.weight-map}
use Rattle.model.proofs.AcceptLaws.{member-place}
use Rattle.model.specs.Tree.{Node, leaf, group, marked, Members, none, ◌▹◌, node_leaves, leaves, members_leaves, atoms, MarksFit, map_node, map_members}
use Rattle.model.specs.Syntax.{Spelling, Syntax, written_names, number_in, Number.from_found, Number.from-none}
use Rattle.model.specs.Types.{Ty}
use Rattle.model.specs.Model.{Counts, counts_of, model_of, operator, counted_type, joined_type, marked_type, type_by, fold_node, fold, fold_all, type_of}
use Rattle.model.specs.Model.{node_type_with, type_with, types_with}
use Rattle.judge.specs.{Reading.Table.Distinct, Reading.Laws.number-of-name}
use Rattle.canonical.specs.{Meaning.meaning, Canonical.canonical, Canonical.HoldsNames, Canonical.Rows.canonical-rows}
use Rattle.canonical.specs.{Canonical.Carried.rows-carried}

abbrev name_of : Spelling → Text
name_of a = a.name

abbrev counts : Spelling → Counts
counts a = counts_of a.count

-- A model's type is what its tree means by a numbering that numbers the names in the order written.
module _ (ν : Text → ℕ) where
  -- in the order written, from k
  abbrev Numbers : ℕ → List Spelling → Type 0
  Numbers k [] = Unit {0}
  Numbers k (a ∷ l) = (ν a.name ≡ k) × Numbers (suc k) l

  numbers-each : (k : ℕ) (l : List Spelling) → ((i : ℕ) → i < length (map name_of l) → ν (get_or (map name_of l) i []) ≡ i + k) → Numbers k l
  numbers-each k [] h = tt
  numbers-each k (a ∷ l) h = (h 0 (omega arith) ∙ omega arith, numbers-each (suc k) l (λ i e. h (suc i) (omega arith) ∙ omega arith))

  numbers-left : (k : ℕ) (l m : List Spelling) → Numbers k (l ++ m) → Numbers k l
  numbers-left k [] m h = tt
  numbers-left k (a ∷ l) m h = (h.0, numbers-left (suc k) l m h.1)

  numbers-right : (k : ℕ) (l m : List Spelling) → Numbers k (l ++ m) → Numbers (k + length l) m
  numbers-right k [] m h = let e : k + 0 ≡ k = omega arith in rw e h
  numbers-right k (a ∷ l) m h = let e : k + suc (length l) ≡ suc k + length l = omega arith in rw e (numbers-right (suc k) l m h.1)

  mutual
    node-type : (n : Node Spelling) (k : ℕ) → Numbers k (node_leaves n) → fold_node type_by (map_node counts n) k ≡ node_type_with (meaning ν) n
    node-type (leaf a) k h = ap (λ i. counted_type i (counts a).min (counts a).max) (sym h.0)
    node-type (group s ts) k h = ap (joined_type (operator s)) (members-types ts k h)

    tree-type : (t : Syntax) (k : ℕ) → Numbers k (leaves t) → fold type_by (model_of t) k ≡ type_with (meaning ν) t
    tree-type (marked m n) k h = ap (marked_type m) (node-type n k h)

    members-types : (ts : Members Spelling) (k : ℕ) → Numbers k (members_leaves ts) → fold_all type_by (map_members counts ts) k ≡ types_with (meaning ν) ts
    members-types none k h = refl
    members-types (t ▹ ts) k h =
        let e : atoms (model_of t) ≡ length (leaves t) = weight-map counts 1 0 t ∙ sym (length-leaves t) in
        ap₂ {C = List Ty} (λ A l. A ∷ l) (tree-type t k (numbers-left k (leaves t) (members_leaves ts) h))
        (rw e (members-types ts (k + length (leaves t)) (numbers-right k (leaves t) (members_leaves ts) h)))

named-type : (t : Syntax) → Distinct (written_names t) → type_of (model_of t) ≡ type_with (meaning (number_in (written_names t))) t
named-type t d = tree-type ν t 1 (numbers-each ν 1 (leaves t) (λ i h. number-of-name (written_names t) i h d))
  where
    ν : Text → ℕ
    ν = number_in (written_names t)

-- what has the number of a name is that name
numbered-once : (ns : List Text) (a x : Text) → Memᴰ a ns → number_in ns x ≡ number_in ns a → x ≡ a
numbered-once ns a x m e = go (number_in ns a) refl
  where
    go : (k : ℕ) → number_in ns a ≡ k → x ≡ a
    go zero z = let (i, h, d) = member-place [] m in absurd (from-none 0 ns a i z h d)
    go (suc k) z = sym (from_found 0 ns x k (e ∙ z)).2 ∙ (from_found 0 ns a k z).2

-- `Distinct` is the form of `Within`'s `apart`
pub canonical-held : (t : Syntax) → MarksFit t → Distinct (written_names t) → Distinct (written_names (canonical t))
    → ((a : Text) → Memᴰ a (written_names (canonical t)) → Memᴰ a (written_names t))
    → (w : List Text) → HoldsNames (canonical t) w ↔ HoldsNames t w
canonical-held t k d e f w =
    rw (named-type t d, named-type u e) (
      λ h. (canonical-rows ν t k (map ν w)).0 (rows-carried μ ν u (λ a m x p. ap ν (numbered-once (written_names u) a.name x (Memᴰ.map name_of m) p)) w h),
      λ h. rows-carried ν μ u (λ a m x p. ap μ (numbered-once (written_names t) a.name x (f a.name (Memᴰ.map name_of m)) p)) w
          ((canonical-rows ν t k (map ν w)).1 h),
    )
  where
    u : Syntax
    u = canonical t

    ν : Text → ℕ
    ν = number_in (written_names t)

    μ : Text → ℕ
    μ = number_in (written_names (canonical t))
