-- Rows of names by one numbering, ν, are rows by another, μ, where μ takes for the name of an atom all that ν takes for it.
use mathlib.Core.{Path.◌≡◌, Path.refl, Path.sym, Path.ap, Path.ap₂, Path.◌∙◌, Path.subst, Logic.inl, Logic.inr, Logic.⊎_elim}
use mathlib.Core.List.{List, [], ◌∷◌, ◌++◌, map, nil≢cons, cons≢nil, head-eq_of_cons-eq, tail-eq_of_cons-eq}
use mathlib.Core.List.Memᴰ
use mathlib.Core.List.{Memᴰ}
use Rattle.std.specs.Prelude.{ℕ, zero, suc, ◌≤◌, length}
use Rattle.std.proofs.lemmas.List.{length-map}
use Rattle.fields.specs.Bytes.{Text}
use Rattle.model.specs.{declared.rule.Upper.Upper, declared.rule.Sign.Sign, declared.rule.Mark.Mark}
use Rattle.model.specs.declared.rule.Mark.TheVariants.{Plain, Optional, Nonempty}
use Rattle.model.specs.Word.{Word, only, Over, Shuffle, none as nothing, left, right}
use Rattle.model.proofs.WordLaws.{only-is, only_self}
use Rattle.model.specs.Tree.{Node, leaf, group, marked, Members, none, ◌▹◌, node_leaves, leaves, members_leaves}
use Rattle.model.specs.Syntax.{Spelling, Syntax}
use Rattle.model.specs.Types.{Ty, ε, atom, join, Operator, sequence, choice, interleaving, Under, Holds}
use Rattle.model.specs.Model.{counts_of, operator, counted_type, joined_from, marked_type, node_type_with, type_with, types_with}
use Rattle.canonical.specs.Meaning.{meaning}

module _ (ν μ : Text → ℕ) where
  abbrev Carried : Ty → Ty → Type 0
  Carried A B = (w : List Text) → Holds A (map ν w) → Holds B (map μ w)

  carried-empty : Carried ε ε
  carried-empty [] e = refl
  carried-empty (x ∷ w) e = absurd (cons≢nil e)

  -- what a row by ν is made of, it is made of by μ
  parts : (w : List Text) (u v : Word) → map ν w ≡ u ++ v
      → (x : List Text) × (y : List Text) × (u ≡ map ν x) × (v ≡ map ν y) × (map μ w ≡ map μ x ++ map μ y)
  parts w [] v e = ([], w, refl, sym e, refl)
  parts [] (c ∷ u) v e = absurd (nil≢cons e)
  parts (a ∷ w) (c ∷ u) v e =
      let (x, y, p, q, r) = parts w u v (tail-eq_of_cons-eq e) in
      (a ∷ x, y, ap₂ {C = Word} (λ b l. b ∷ l) (sym (head-eq_of_cons-eq e)) p, q, ap (λ l. μ a ∷ l) r)

  shuffled : (w : List Text) {u v : Word} → Shuffle u v (map ν w)
      → (x : List Text) × (y : List Text) × (u ≡ map ν x) × (v ≡ map ν y) × Shuffle (map μ x) (map μ y) (map μ w)
  shuffled [] nothing = ([], [], refl, refl, nothing)
  shuffled (a ∷ w) (left s) = let (x, y, p, q, r) = shuffled w s in (a ∷ x, y, ap (λ l. ν a ∷ l) p, q, left r)
  shuffled (a ∷ w) (right s) = let (x, y, p, q, r) = shuffled w s in (x, a ∷ y, p, ap (λ l. ν a ∷ l) q, right r)

  carried-joined : (o : Operator) (A A' B B' : Ty) → Carried A A' → Carried B B' → Carried (join o A B) (join o A' B')
  carried-joined sequence A A' B B' f g w (u, v, e, p, q) =
      let (x, y, i, j, r) = parts w u v e in (map μ x, map μ y, r, f x (subst (Holds A) i p), g y (subst (Holds B) j q))
  carried-joined choice A A' B B' f g w h = ⊎_elim (λ p. inl (f w p)) (λ q. inr (g w q)) h
  carried-joined interleaving A A' B B' f g w (u, v, s, p, q) =
      let (x, y, i, j, r) = shuffled w s in (map μ x, map μ y, r, f x (subst (Holds A) i p), g y (subst (Holds B) j q))

  none_named : (w : List Text) → map μ w ≡ [] → map ν w ≡ []
  none_named [] e = refl
  none_named (x ∷ w) e = absurd (cons≢nil e)

  carried-marked : (m : Mark) (A B : Ty) → Carried A B → Carried (marked_type m A) (marked_type m B)
  carried-marked Plain A B f = f
  carried-marked Optional A B f = carried-joined choice ε ε A B carried-empty f
  carried-marked Nonempty A B f = λ w h. (f w h.0, λ e. h.1 (none_named w e))

  -- μ takes for the name of the atom all that ν takes for it
  abbrev Follows : Spelling → Type 0
  Follows a = (x : Text) → ν x ≡ ν a.name → μ x ≡ μ a.name

  module _ (a : Spelling) (h : Follows a) where
    carried-over : (w : List Text) → Over (only (ν a.name)) (map ν w) → Over (only (μ a.name)) (map μ w)
    carried-over [] o = tt
    carried-over (x ∷ w) o = (rw (h x (only-is (ν a.name) (ν x) o.0)) (only_self (μ a.name)), carried-over w o.1)

    carried-atom : (lo : ℕ) (hi : Upper) → Carried (atom (ν a.name) lo hi) (atom (μ a.name) lo hi)
    carried-atom lo hi w (o, m, n) =
        let e : length (map ν w) ≡ length (map μ w) = length-map w ν ∙ sym (length-map w μ) in
        (carried-over w o, subst (λ k. lo ≤ k) e m, subst (λ k. Under k hi) e n)

    carried-counted : (lo : ℕ) (hi : Upper) → Carried (counted_type (ν a.name) lo hi) (counted_type (μ a.name) lo hi)
    carried-counted zero hi = carried-joined choice ε ε (atom (ν a.name) 1 hi) (atom (μ a.name) 1 hi) carried-empty (carried-atom 1 hi)
    carried-counted (suc lo) hi = carried-atom (suc lo) hi

  abbrev Each : List Spelling → Type 0
  Each l = (a : Spelling) → Memᴰ a l → Follows a

  each_left : (l m : List Spelling) → Each (l ++ m) → Each l
  each_left l m h a i = h a (Memᴰ.append_left m i)

  each_right : (l m : List Spelling) → Each (l ++ m) → Each m
  each_right l m h a i = h a (Memᴰ.append_right l i)

  mutual
    node-carried : (n : Node Spelling) → Each (node_leaves n) → Carried (node_type_with (meaning ν) n) (node_type_with (meaning μ) n)
    node-carried (leaf a) h = carried-counted a (h a (Memᴰ.head refl)) (counts_of a.count).min (counts_of a.count).max
    node-carried (group s ts) h = group-carried ts s h

    pub rows-carried : (t : Syntax) → ((a : Spelling) → Memᴰ a (leaves t) → (x : Text) → ν x ≡ ν a.name → μ x ≡ μ a.name)
        → (w : List Text) → Holds (type_with (meaning ν) t) (map ν w) → Holds (type_with (meaning μ) t) (map μ w)
    rows-carried (marked m n) h = carried-marked m (node_type_with (meaning ν) n) (node_type_with (meaning μ) n) (node-carried n h)

    group-carried : (ts : Members Spelling) (s : Sign) → Each (members_leaves ts)
        → Carried (node_type_with (meaning ν) (group s ts)) (node_type_with (meaning μ) (group s ts))
    group-carried none s h = carried-empty
    group-carried (t ▹ ts) s h =
        from-carried ts (operator s) (type_with (meaning ν) t) (type_with (meaning μ) t)
        (rows-carried t (each_left (leaves t) (members_leaves ts) h)) (each_right (leaves t) (members_leaves ts) h)

    from-carried : (ts : Members Spelling) (o : Operator) (A B : Ty) → Carried A B → Each (members_leaves ts)
        → Carried (joined_from o A (types_with (meaning ν) ts)) (joined_from o B (types_with (meaning μ) ts))
    from-carried none o A B f h = f
    from-carried (t ▹ ts) o A B f h =
        from-carried ts o (join o A (type_with (meaning ν) t)) (join o B (type_with (meaning μ) t))
        (carried-joined o A B (type_with (meaning ν) t) (type_with (meaning μ) t) f (rows-carried t (each_left (leaves t) (members_leaves ts) h)))
        (each_right (leaves t) (members_leaves ts) h)
