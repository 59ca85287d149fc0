-- Tidying keeps the rows, of every tree whose marks fit.
use mathlib.Core.{Path.◌≡◌, Path.refl, Path.sym, Path.subst, Logic.◌↔◌, Logic.inl, Logic.inr, Logic.⊎_elim}
use Rattle.std.specs.Prelude.{Bool, true, false, cond, ◌&&◌, ◌||◌, List, [], ◌∷◌, map, ℕ, eqb, leb}
use Rattle.std.proofs.lemmas.Bool.{false≢true, eqb-false}
use Rattle.std.proofs.Math.Bool.{and-eq-true_iff}
use Rattle.std.proofs.Common.{arith, eqb-true, leb-true}
use Rattle.fields.specs.{Bytes.Text, Bytes.value, Tests.by-test, Tests.Tells, Tests.untold}
use Rattle.model.specs.{declared.rule.Sign.Sign, declared.rule.Mark.Mark, Word.Word}
use Rattle.model.specs.declared.rule.Sign.TheVariants.{None, Sequence, Choice, Interleaving}
use Rattle.model.specs.declared.rule.Mark.TheVariants.{Plain, Optional, Nonempty}
use Rattle.model.specs.Tree.{Node, leaf, group, marked, Members, none, ◌▹◌, is_plain, atoms, mark_fits, NodeMarksFit, MarksFit, MembersMarksFit}
use Rattle.model.specs.Syntax.{Count, unwritten, between, onward, Spelling, Syntax}
use Rattle.model.specs.Types.{Ty, nonempty, Operator, sequence, choice, interleaving, Language, Joined, Holds}
use Rattle.model.proofs.TypesLanguages.{Same, itself, thus, back, Empty, Neutral, joined_same, joined-assoc}
use Rattle.model.specs.Model.{counts_of, counted_type, operator, marked_type, node_type_with, type_with, types_with}
use Rattle.model.specs.Flatten.{is_choice, is_nil, some_nil, gathered, grouped, over, dropped_mark}
use Rattle.model.proofs.FlattenRows.{Together, from-together, Dropped, dropped-same, one-empty, marked-same, optional-over, nonempty-over, tree_types}
use Rattle.model.proofs.FlattenRows.{none_left, gathered-rows, left-rows, dropped-not, dropped-behind, dropped-fits, nil-rows, over-rows}
use Rattle.canonical.specs.Tidy.{from_zero, tidy_count, node_nullable, tree_nullable, fitting, marking, stripped, any_nullable, settled_group}
use Rattle.canonical.specs.Tidy.{tidy_node, tidy, tidy_all, Leaves.tidy_node-atoms}
use Rattle.canonical.specs.Tidy.Nullable.{node-nullable, tree-nullable, nil-nullable, some-nil}
use Rattle.canonical.specs.Meaning.{meaning}

-- an atom's type stays the very same
counted-type : (k : ℕ) (c : Count)
    → marked_type (cond (from_zero c) Optional Plain) (counted_type k (counts_of (tidy_count c)).min (counts_of (tidy_count c)).max)
    ≡ counted_type k (counts_of c).min (counts_of c).max
counted-type k unwritten = refl
counted-type k (between m n) =
    by-test (eqb (value m) 0)
    (λ z. let e : value m ≡ 0 = eqb-true (value m) 0 z in
    by-test (eqb (value n) 1)
    (λ o. rw (z, e, o, eqb-true (value n) 1 o))
    (λ o. rw (z, e, o)))
    (λ z. by-test (leb (value m) 1 && eqb (value n) 1)
    (λ o. let h = (and-eq-true_iff (leb (value m) 1) (eqb (value n) 1)).0 o in
    let e : value m ≡ 1 = omega (arith, eqb-false (value m) 0 z, leb-true (value m) 1 h.0) in
    rw (o, z, e, eqb-true (value n) 1 h.1))
    (λ o. rw (o, z)))
counted-type k (onward m) =
    by-test (eqb (value m) 0)
    (λ z. rw (z, eqb-true (value m) 0 z))
    (λ z. rw z)

-- a `?` where the empty row is held
needless : (P : Language) → P [] → Same P (Joined choice Empty P)
needless P h w = (inr, ⊎_elim (λ e. subst P (sym e) h) (λ p. p))

-- a mark is left out where it changes nothing
fitting-rows : (m : Mark) (b : Bool) (T : Ty) → Tells b (Holds T []) → Same (Holds (marked_type (fitting m b) T)) (Holds (marked_type m T))
fitting-rows Plain b T t = itself (Holds T)
fitting-rows Optional true T t = needless (Holds T) (t.0 refl)
fitting-rows Optional false T t = itself (Holds (marked_type Optional T))
fitting-rows Nonempty true T t = itself (Holds (marked_type Nonempty T))
fitting-rows Nonempty false T t = λ w. (λ h. (h, λ e. untold false t refl (subst (Holds T) e h)), λ h. h.0)

-- the empty row that is taken from a member of a choice is given back by the choice
given_back : (b : Bool) (T : Ty) → Tells b (Holds T []) → Same (Dropped choice b (Holds (nonempty T))) (Holds T)
given_back true T t = thus (back (optional-over Nonempty T)) (back (needless (Holds T) (t.0 refl)))
given_back false T t = back (fitting-rows Nonempty false T t)

-- what is left of the empty row in a choice, by one member and by those behind it
dropped-both : (o : Operator) (b c : Bool) (P Q : Language) → Same (Dropped o (b || c) (Joined o P Q)) (Joined o (Dropped o b P) (Dropped o c Q))
dropped-both sequence b c P Q = itself (Joined sequence P Q)
dropped-both choice true true P Q = λ w. (
  ⊎_elim (λ e. inl (inl e)) (⊎_elim (λ p. inl (inr p)) (λ q. inr (inr q))),
  ⊎_elim (⊎_elim inl (λ p. inr (inl p))) (⊎_elim inl (λ q. inr (inr q))),
)
dropped-both choice true false P Q = back (joined-assoc choice Empty P Q)
dropped-both choice false c P Q = dropped-behind choice c P Q
dropped-both interleaving b c P Q = itself (Joined interleaving P Q)

-- and what is left of it once and again
dropped-twice : (o : Operator) (b c : Bool) (P : Language) → (c ≡ true → b ≡ true) → Same (Dropped o b P) (Dropped o b (Dropped o c P))
dropped-twice sequence b c P h = itself P
dropped-twice choice true true P h = one-empty P
dropped-twice choice true false P h = itself (Joined choice Empty P)
dropped-twice choice false true P h = absurd (false≢true (h refl))
dropped-twice choice false false P h = itself P
dropped-twice interleaving b c P h = itself P

module _ (ν : Text → ℕ) where
  abbrev rows : Syntax → Language
  rows t = Holds (type_with (meaning ν) t)

  marking-rows : (m : Mark) (t : Syntax) → Same (rows (marking m t)) (rows (over m t))
  marking-rows m (marked k n) =
      by-test (is_plain m || is_nil (marked k n))
      (λ e. rw e (itself (rows (marked k n))))
      (λ e. rw e (fitting-rows m (node_nullable n) (node_type_with (meaning ν) n) (node-nullable ν n)))

  marked-rows : (m : Mark) (t : Syntax) → mark_fits m (atoms t) ≡ true → Same (rows (marking m t)) (Holds (marked_type m (type_with (meaning ν) t)))
  marked-rows m t h = thus (marking-rows m t) (over-rows (meaning ν) m t h)

  stripped-choice : (t : Syntax) → Same (Dropped choice (tree_nullable t) (rows (marking Nonempty t))) (rows t)
  stripped-choice (marked k n) =
      let t : Syntax = marked k n in
      let T = node_type_with (meaning ν) n in
      by-test (is_nil t)
      (λ e. rw (e, nil-nullable t e) (back (needless (rows t) ((nil-rows (meaning ν) t e []).0 refl))))
      (λ e. rw e
      (thus (dropped-same choice (tree_nullable t) (thus (fitting-rows Nonempty (node_nullable n) T (node-nullable ν n)) (nonempty-over k T)))
      (given_back (tree_nullable t) (type_with (meaning ν) t) (tree-nullable ν t))))

  stripped-one : (s : Sign) (t : Syntax) → Same (Dropped (operator s) (tree_nullable t) (rows (stripped s t))) (rows t)
  stripped-one None t = itself (rows t)
  stripped-one Sequence t = itself (rows t)
  stripped-one Choice t = stripped-choice t
  stripped-one Interleaving t = itself (rows t)

  -- the rows of members, joined from the right
  abbrev Rows : Sign → List Syntax → Language
  Rows s l = Together (operator s) (tree_types (meaning ν) l)

  stripped-rows : (s : Sign) (l : List Syntax) → Same (Dropped (operator s) (any_nullable l) (Rows s (map (stripped s) l))) (Rows s l)
  stripped-rows s [] = dropped-not (operator s) (Neutral (operator s))
  stripped-rows s (t ∷ l) =
      thus (dropped-both (operator s) (tree_nullable t) (any_nullable l) (rows (stripped s t)) (Rows s (map (stripped s) l)))
      (joined_same (operator s) (stripped-one s t) (stripped-rows s l))

  settled-rows : (s : Sign) (t : Syntax) (l : List Syntax) → Same (rows (settled_group s (t ∷ l))) (Rows s (t ∷ l))
  settled-rows s t l =
      let o = operator s in
      let k : List Syntax = map (stripped s) (t ∷ l) in
      let b = any_nullable (t ∷ l) in
      let ts = gathered s k in
      let T = Together o (types_with (meaning ν) ts) in
      thus (marked-rows (dropped_mark s b) (grouped s ts) (dropped-fits s b (atoms (grouped s ts))))
      (thus (left-rows (meaning ν) s b ts (λ h. some-nil s (t ∷ l) (none_left s (stripped s t) (map (stripped s) l) h)))
      (thus (dropped-twice o b (some_nil k) T (some-nil s (t ∷ l)))
      (thus (dropped-same o b (gathered-rows (meaning ν) s k)) (stripped-rows s (t ∷ l)))))

  group-rows : (s : Sign) (ts : Members Spelling) → Same (Rows s (tidy_all ts)) (Together (operator s) (types_with (meaning ν) ts))
      → Same (rows (tidy_node (group s ts))) (Holds (node_type_with (meaning ν) (group s ts)))
  group-rows s none h = by-test (is_choice s) (λ e. rw e (itself Empty)) (λ e. rw e (itself Empty))
  group-rows s (t ▹ ts) h =
      thus (settled-rows s (tidy t) (tidy_all ts))
      (thus h (back (from-together (operator s) (type_with (meaning ν) t) (types_with (meaning ν) ts))))

  mutual
    node-rows : (n : Node Spelling) → NodeMarksFit n → Same (rows (tidy_node n)) (Holds (node_type_with (meaning ν) n))
    node-rows (leaf a) h = rw (counted-type (ν a.name) a.count) (itself (Holds (meaning ν a)))
    node-rows (group s ts) h = group-rows s ts (members-rows ts (operator s) h)

    pub tidy-rows : (t : Syntax) → MarksFit t → (w : Word) → Holds (type_with (meaning ν) (tidy t)) w ↔ Holds (type_with (meaning ν) t) w
    tidy-rows (marked m n) h =
        thus (marked-rows m (tidy_node n) (rw (tidy_node-atoms n) h.0))
        (marked-same m (type_with (meaning ν) (tidy_node n)) (node_type_with (meaning ν) n) (node-rows n h.1))

    members-rows : (ts : Members Spelling) (o : Operator) → MembersMarksFit ts
        → Same (Together o (tree_types (meaning ν) (tidy_all ts))) (Together o (types_with (meaning ν) ts))
    members-rows none o h = itself (Neutral o)
    members-rows (t ▹ ts) o h = joined_same o (tidy-rows t h.0) (members-rows ts o h.1)
