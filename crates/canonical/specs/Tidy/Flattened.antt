-- To flatten first changes nothing for tidying: so what tidying does goes on from the flattening of `Flatten`.
use mathlib.Core.{Path.◌≡◌, Path.refl, Path.sym, Path.ap, Path.ap₂, Path.◌∙◌, Path.subst, Logic.inl, Logic.inr}
use Rattle.std.specs.Prelude.{Bool, true, false, cond, ◌||◌, List, [], ◌∷◌, ◌++◌, map}
use Rattle.std.proofs.Common.{true≢false, arith}
use Rattle.std.proofs.lemmas.Bool.{false≢true}
use Rattle.std.proofs.Math.Bool.{and-false, or-true, or-false, or_assoc}
use Rattle.std.proofs.lemmas.List.{map-append}
use Rattle.fields.specs.Tests.{by-test}
use Rattle.model.specs.{declared.rule.Sign.Sign, declared.rule.Mark.Mark, Mark.Laws.is-plain}
use Rattle.model.specs.declared.rule.Sign.TheVariants.{None, Sequence, Choice, Interleaving}
use Rattle.model.specs.declared.rule.Mark.TheVariants.{Plain, Optional, Nonempty}
use Rattle.model.specs.Tree.{Node, leaf, group, marked, Members, none, ◌▹◌, size, node_under, is_plain}
use Rattle.model.specs.Syntax.{Spelling, Syntax}
use Rattle.model.specs.Flatten.{is_choice, nil, is_nil, some_nil, merges, members_of, gathered, grouped, over, dropped_mark, ◌⧺◌}
use Rattle.model.specs.Flatten.{Append.append-none, Append.gathered-append, Append.grouped-several}
use Rattle.model.proofs.FlattenRows.{none_left}
use Rattle.model.specs.Flatten.{flatten_node, flatten, flatten_all, Merges.merged, Merges.merged_some}
use Rattle.canonical.specs.Neat.{strips, Neat, NeatAll}
use Rattle.canonical.specs.Tidy.{tree_nullable, marking, stripped, any_nullable, settled_group, tidy_node, tidy, tidy_all}
use Rattle.canonical.specs.Tidy.Form.{NeatOrNil, AllNeatOrNil, neat-not-nil, marking-neat, marking-held, grouped-tidied, gathered-neat, tidy-neat}
use Rattle.canonical.specs.Tidy.Form.{all-tidied, stripped-nil, stripped-neat, stripped-same, none-nullable}
use Rattle.canonical.specs.Tidy.{Append.tidy-append, Append.any_append, Nullable.marking-nullable, Nullable.some-nil, Leaves.marking-kept}

marking-node : (m : Mark) (t : Syntax) → node_under (marking m t) ≡ node_under t
marking-node = marking-kept node_under (λ j k n. refl)

-- of two marks the outer one stays
marking-twice : (m k : Mark) (t : Syntax) → is_plain m ≡ false → NeatOrNil t → marking m (marking k t) ≡ marking m t
marking-twice m k t p (inl e) = rw (e, p, or-true)
marking-twice m k t p (inr h) = rw (p, neat-not-nil (marking k t) (marking-neat k t h), marking-node k t, neat-not-nil t h)

nothing-settled : (s : Sign) → settled_group s [] ≡ nil
nothing-settled s = rw or-true

nil-tidy : (t : Syntax) → is_nil t ≡ true → tidy t ≡ nil
nil-tidy (marked m (leaf a)) e = absurd (false≢true e)
nil-tidy (marked m (group s none)) e = rw (is-plain m e) (nothing-settled s)
nil-tidy (marked m (group s (t ▹ ts))) e = absurd (false≢true e)

over-tidy : (m : Mark) (t : Syntax) → tidy (over m t) ≡ marking m (tidy t)
over-tidy m (marked k n) =
    let t : Syntax = marked k n in
    by-test (is_plain m)
    (λ p. rw (is-plain m p))
    (λ p. by-test (is_nil t)
    (λ e. rw (p, e, nil-tidy t e))
    (λ e.
    let q : over m t ≡ marked m n = rw (p, e) in
    ap tidy q ∙ sym (marking-twice m k (tidy_node n) p (tidy-neat (marked Plain n)))))

-- the members of a group of tidied trees
abbrev kept : Sign → List Syntax → Members Spelling
kept s l = gathered s (map (stripped s) l)

kept_append : (s : Sign) (k l : List Syntax) → kept s (k ++ l) ≡ kept s k ⧺ kept s l
kept_append s k l = ap (gathered s) (map-append (stripped s) k l) ∙ gathered-append s (map (stripped s) k) (map (stripped s) l)

-- the mark of a choice among the members of a choice makes no difference for the members
stripped-marking : (s : Sign) (b : Bool) (t : Syntax) → NeatOrNil t → stripped s (marking (dropped_mark s b) t) ≡ stripped s t
stripped-marking s b t h = by-test (is_choice s) (λ c. rw c (marking-twice Nonempty (cond b Optional Plain) t refl h)) (λ c. rw c)

nil-kept : (s : Sign) (l : List Syntax) → kept s (nil ∷ l) ≡ kept s l
nil-kept s l = rw (stripped-nil s)

-- members that are grouped, and gathered again, are the same
same-merges : (s : Sign) (ts : Members Spelling) → merges s (marked Plain (group s ts)) ≡ true
same-merges None ts = refl
same-merges Sequence ts = refl
same-merges Choice ts = refl
same-merges Interleaving ts = refl

regathered : (s : Sign) (ts : Members Spelling) → NeatAll ts s → gathered s (stripped s (grouped s ts) ∷ []) ≡ ts
regathered s none h = nil-kept s []
regathered s (t ▹ none) h = rw (stripped-same s t h.0 h.1.1, neat-not-nil t h.0, h.1.0) refl
regathered s (t ▹ u ▹ ts) h =
    let g : Syntax = marked Plain (group s (t ▹ u ▹ ts)) in
    let i : strips s g ≡ false = by-test (is_choice s) (λ c. rw c (none-nullable s (t ▹ u ▹ ts) c h)) (λ c. rw c) in
    let e : stripped s g ≡ g = stripped-same s g (refl, (omega arith, h)) i in
    ap (λ (v : Syntax). gathered s (v ∷ [])) e ∙ rw (same-merges s (t ▹ u ▹ ts), append-none ts) refl

-- a group among the members of a group of its sign: its members are those of the group
settled-kept : (s : Sign) (l : List Syntax) → AllNeatOrNil l → kept s (settled_group s l ∷ []) ≡ kept s l
settled-kept s l h =
    let n = gathered-neat s l h in
    rw (stripped-marking s (any_nullable l) (grouped s (kept s l)) (grouped-tidied s (kept s l) n)) (regathered s (kept s l) n)

regrouped : (s : Sign) (t : Syntax) → Neat t → grouped s (gathered s (t ∷ [])) ≡ t
regrouped s t h =
    rw (neat-not-nil t h) (by-test (merges s t)
    (λ e.
    let p = merged s t e in
    rw (e, append-none (members_of t)) (grouped-several s (members_of t) (subst Neat p h).1.0 ∙ sym p))
    (λ e. rw e refl))

remarked : (s : Sign) (t : Syntax) → Neat t → marking (dropped_mark s (tree_nullable t || false)) (stripped s t) ≡ t
remarked s t h =
    rw or-false (by-test (is_choice s)
    (λ c. by-test (tree_nullable t)
    (λ e. rw (c, e) (marking-twice Optional Nonempty t refl (inr h) ∙ marking-held Optional t h (sym e)))
    (λ e. rw (c, e) (marking-held Nonempty t h (sym e))))
    (λ c. rw c))

-- a group of one tidied tree is the tree
settled-one : (s : Sign) (t : Syntax) → NeatOrNil t → settled_group s (t ∷ []) ≡ t
settled-one s t (inl e) = rw (e, stripped-nil s, or-true)
settled-one s t (inr h) = rw (regrouped s (stripped s t) (stripped-neat s t h)) (remarked s t h)

tidy-grouped : (s : Sign) (ts : Members Spelling) → tidy (grouped s ts) ≡ settled_group s (tidy_all ts)
tidy-grouped s none = sym (nothing-settled s)
tidy-grouped s (t ▹ none) = sym (settled-one s (tidy t) (tidy-neat t))
tidy-grouped s (t ▹ u ▹ ts) = refl

-- a choice holds the empty row where one of its members did
module _ (s : Sign) (choice : is_choice s ≡ true) where
  left-nullable : (ts : Members Spelling) → NeatAll ts s → (size ts ≡ 0 → ⊥) → tree_nullable (grouped s ts) ≡ false
  left-nullable none h z = absurd (z refl)
  left-nullable (t ▹ none) h z = rw choice at h.1.1
  left-nullable (t ▹ u ▹ ts) h z = rw choice (none-nullable s (t ▹ u ▹ ts) choice h)

  choice-nullable : (b : Bool) (t : Syntax) → (b ≡ false → tree_nullable t ≡ false) → tree_nullable (marking (dropped_mark s b) t) ≡ b
  choice-nullable true t h = rw choice (marking-nullable Optional t refl ∙ or-true (is_nil t))
  choice-nullable false t h = rw choice (h refl)

  settled-nullable : (t : Syntax) (l : List Syntax) → AllNeatOrNil (t ∷ l) → tree_nullable (settled_group s (t ∷ l)) ≡ any_nullable (t ∷ l)
  settled-nullable t l h =
      let k = t ∷ l in
      let some = none_left s (stripped s t) (map (stripped s) l) in
      choice-nullable (any_nullable k) (grouped s (kept s k))
      (λ e. left-nullable (kept s k) (gathered-neat s k h) (λ z. true≢false (sym (some-nil s k (some z)) ∙ e)))

  tidied-nullable : (l : List Syntax) → any_nullable (map tidy l) ≡ any_nullable (tidy_all (gathered s l)) || some_nil l
  tidied-nullable [] = refl
  tidied-nullable (t ∷ l) =
      let k = tidied-nullable l in
      let g = gathered s l in
      by-test (is_nil t)
      (λ e. rw (e, nil-tidy t e, or-true))
      (λ e. by-test (merges s t)
      (λ j. let (u, us, q) = merged_some s t e j in
      let ts = tidy_all (u ▹ us) in
      rw (e, j, q, k, tidy-append us g, settled-nullable (tidy u) (tidy_all us) (all-tidied (u ▹ us)))
      (sym (or_assoc (any_nullable ts) (any_nullable (tidy_all g)) (some_nil l)) ∙ ap (λ (b : Bool). b || some_nil l) (sym (any_append ts (tidy_all g)))))
      (λ j. rw (e, j, k) (sym (or_assoc (tree_nullable (tidy t)) (any_nullable (tidy_all g)) (some_nil l)))))

-- the mark that flattening passes on, and the one that tidying finds
marking-or : (s : Sign) (a b : Bool) (t : Syntax) → NeatOrNil t
    → marking (dropped_mark s b) (marking (dropped_mark s a) t) ≡ marking (dropped_mark s (a || b)) t
marking-or s a true t h =
    rw or-true (by-test (is_choice s) (λ c. rw c (marking-twice Optional (cond a Optional Plain) t refl h)) (λ c. rw c))
marking-or s a false t h = rw (or-false, and-false)

-- Members that are flattened, then tidied.
tidied-kept : (s : Sign) (l : List Syntax) → kept s (map tidy l) ≡ kept s (tidy_all (gathered s l))
tidied-kept s [] = refl
tidied-kept s (t ∷ l) =
    let k = tidied-kept s l in
    by-test (is_nil t)
    (λ e. rw (e, nil-tidy t e) (nil-kept s (map tidy l) ∙ k))
    (λ e. by-test (merges s t)
    (λ j.
    let ts = members_of t in
    let p : tidy t ≡ settled_group s (tidy_all ts) = ap tidy (merged s t j) in
    rw (e, j, p, tidy-append ts (gathered s l), kept_append s (tidy_all ts) (tidy_all (gathered s l)), ← k)
    (kept_append s (settled_group s (tidy_all ts) ∷ []) (map tidy l)
    ∙ ap (λ (us : Members Spelling). us ⧺ kept s (map tidy l)) (settled-kept s (tidy_all ts) (all-tidied ts))))
    (λ j. rw (e, j)
    (kept_append s (tidy t ∷ []) (map tidy l) ∙ ap (λ (us : Members Spelling). kept s (tidy t ∷ []) ⧺ us) k
    ∙ sym (kept_append s (tidy t ∷ []) (tidy_all (gathered s l))))))

dropped-tidied : (s : Sign) (l : List Syntax)
    → dropped_mark s (any_nullable (tidy_all (gathered s l)) || some_nil l) ≡ dropped_mark s (any_nullable (map tidy l))
dropped-tidied s l = by-test (is_choice s) (λ c. ap (dropped_mark s) (sym (tidied-nullable s c l))) (λ c. rw c)

group-flatten : (s : Sign) (l : List Syntax) → tidy (over (dropped_mark s (some_nil l)) (grouped s (gathered s l))) ≡ settled_group s (map tidy l)
group-flatten s l =
    let m = dropped_mark s (some_nil l) in
    let g = gathered s l in
    let k = tidy_all g in
    over-tidy m (grouped s g) ∙ ap (marking m) (tidy-grouped s g)
    ∙ marking-or s (any_nullable k) (some_nil l) (grouped s (kept s k)) (grouped-tidied s (kept s k) (gathered-neat s k (all-tidied g)))
    ∙ ap₂ (λ (x : Mark) (ts : Members Spelling). marking x (grouped s ts)) (dropped-tidied s l) (sym (tidied-kept s l))

mutual
  node-flatten : (n : Node Spelling) → tidy (flatten_node n) ≡ tidy_node n
  node-flatten (leaf a) = refl
  node-flatten (group s ts) = group-flatten s (flatten_all ts) ∙ ap (settled_group s) (all-flatten ts)

  pub tidy-flatten : (t : Syntax) → tidy (flatten t) ≡ tidy t
  tidy-flatten (marked m n) = over-tidy m (flatten_node n) ∙ ap (marking m) (node-flatten n)

  all-flatten : (ts : Members Spelling) → map tidy (flatten_all ts) ≡ tidy_all ts
  all-flatten none = refl
  all-flatten (t ▹ ts) = ap₂ {C = List Syntax} (λ u l. u ∷ l) (tidy-flatten t) (all-flatten ts)
