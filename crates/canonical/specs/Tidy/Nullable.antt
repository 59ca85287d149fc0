-- `node_nullable` and `tree_nullable` tell whether the empty row is held, also where a mark is put or a member is stripped.
use mathlib.Core.{Path.◌≡◌, Path.refl, Path.sym, Path.◌∙◌, Path.subst, Logic.inl, Bool.Bool, Bool.true, Bool.false, Bool.cond, Bool.◌&&◌, Bool.◌||◌}
use mathlib.Core.{Bool.false≢true, Bool.or-true, Bool.or-false, List.List, List.[], List.◌∷◌, List.◌++◌, List.nil≢cons, List.map}
use Rattle.std.specs.Prelude.{ℕ, zero, suc, eqb}
use Rattle.std.proofs.Common.{arith, ne_eqb}
use Rattle.fields.specs.{Bytes.Text, Bytes.value, Tests.by-test, Tests.Tells, Tests.tells-and, Tests.tells-or}
use Rattle.model.specs.{declared.rule.Upper.Upper, declared.rule.Sign.Sign, declared.rule.Mark.Mark, Word.Word, Word.Shuffle, Word.none as nothing}
use Rattle.model.specs.Mark.Laws.{is-plain}
use Rattle.model.specs.declared.rule.Upper.TheVariants.{Number, Unbounded}
use Rattle.model.specs.declared.rule.Sign.TheVariants.{None, Sequence, Choice, Interleaving}
use Rattle.model.specs.declared.rule.Mark.TheVariants.{Plain, Optional, Nonempty}
use Rattle.model.specs.Tree.{Node, leaf, group, marked, Members, none, ◌▹◌, node_under, is_plain}
use Rattle.model.specs.Syntax.{Count, unwritten, between, onward, Spelling, Syntax}
use Rattle.model.specs.Types.{Ty, Operator, sequence, choice, interleaving, Language, Joined, Holds}
use Rattle.model.proofs.TypesLanguages.{Neutral}
use Rattle.model.specs.Model.{counts_of, counted_type, operator, marked_type, node_type_with, type_with, types_with}
use Rattle.model.specs.Flatten.{is_choice, is_nil, some_nil}
use Rattle.model.proofs.FlattenRows.{Together, from-together}
use Rattle.canonical.specs.Tidy.{nullable_under, from_zero, node_nullable, group_nullable, tree_nullable, all_nullable, some_nullable, fitting, marking}
use Rattle.canonical.specs.Tidy.{stripped, any_nullable}
use Rattle.canonical.specs.Meaning.{meaning}

shuffle-nils : {u v : Word} → Shuffle u v [] → (u ≡ []) × (v ≡ [])
shuffle-nils nothing = (refl, refl)

append-nils : (u v : Word) → [] ≡ u ++ v → (u ≡ []) × (v ≡ [])
append-nils [] v e = (refl, sym e)
append-nils (x ∷ u) v e = absurd (nil≢cons e)

-- both of two languages, or one in a choice
abbrev both : Operator → Bool → Bool → Bool
both sequence b c = b && c
both choice b c = b || c
both interleaving b c = b && c

joined-nullable : (o : Operator) (b c : Bool) (P Q : Language) → Tells b (P []) → Tells c (Q []) → Tells (both o b c) (Joined o P Q [])
joined-nullable sequence b c P Q f g =
    let t = tells-and b c f g in
    (λ e. let h = t.0 e in ([], [], refl, h.0, h.1), λ (u, v, e, p, q). let i = append-nils u v e in t.1 (subst P i.0 p, subst Q i.1 q))
joined-nullable choice b c P Q f g = tells-or b c f g
joined-nullable interleaving b c P Q f g =
    let t = tells-and b c f g in
    (λ e. let h = t.0 e in ([], [], nothing, h.0, h.1), λ (u, v, e, p, q). let i = shuffle-nils e in t.1 (subst P i.0 p, subst Q i.1 q))

marked-nullable : (m : Mark) (b : Bool) (A : Ty) → Tells b (Holds A []) → Tells (nullable_under m b) (Holds (marked_type m A) [])
marked-nullable Plain b A t = t
marked-nullable Optional b A t = (λ e. inl refl, λ h. refl)
marked-nullable Nonempty b A t = (λ e. absurd (false≢true e), λ h. absurd (h.1 refl))

counted-nullable : (k lo : ℕ) (hi : Upper) → Tells (eqb lo 0) (Holds (counted_type k lo hi) [])
counted-nullable k zero hi = (λ e. inl refl, λ h. refl)
counted-nullable k (suc lo) hi = rw (ne_eqb (suc lo) 0 (λ e. omega arith)) (λ e. absurd (false≢true e), λ h. absurd (omega (arith, h.1)))

-- the test of a group's first member and of the others
by_sign : (s : Sign) (x a b : Bool) → cond (is_choice s) (x || a) (x && b) ≡ both (operator s) x (cond (is_choice s) a b)
by_sign None x a b = refl
by_sign Sequence x a b = refl
by_sign Choice x a b = refl
by_sign Interleaving x a b = refl

neutral-nullable : (s : Sign) → Tells (cond (is_choice s) false true) (Neutral (operator s) [])
neutral-nullable None = (λ e. refl, λ h. refl)
neutral-nullable Sequence = (λ e. refl, λ h. refl)
neutral-nullable Choice = (λ e. absurd (false≢true e), λ h. absurd h)
neutral-nullable Interleaving = (λ e. refl, λ h. refl)

module _ (ν : Text → ℕ) where
  atom-nullable : (a : Spelling) → Tells (from_zero a.count) (Holds (meaning ν a) [])
  atom-nullable a = go a.count
    where
      go : (c : Count) → Tells (from_zero c) (Holds (counted_type (ν a.name) (counts_of c).min (counts_of c).max) [])
      go unwritten = counted-nullable (ν a.name) 1 (Number 1)
      go (between m n) = counted-nullable (ν a.name) (value m) (Number (value n))
      go (onward m) = counted-nullable (ν a.name) (value m) Unbounded

  abbrev members : Members Spelling → Sign → Bool
  members ts s = cond (is_choice s) (some_nullable ts) (all_nullable ts)

  mutual
    pub node-nullable : (n : Node Spelling) → Tells (node_nullable n) (Holds (node_type_with (meaning ν) n) [])
    node-nullable (leaf a) = atom-nullable a
    node-nullable (group s ts) = group-nullable ts s

    pub tree-nullable : (t : Syntax) → Tells (tree_nullable t) (Holds (type_with (meaning ν) t) [])
    tree-nullable (marked m n) = marked-nullable m (node_nullable n) (node_type_with (meaning ν) n) (node-nullable n)

    group-nullable : (ts : Members Spelling) (s : Sign) → Tells (group_nullable ts s) (Holds (node_type_with (meaning ν) (group s ts)) [])
    group-nullable none s = (λ e. refl, λ h. refl)
    group-nullable (t ▹ ts) s =
        let h = joined-nullable (operator s) (tree_nullable t) (members ts s) (Holds (type_with (meaning ν) t))
        (Together (operator s) (types_with (meaning ν) ts))
        (tree-nullable t) (members-nullable ts s) in
        let f = from-together (operator s) (type_with (meaning ν) t) (types_with (meaning ν) ts) [] in
        rw (by_sign s (tree_nullable t) (some_nullable ts) (all_nullable ts)) (λ e. f.1 (h.0 e), λ p. h.1 (f.0 p))

    members-nullable : (ts : Members Spelling) (s : Sign) → Tells (members ts s) (Together (operator s) (types_with (meaning ν) ts) [])
    members-nullable none s = neutral-nullable s
    members-nullable (t ▹ ts) s =
        rw (by_sign s (tree_nullable t) (some_nullable ts) (all_nullable ts))
        (joined-nullable (operator s) (tree_nullable t) (members ts s) (Holds (type_with (meaning ν) t)) (Together (operator s) (types_with (meaning ν) ts))
        (tree-nullable t) (members-nullable ts s))

fitting-nullable : (m : Mark) (b : Bool) → nullable_under (fitting m b) b ≡ nullable_under m b
fitting-nullable Plain b = refl
fitting-nullable Optional b = by-test b (λ e. rw e) (λ e. rw e)
fitting-nullable Nonempty b = by-test b (λ e. rw e) (λ e. rw e)

pub nil-nullable : (t : Syntax) → is_nil t ≡ true → tree_nullable t ≡ true
nil-nullable (marked m (leaf a)) e = absurd (false≢true e)
nil-nullable (marked m (group s none)) e = rw (is-plain m e)
nil-nullable (marked m (group s (t ▹ ts))) e = absurd (false≢true e)

pub marking-nullable : (m : Mark) (t : Syntax) → is_plain m ≡ false → tree_nullable (marking m t) ≡ is_nil t || nullable_under m (node_nullable (node_under t))
marking-nullable m (marked k n) p =
    by-test (is_nil (marked k n))
    (λ e. rw (p, e) (nil-nullable (marked k n) e))
    (λ e. rw (p, e) (fitting-nullable m (node_nullable n)))

-- where `()` is dropped, the empty row was held
dropped-nullable : (s : Sign) (t : Syntax) → is_nil (stripped s t) ≡ true → tree_nullable t ≡ true
dropped-nullable s t e =
    by-test (is_choice s)
    (λ c. nil-nullable t (sym (or-false (is_nil t)) ∙ sym (marking-nullable Nonempty t refl) ∙ nil-nullable (marking Nonempty t) (rw c at e)))
    (λ c. nil-nullable t (rw c at e))

pub some-nil : (s : Sign) (l : List Syntax) → some_nil (map (stripped s) l) ≡ true → any_nullable l ≡ true
some-nil s [] e = e
some-nil s (t ∷ l) e =
    by-test (is_nil (stripped s t)) (λ i. rw (dropped-nullable s t i)) (λ i. rw (some-nil s l (rw i at e), or-true))
