-- Tidying keeps the signs fit for the sizes of groups, and what holds of each atom if tidying an atom keeps it.
use mathlib.Core.{Path.◌≡◌, Path.refl, Path.subst, Logic.inl, Logic.inr, Bool.◌||◌}
use Rattle.std.specs.Prelude.{List, [], ◌∷◌, map, ◌≤◌, length}
use Rattle.std.proofs.Common.{arith}
use Rattle.fields.specs.Tests.{by-test}
use Rattle.model.specs.{declared.rule.Sign.Sign, declared.rule.Mark.Mark}
use Rattle.model.specs.declared.rule.Sign.TheVariants.{None, Sequence, Choice, Interleaving}
use Rattle.model.specs.declared.rule.Mark.TheVariants.{Nonempty}
use Rattle.model.specs.Tree.{Node, leaf, group, marked, Members, none, ◌▹◌, size, is_plain, SignFits, NodeFormed, Formed, MembersFormed}
use Rattle.model.specs.Syntax.{Spelling, Syntax}
use Rattle.model.specs.Flatten.{is_choice, is_nil, merges, members_of, gathered, grouped, dropped_mark, ◌⧺◌, Merges.merged}
use Rattle.canonical.specs.Tidy.{tidy_atom, marking, stripped, any_nullable, tidy_node, tidy, tidy_all}
use Rattle.canonical.specs.{Neat.Neat, Tidy.Form.AllNeatOrNil, Tidy.Form.neat-not-nil, Tidy.Form.all-tidied}

tidied-length : (ts : Members Spelling) → length (tidy_all ts) ≡ size ts
tidied-length none = refl
tidied-length (t ▹ ts) = omega (arith, tidied-length ts)

module _ (P : Spelling → Type 0) where
  abbrev AllFormed : List Syntax → Type 0
  AllFormed [] = Unit {0}
  AllFormed (t ∷ l) = Formed P t × AllFormed l

  append-formed : (ts us : Members Spelling) → MembersFormed P ts → MembersFormed P us → MembersFormed P (ts ⧺ us)
  append-formed none us h k = k
  append-formed (t ▹ ts) us h k = (h.0, append-formed ts us h.1 k)

  within-formed : (t : Syntax) → Formed P t → MembersFormed P (members_of t)
  within-formed (marked m (leaf a)) h = tt
  within-formed (marked m (group s ts)) h = h.1

  marking-formed : (m : Mark) (t : Syntax) → Formed P t → Formed P (marking m t)
  marking-formed m (marked k n) h = by-test (is_plain m || is_nil (marked k n)) (λ e. rw e h) (λ e. rw e h)

  stripped-formed : (s : Sign) (l : List Syntax) → AllFormed l → AllFormed (map (stripped s) l)
  stripped-formed s [] h = tt
  stripped-formed s (t ∷ l) h =
      (by-test (is_choice s) (λ c. rw c (marking-formed Nonempty t h.0)) (λ c. rw c h.0), stripped-formed s l h.1)

  gathered-formed : (s : Sign) (l : List Syntax) → AllFormed l → MembersFormed P (gathered s l)
  gathered-formed s [] h = tt
  gathered-formed s (t ∷ l) h =
      let k = gathered-formed s l h.1 in
      by-test (is_nil t)
      (λ e. rw e k)
      (λ e. by-test (merges s t)
      (λ j. rw (e, j) (append-formed (members_of t) (gathered s l) (within-formed t h.0) k))
      (λ j. rw (e, j) (h.0, k)))

  -- a bracket around one member is never kept
  one_kept : (t : Syntax) → Neat t → Formed P t → size (gathered None (t ∷ [])) ≤ 1
  one_kept t n h =
      rw (neat-not-nil t n) (by-test (merges None t)
      (λ e. let p = merged None t e in absurd (omega (arith, (subst Neat p n).1.0, (subst (Formed P) p h).0)))
      (λ e. rw e (omega arith)))

  few-kept : (l : List Syntax) → length l ≤ 1 → AllNeatOrNil l → AllFormed l → size (gathered None (map (stripped None) l)) ≤ 1
  few-kept [] k n h = omega arith
  few-kept (t ∷ []) k (inl e, n) h = rw e (omega arith)
  few-kept (t ∷ []) k (inr e, n) h = one_kept t e h.0
  few-kept (t ∷ u ∷ l) k n h = absurd (omega arith)

  sign_fits-is : (s : Sign) (l : List Syntax) → SignFits s (length l) → AllNeatOrNil l → AllFormed l
      → 2 ≤ size (gathered s (map (stripped s) l)) → SignFits s (size (gathered s (map (stripped s) l)))
  sign_fits-is None l k n h e = few-kept l k n h
  sign_fits-is Sequence l k n h e = e
  sign_fits-is Choice l k n h e = e
  sign_fits-is Interleaving l k n h e = e

  grouped-formed : (s : Sign) (ts : Members Spelling) → MembersFormed P ts → (2 ≤ size ts → SignFits s (size ts)) → Formed P (grouped s ts)
  grouped-formed s none h k = (omega arith, tt)
  grouped-formed s (t ▹ none) h k = h.0
  grouped-formed s (t ▹ u ▹ ts) h k = (k (omega arith), h)

  module _ (keeps : (a : Spelling) → P a → P (tidy_atom a)) where
    mutual
      node-formed : (n : Node Spelling) → NodeFormed P n → Formed P (tidy_node n)
      node-formed (leaf a) h = keeps a h
      node-formed (group s ts) h =
          let l = tidy_all ts in
          let i = all-formed ts h.1 in
          let k = map (stripped s) l in
          let e : SignFits s (length l) = rw (tidied-length ts) h.0 in
          marking-formed (dropped_mark s (any_nullable l)) (grouped s (gathered s k))
          (grouped-formed s (gathered s k) (gathered-formed s k (stripped-formed s l i)) (sign_fits-is s l e (all-tidied ts) i))

      pub tidy-formed : (t : Syntax) → Formed P t → Formed P (tidy t)
      tidy-formed (marked m n) h = marking-formed m (tidy_node n) (node-formed n h)

      all-formed : (ts : Members Spelling) → MembersFormed P ts → AllFormed (tidy_all ts)
      all-formed none h = tt
      all-formed (t ▹ ts) h = (tidy-formed t h.0, all-formed ts h.1)
