-- What flattening leaves: `()`, or a tree in which no group has fewer than two members and none could join the group around it.
use mathlib.Core.{Path.◌≡◌, Path.refl, Path.subst, Logic.◌⊎◌, Logic.inl, Logic.inr, Logic.⊎_elim, Bool.false, Bool.◌||◌, Bool.or-true}
use Rattle.std.specs.Prelude.{List, [], ◌∷◌, ◌≤◌}
use Rattle.std.proofs.Common.{arith}
use Rattle.fields.specs.Tests.{by-test}
use Rattle.model.specs.{declared.rule.Sign.Sign, declared.rule.Mark.Mark}
use Rattle.model.specs.Tree.{Node, leaf, group, Tree, marked, Members, none, ◌▹◌, size, is_plain}
use Rattle.model.specs.Flatten.{◌⧺◌, nil, is_nil, some_nil, merges, members_of, with_member, gathered, grouped, over, dropped_mark}
use Rattle.model.specs.Flatten.{flatten_node, flatten, flatten_all}
use Rattle.model.specs.Flatten.Merges.{merged}

module _ {A : Type 0} where
  abbrev mutual
    SolidNode : Node A → Type 0
    SolidNode (leaf a) = Unit {0}
    SolidNode (group s ts) = (2 ≤ size ts) × SolidAll ts s

    pub Solid : Tree A → Type 0
    Solid (marked m n) = SolidNode n

    pub SolidAll : Members A → Sign → Type 0
    SolidAll none s = Unit {0}
    SolidAll (t ▹ ts) s = Solid t × (merges s t ≡ false) × SolidAll ts s

  abbrev pub Flattened : Tree A → Type 0
  Flattened t = (t ≡ nil) ⊎ Solid t

  abbrev pub AllFlattened : List (Tree A) → Type 0
  AllFlattened [] = Unit {0}
  AllFlattened (t ∷ l) = Flattened t × AllFlattened l

  pub solid-not-nil : (t : Tree A) → Solid t → is_nil t ≡ false
  solid-not-nil (marked m (leaf a)) h = refl
  solid-not-nil (marked m (group s none)) h = absurd (omega (arith, h.0))
  solid-not-nil (marked m (group s (t ▹ ts))) h = refl

  pub solid-append : (ts us : Members A) (s : Sign) → SolidAll ts s → SolidAll us s → SolidAll (ts ⧺ us) s
  solid-append none us s h k = k
  solid-append (t ▹ ts) us s h k = (h.0, h.1, solid-append ts us s h.2 k)

  with-solid : (s : Sign) (t : Tree A) (us : Members A) → Solid t → SolidAll us s → SolidAll (with_member s t us) s
  with-solid s t us h k =
      by-test (merges s t) (λ e. rw e (solid-append (members_of t) us s (subst Solid (merged s t e) h).1 k)) (λ e. rw e (h, e, k))

  pub gathered-solid : (s : Sign) (l : List (Tree A)) → AllFlattened l → SolidAll (gathered s l) s
  gathered-solid s [] h = tt
  gathered-solid s (t ∷ l) h =
      let k = gathered-solid s l h.1 in
      ⊎_elim (λ e. rw e k) (λ i. rw (solid-not-nil t i) (with-solid s t (gathered s l) i k)) h.0

  pub grouped-flattened : (s : Sign) (ts : Members A) → SolidAll ts s → Flattened (grouped s ts)
  grouped-flattened s none h = inl refl
  grouped-flattened s (t ▹ none) h = inr h.0
  grouped-flattened s (t ▹ u ▹ ts) h = inr (omega arith, h)

  over-flattened : (m : Mark) (t : Tree A) → Flattened t → Flattened (over m t)
  over-flattened m t (inl e) = inl (rw (e, or-true))
  over-flattened m (marked k n) (inr h) = inr (by-test (is_plain m || is_nil (marked k n)) (λ e. rw e h) (λ e. rw e h))

  mutual
    pub node-flattened : (n : Node A) → Flattened (flatten_node n)
    node-flattened (leaf a) = inr tt
    node-flattened (group s ts) =
        over-flattened (dropped_mark s (some_nil (flatten_all ts))) (grouped s (gathered s (flatten_all ts)))
        (grouped-flattened s (gathered s (flatten_all ts)) (gathered-solid s (flatten_all ts) (all-flattened ts)))

    pub tree-flattened : (t : Tree A) → Flattened (flatten t)
    tree-flattened (marked m n) = over-flattened m (flatten_node n) (node-flattened n)

    pub all-flattened : (ts : Members A) → AllFlattened (flatten_all ts)
    all-flattened none = tt
    all-flattened (t ▹ ts) = (tree-flattened t, all-flattened ts)
