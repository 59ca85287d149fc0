-- The pass finds the depth: what it keeps of a model's nodes is what can be seen of the flattened trees.
use mathlib.Core.{Path.◌≡◌, Path.refl, Path.ap, Path.ap₂, Path.sym, Path.◌∙◌, Path.subst, Logic.⊎_elim, Logic.inl, Logic.inr}
use Rattle.std.specs.Prelude.{Bool, true, false, cond, not, ◌&&◌, ◌||◌, List, [], ◌∷◌, map, ℕ, suc, ◌+◌, ◌≤◌, max, min}
use Rattle.std.proofs.Math.Bool.{and-false, or-true}
use Rattle.std.proofs.Common.{arith, lt-ltb, eq-eqb}
use lib.{ListN.get_or}
use Rattle.fields.specs.{Tests.by-test, Limits.max_nesting}
use Rattle.model.specs.{declared.rule.Sign.Sign, declared.rule.Mark.Mark}
use Rattle.model.specs.{declared.depth.Flat.Flat, Rule.rule_of}
use Rattle.model.specs.declared.rule.Sign.TheVariants.{None}
use Rattle.model.specs.declared.rule.Mark.TheVariants.{Plain}
use Rattle.model.specs.Tree.{Node, leaf, group, marked, Members, none, ◌▹◌, size, atoms, is_plain}
use Rattle.model.specs.Flatten.{sign_number, ◌⧺◌, is_nil, some_nil, merges, members_of, gathered, grouped, over, dropped_mark}
use Rattle.model.specs.Flatten.{flatten_node, flatten, flatten_all, depth}
use Rattle.model.proofs.FlattenSolid.{Solid, SolidAll, Flattened, AllFlattened, solid-not-nil, solid-append, gathered-solid, grouped-flattened}
use Rattle.model.specs.Flatten.{Merges.merged}
use Rattle.model.proofs.FlattenSolid.{node-flattened, all-flattened}
use Rattle.model.specs.Flatten.Append.{append-none, append-size, grouped-several}
use Rattle.model.specs.{Syntax.Syntax, Model.counts_of, Model.model_of, Flatten.Map.depth-map}
use Rattle.model.proofs.FlattenDepth.{deepest, deepest_of, deepest-append, deepest-first, group-deepest}
use Rattle.model.specs.{Rule.Laws.rule-eval, Model.Counts, Model.Model, Model.fold, Model.fold_node, Model.fold_all}
use Rattle.model.specs.Depth.{nil_flat, merges_by, brings_by, beside_by, gathered_by, some_empty, over_by, group_by, flat_by}
use Rattle.model.specs.Depth.{rule_depth}

-- what is kept of a tree
abbrev mark_in : Model → Mark
mark_in (marked m n) = m

abbrev sign_under : Model → Sign
sign_under (marked m (leaf c)) = None
sign_under (marked m (group s ts)) = s

abbrev kept : Model → Flat
kept t = record { sign = sign_under t; marked = not (is_plain (mark_in t)); empty = is_nil t; depth = min (max_nesting + 1) (deepest t) }

-- only groups have a depth
same : (b : Bool) → not (not b) && true ≡ b
same true = refl
same false = refl

merges-kept : (s : Sign) (t : Model) → Solid t → merges_by s (kept t) ≡ merges s t
merges-kept s (marked m (leaf c)) h = rw (and-false, and-false)
merges-kept s (marked m (group r ts)) h =
    rw (lt-ltb 0 (min (max_nesting + 1) (deepest (marked m (group r ts)))) (omega (arith, group-deepest m r ts h)), same (is_plain m))

-- what a member brings into a group
abbrev brought : Sign → Model → Members Counts
brought s t = cond (merges s t) (members_of t) (t ▹ none)

gathered-more : (s : Sign) (t : Model) (l : List Model) → Solid t → gathered s (t ∷ l) ≡ brought s t ⧺ gathered s l
gathered-more s t l h = rw (solid-not-nil t h) (by-test (merges s t) (λ e. rw e) (λ e. rw e))

brought-solid : (s : Sign) (t : Model) → Solid t → SolidAll (brought s t) s × (1 ≤ size (brought s t))
brought-solid s t h =
    by-test (merges s t)
    (λ e. let k = subst Solid (merged s t e) h in rw e (k.1, omega (arith, k.0)))
    (λ e. rw e ((h, e, tt), omega arith))

brings-kept : (s : Sign) (t : Model) → Solid t → min max_nesting (brings_by s (kept t)) ≡ min max_nesting (deepest_of (brought s t))
brings-kept s t h =
    by-test (merges s t)
    (λ e. let d : deepest t ≡ suc (deepest_of (members_of t)) =
    ap deepest (merged s t e) ∙ group-deepest Plain s (members_of t) (subst Solid (merged s t e) h) in
    rw (merges-kept s t h, e) (omega (arith, d)))
    (λ e. rw (merges-kept s t h, e) (omega (arith, deepest-first t none)))

-- groups of two members or more
kept-group : (s : Sign) (ts : Members Counts) → 2 ≤ size ts → SolidAll ts s
    → kept (grouped s ts) ≡ record { sign = s; marked = false; empty = false; depth = min max_nesting (deepest_of ts) + 1 }
kept-group s ts h k =
    let d = group-deepest Plain s ts (h, k) in
    let e : min (max_nesting + 1) (deepest (marked Plain (group s ts))) ≡ min max_nesting (deepest_of ts) + 1 = omega (arith, d) in
    rw (grouped-several s ts h, e, solid-not-nil (marked Plain (group s ts)) (h, k))

-- some members make a group, which brings them all
some-not-nil : (s : Sign) (u : Model) (us : Members Counts) → SolidAll (u ▹ us) s → is_nil (grouped s (u ▹ us)) ≡ false
some-not-nil s u none h = solid-not-nil u h.0
some-not-nil s u (v ▹ us) h = refl

brings-all : (s : Sign) (u : Model) (us : Members Counts) → SolidAll (u ▹ us) s
    → min max_nesting (brings_by s (kept (grouped s (u ▹ us)))) ≡ min max_nesting (deepest_of (u ▹ us))
brings-all s u none h = brings-kept s u h.0 ∙ rw h.1
brings-all s u (v ▹ us) h =
    let ts = u ▹ v ▹ us in
    let e : merges s (marked Plain (group s ts)) ≡ true = rw (eq-eqb (sign_number s) (sign_number s) refl) in
    brings-kept s (marked Plain (group s ts)) (omega arith, h) ∙ rw e

cap-max : (n a b : ℕ) → min n (max a b) ≡ max (min n a) (min n b)
cap-max n a b = omega arith

beside-nil : (s : Sign) (x : Flat) → x.empty ≡ false → beside_by s x nil_flat ≡ x
beside-nil s x e = rw e

beside-kept : (s : Sign) (t : Model) (us : Members Counts) → Solid t → SolidAll us s
    → kept (grouped s (brought s t ⧺ us)) ≡ beside_by s (kept t) (kept (grouped s us))
beside-kept s t none h k = ap kept alone ∙ sym (beside-nil s (kept t) (solid-not-nil t h))
  where
    alone : grouped s (brought s t ⧺ none) ≡ t
    alone =
        by-test (merges s t)
        (λ e. rw (e, append-none (members_of t)) (grouped-several s (members_of t) (subst Solid (merged s t e) h).0 ∙ sym (merged s t e)))
        (λ e. rw e)
beside-kept s t (u ▹ us) h k =
    let b = brought-solid s t h in
    let n : 2 ≤ size (brought s t ⧺ (u ▹ us)) = omega (arith, append-size (brought s t) (u ▹ us), b.1) in
    rw (solid-not-nil t h, some-not-nil s u us k)
    (kept-group s (brought s t ⧺ (u ▹ us)) n (solid-append (brought s t) (u ▹ us) s b.0 k)
    ∙ rw (
      deepest-append (brought s t) (u ▹ us),
      cap-max max_nesting (deepest_of (brought s t)) (deepest_of (u ▹ us)),
      cap-max max_nesting (brings_by s (kept t)) (brings_by s (kept (grouped s (u ▹ us)))),
      brings-kept s t h,
      brings-all s u us k,
    ))

gathered-kept : (s : Sign) (l : List Model) → AllFlattened l → gathered_by s (map kept l) ≡ kept (grouped s (gathered s l))
gathered-kept s [] h = refl
gathered-kept s (t ∷ l) h =
    let rest = gathered-kept s l h.1 in
    let made : Members Counts → Flat = λ ts. kept (grouped s ts) in
    ⊎_elim (λ e. rw e rest)
    (λ k. rw rest (sym (ap made (gathered-more s t l k) ∙ beside-kept s t (gathered s l) k (gathered-solid s l h.1))))
    h.0

some-empty : (l : List Model) → some_empty (map kept l) ≡ some_nil l
some-empty [] = refl
some-empty (t ∷ l) = ap (λ b. is_nil t || b) (some-empty l)

over-kept : (m : Mark) (t : Model) → Flattened t → over_by m (kept t) ≡ kept (over m t)
over-kept m t (inl e) = rw (e, or-true) (by-test (is_plain m) (λ p. rw p) (λ p. rw p))
over-kept m (marked k (leaf c)) (inr h) = by-test (is_plain m) (λ p. rw p) (λ p. rw p (rw p))
over-kept m (marked k (group s none)) (inr h) = absurd (omega (arith, h.0))
over-kept m (marked k (group s (t ▹ ts))) (inr h) = by-test (is_plain m) (λ p. rw p) (λ p. rw p (rw p))

group-kept : (s : Sign) (l : List Model) → AllFlattened l → group_by s (map kept l) ≡ kept (over (dropped_mark s (some_nil l)) (grouped s (gathered s l)))
group-kept s l h =
    rw (some-empty l, gathered-kept s l h)
    (over-kept (dropped_mark s (some_nil l)) (grouped s (gathered s l)) (grouped-flattened s (gathered s l) (gathered-solid s l h)))

mutual
  node_kept : (n : Node Counts) (k : ℕ) → fold_node flat_by n k ≡ kept (flatten_node n)
  node_kept (leaf c) k = refl
  node_kept (group s ts) k = rw (all-kept ts k) (group-kept s (flatten_all ts) (all-flattened ts))

  tree-kept : (t : Model) (k : ℕ) → fold flat_by t k ≡ kept (flatten t)
  tree-kept (marked m n) k = rw (node_kept n k) (over-kept m (flatten_node n) (node-flattened n))

  all-kept : (ts : Members Counts) (k : ℕ) → fold_all flat_by ts k ≡ map kept (flatten_all ts)
  all-kept none k = refl
  all-kept (t ▹ ts) k = ap₂ {C = List Flat} (λ x l. x ∷ l) (tree-kept t k) (all-kept ts (k + atoms t))

pub depth_is : (t : Model) → rule_depth (rule_of t) ≡ min (max_nesting + 1) (depth t)
depth_is t = ap (λ l. (get_or l 0 nil_flat).depth) (rule-eval flat_by t 0) ∙ ap (λ x. x.depth) (tree-kept t 0)

-- of a text's tree
pub text-depth : (t : Syntax) → rule_depth (rule_of (model_of t)) ≡ min (max_nesting + 1) (depth t)
text-depth t = depth_is (model_of t) ∙ ap (min (max_nesting + 1)) (depth-map (λ a. counts_of a.count) t)
