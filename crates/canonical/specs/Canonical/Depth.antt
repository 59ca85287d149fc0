-- The canonical tree is no deeper: tidying takes groups away from around an atom, and never puts one there.
use mathlib.Core.{Path.◌≡◌, Path.refl, Path.sym, Path.ap, Path.ap₂, Path.◌∙◌, Logic.⊎_elim}
use Rattle.std.specs.Prelude.{List, [], ◌∷◌, map, suc, ◌≤◌, max}
use Rattle.std.proofs.Common.{arith}
use Rattle.fields.specs.Tests.{by-test}
use Rattle.model.specs.{declared.rule.Sign.Sign, declared.rule.Mark.Mark}
use Rattle.model.specs.declared.rule.Mark.TheVariants.{Plain, Nonempty}
use Rattle.model.specs.Tree.{Node, leaf, group, marked, Members, none, ◌▹◌, node_nesting, nesting, members_nesting}
use Rattle.model.specs.Syntax.{Spelling, Syntax}
use Rattle.model.specs.Flatten.{is_choice, gathered, grouped, dropped_mark, flatten, depth}
use Rattle.model.proofs.FlattenSolid.{Solid, SolidAll, tree-flattened}
use Rattle.model.proofs.FlattenDepth.{deepest, deepest_of, deepest_in, deepest-first, group-deepest, gathered-inside, grouped-inside, no_deeper}
use Rattle.canonical.specs.Tidy.{marking, stripped, any_nullable, settled_group, tidy_node, tidy, tidy_all, Form.tidy-neat, Flat.neat-solid}
use Rattle.canonical.specs.Tidy.Leaves.{marking-kept}
use Rattle.canonical.specs.{Order.Kept.order-nesting, Canonical.canonical}

-- where each group has an atom, brackets are groups around an atom
mutual
  node-nesting : (n : Node Spelling) → Solid (marked Plain n) → node_nesting n ≡ deepest (marked Plain n)
  node-nesting (leaf a) h = refl
  node-nesting (group s ts) h = ap suc (all-nesting ts s h.1) ∙ sym (group-deepest Plain s ts h)

  pub solid-nesting : (t : Syntax) → Solid t → nesting t ≡ deepest t
  solid-nesting (marked m n) h = node-nesting n h

  all-nesting : (ts : Members Spelling) (s : Sign) → SolidAll ts s → members_nesting ts ≡ deepest_of ts
  all-nesting none s h = refl
  all-nesting (t ▹ ts) s h = omega (arith, solid-nesting t h.0, all-nesting ts s h.2, deepest-first t ts)

-- tidying
marking-inside : (m : Mark) (t : Syntax) → deepest (marking m t) ≡ deepest t
marking-inside = marking-kept deepest (λ j k n. refl)

stripped-inside : (s : Sign) (l : List Syntax) → deepest_in (map (stripped s) l) ≡ deepest_in l
stripped-inside s [] = refl
stripped-inside s (t ∷ l) =
    ap₂ max (by-test (is_choice s) (λ c. rw c (marking-inside Nonempty t)) (λ c. rw c)) (stripped-inside s l)

settled-inside : (s : Sign) (l : List Syntax) → deepest (settled_group s l) ≤ suc (deepest_in l)
settled-inside s l =
    let k = map (stripped s) l in
    let g = gathered s k in
    omega (arith, marking-inside (dropped_mark s (any_nullable l)) (grouped s g), grouped-inside s g, gathered-inside s k, stripped-inside s l)

mutual
  node-inside : (n : Node Spelling) → Solid (marked Plain n) → deepest (tidy_node n) ≤ deepest (marked Plain n)
  node-inside (leaf a) h = omega arith
  node-inside (group s ts) h = omega (arith, settled-inside s (tidy_all ts), all-inside ts s h.1, group-deepest Plain s ts h)

  tidy-inside : (t : Syntax) → Solid t → deepest (tidy t) ≤ deepest t
  tidy-inside (marked m n) h = omega (arith, marking-inside m (tidy_node n), node-inside n h)

  all-inside : (ts : Members Spelling) (s : Sign) → SolidAll ts s → deepest_in (tidy_all ts) ≤ deepest_of ts
  all-inside none s h = omega arith
  all-inside (t ▹ ts) s h = omega (arith, tidy-inside t h.0, all-inside ts s h.2, deepest-first t ts)

pub tidy-depth : (t : Syntax) → deepest (tidy (flatten t)) ≤ depth t
tidy-depth t = ⊎_elim (λ e. rw e (omega arith)) (tidy-inside (flatten t)) (tree-flattened t)

pub canonical-depth : (t : Syntax) → depth (canonical t) ≤ depth t
canonical-depth t =
    let u = tidy (flatten t) in
    ⊎_elim (λ e. rw e (omega arith))
    (λ h. omega (arith, no_deeper (canonical t), order-nesting u, solid-nesting u (neat-solid u h), tidy-depth t)) (tidy-neat (flatten t))
