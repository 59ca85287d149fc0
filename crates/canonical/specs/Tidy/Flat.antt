-- Flattening leaves a neat tree as it is, and its marks fit: each node has an atom.
use mathlib.Core.{Path.◌≡◌, Path.refl, Path.ap₂, Bool.false, Bool.and-false}
use Rattle.std.specs.Prelude.{List, ◌∷◌, ◌≤◌}
use Rattle.std.proofs.Common.{arith}
use Rattle.fields.specs.Tests.{by-test}
use Rattle.model.specs.{declared.rule.Sign.Sign, declared.rule.Mark.Mark, declared.rule.Mark.TheVariants.Plain}
use Rattle.model.specs.Tree.{Node, leaf, group, marked, Members, none, ◌▹◌, size, node_weight, atoms, members_weight, is_plain}
use Rattle.model.specs.Tree.{NodeMarksFit, MarksFit, MembersMarksFit}
use Rattle.model.specs.Syntax.{Spelling, Syntax}
use Rattle.model.specs.Flatten.{is_choice, some_nil, gathered, over, flatten_node, flatten, flatten_all}
use Rattle.model.proofs.FlattenSolid.{Solid, SolidAll}
use Rattle.model.specs.{Mark.Laws.is-plain, Mark.Laws.atom-fits, Flatten.Append.grouped-several}
use Rattle.canonical.specs.{Neat.NeatNode, Neat.Neat, Neat.NeatAll, Tidy.Form.neat-not-nil, Tidy.Form.list_of}

mutual
  node-solid : (n : Node Spelling) → NeatNode n → Solid (marked Plain n)
  node-solid (leaf a) h = tt
  node-solid (group s ts) h = (h.0, all-solid ts s h.1)

  pub neat-solid : (t : Syntax) → Neat t → Solid t
  neat-solid (marked m n) h = node-solid n h.1

  all-solid : (ts : Members Spelling) (s : Sign) → NeatAll ts s → SolidAll ts s
  all-solid none s h = tt
  all-solid (t ▹ ts) s h = (neat-solid t h.0, h.1.0, all-solid ts s h.2)

none-nil : (s : Sign) (ts : Members Spelling) → NeatAll ts s → some_nil (list_of ts) ≡ false
none-nil s none h = refl
none-nil s (t ▹ ts) h = rw (neat-not-nil t h.0) (none-nil s ts h.2)

gathered-flat : (s : Sign) (ts : Members Spelling) → NeatAll ts s → gathered s (list_of ts) ≡ ts
gathered-flat s none h = refl
gathered-flat s (t ▹ ts) h = rw (neat-not-nil t h.0, h.1.0, gathered-flat s ts h.2) refl

over-flat : (m : Mark) (n : Node Spelling) → NeatNode n → over m (marked Plain n) ≡ marked m n
over-flat m n h = by-test (is_plain m) (λ p. rw (is-plain m p)) (λ p. rw (p, neat-not-nil (marked Plain n) (refl, h)))

mutual
  node-flat : (n : Node Spelling) → NeatNode n → flatten_node n ≡ marked Plain n
  node-flat (leaf a) h = refl
  node-flat (group s ts) h =
      rw (all-flat ts s h.1, none-nil s ts h.1, gathered-flat s ts h.1, and-false (is_choice s)) (grouped-several s ts h.0)

  pub neat-flat : (t : Syntax) → Neat t → flatten t ≡ t
  neat-flat (marked m n) h = rw (node-flat n h.1) (over-flat m n h.1)

  all-flat : (ts : Members Spelling) (s : Sign) → NeatAll ts s → flatten_all ts ≡ list_of ts
  all-flat none s h = refl
  all-flat (t ▹ ts) s h = ap₂ {C = List Syntax} (λ u l. u ∷ l) (neat-flat t h.0) (all-flat ts s h.2)

mutual
  node-atoms : (n : Node Spelling) → NeatNode n → 1 ≤ node_weight 1 0 n
  node-atoms (leaf a) h = omega arith
  node-atoms (group s ts) h = omega (arith, h.0, members-atoms ts s h.1)

  tree-atoms : (t : Syntax) → Neat t → 1 ≤ atoms t
  tree-atoms (marked m n) h = node-atoms n h.1

  members-atoms : (ts : Members Spelling) (s : Sign) → NeatAll ts s → size ts ≤ members_weight 1 0 ts
  members-atoms none s h = omega arith
  members-atoms (t ▹ ts) s h = omega (arith, tree-atoms t h.0, members-atoms ts s h.2)

mutual
  node-marks : (n : Node Spelling) → NeatNode n → NodeMarksFit n
  node-marks (leaf a) h = tt
  node-marks (group s ts) h = members-marks ts s h.1

  pub neat-marks : (t : Syntax) → Neat t → MarksFit t
  neat-marks (marked m n) h = (atom-fits m (node_weight 1 0 n) (node-atoms n h.1), node-marks n h.1)

  members-marks : (ts : Members Spelling) (s : Sign) → NeatAll ts s → MembersMarksFit ts
  members-marks none s h = tt
  members-marks (t ▹ ts) s h = (neat-marks t h.0, members-marks ts s h.2)
