-- The canonical text of an accepted model is accepted, and spells the canonical tree.
use mathlib.Core.{Path.◌≡◌, Path.refl, Path.sym, Path.ap, Path.◌∙◌, Path.subst, Logic.◌↔◌, Logic.⊎_elim, Logic.by_cases}
use Rattle.std.specs.Prelude.{false, ◌&&◌, ◌||◌, ℕ, zero, suc, ◌+◌, ◌*◌, ◌≤◌}
use mathlib.Core.List.{List, [], ◌∷◌, Memᴰ}
use native.Mathlib.{Decide.dec_le, Omega.arith}
use lib.{Dec.T, Dec.eqb, Dec.leb, Dec.ltb, ListN.length}
use Rattle.std.proofs.lemmas.Bool.{eqb-false}
use Rattle.std.proofs.Common.{le-ltb}
use Rattle.fields.specs.{Bytes.Text, Bytes.is_numeral, Bytes.value, Bytes.same_text, Bytes.Laws.same_text-is, Limits.max_name, Limits.max_count}
use Rattle.fields.specs.{Limits.max_nesting, Limits.max_nodes, Tests.by-test, Tests.neither}
use Rattle.model.specs.declared.rule.{Sign.Sign, Mark.TheVariants.Plain}
use Rattle.model.specs.Tree.{Node, leaf, group, marked, Members, none, ◌▹◌, size, node_weight, members_weight, atoms, nodes, nesting, Formed, MarksFit}
use Rattle.model.specs.Tree.Leaves.{formed-each, each-formed}
use Rattle.model.specs.Syntax.{Count, unwritten, between, onward, Spelling, Syntax, CountFormed, SpellingFormed, written_names}
use Rattle.model.specs.{Fault.wrong, Fault.accepted, Fault.Answers, Flatten.nil, Flatten.flatten}
use Rattle.model.proofs.FlattenSolid.{Solid, SolidAll}
use Rattle.model.specs.{Accept.Within}
use Rattle.model.proofs.AcceptLaws.{member-at, member-place, within-accepted, accepted-within}
use Rattle.judge.specs.Reading.Table.{Distinct}
use Rattle.canonical.specs.Tidy.{raised, tidy_count, tidy_atom, tidy, Form.tidy-neat, Flat.neat-solid, Flat.neat-marks, Formed.tidy-formed}
use Rattle.canonical.specs.Tidy.Leaves.{tidy-names, tidy-atoms}
use Rattle.canonical.specs.{Order.Smallest.occurs, Order.Smallest.occurs-here, Order.Smallest.occurs-in, Order.Smallest.SameNames}
use Rattle.canonical.specs.Order.Kept.{order-weight, order-nesting, order-names, order-formed}
use Rattle.canonical.specs.Canonical.{canonical, canonical_text, Fixed.canonical-tidy, Fixed.canonical-neat, Depth.solid-nesting}
use Rattle.canonical.specs.Canonical.Depth.{tidy-depth, canonical-depth}

-- what holds of each atom
module _ (P : Spelling → Type 0) (keeps : (a : Spelling) → P a → P (tidy_atom a)) where
  canonical-each : (t : Syntax) → Formed P t → Formed P (canonical t)
  canonical-each t h = subst (Formed P) (sym (canonical-tidy t)) (order-formed P (tidy t) (tidy-formed P keeps t h))

raised-numeral : (m : Text) → T (is_numeral m) → T (is_numeral (raised m))
raised-numeral m h = by-test (eqb (value m) 0) (λ e. rw e tt) (λ e. rw e h)

count-formed : (c : Count) → CountFormed c → CountFormed (tidy_count c)
count-formed unwritten h = tt
count-formed (between m n) h =
    by-test (leb (value m) 1 && eqb (value n) 1) (λ e. rw e tt) (λ e. rw e (raised-numeral m h.0, h.1))
count-formed (onward m) h = raised-numeral m h

pub canonical-formed : (t : Syntax) → Formed SpellingFormed t → Formed SpellingFormed (canonical t)
canonical-formed = canonical-each SpellingFormed (λ a h. (h.0, count-formed a.count h.1))

raised-right : (m : Text) → ltb max_count (value m) ≡ false → ltb max_count (value (raised m)) ≡ false
raised-right m h = by-test (eqb (value m) 0) (λ e. rw e refl) (λ e. rw e h)

raised_below : (m n : Text) → eqb (value n) 0 ≡ false → ltb (value n) (value m) ≡ false → ltb (value n) (value (raised m)) ≡ false
raised_below m n z h =
    by-test (eqb (value m) 0) (λ e. rw e (le-ltb (value n) 1 (some (value n) z))) (λ e. rw e h)
  where
    some : (k : ℕ) → eqb k 0 ≡ false → 1 ≤ k
    some zero e = absurd (eqb-false 0 0 e refl)
    some (suc k) e = omega arith

count-right : (c : Count) → wrong c ≡ false → wrong (tidy_count c) ≡ false
count-right unwritten h = refl
count-right (between m n) h =
    let i = neither (eqb (value n) 0 || ltb (value n) (value m) || ltb max_count (value m)) (ltb max_count (value n)) h in
    let j = neither (eqb (value n) 0 || ltb (value n) (value m)) (ltb max_count (value m)) i.0 in
    let k = neither (eqb (value n) 0) (ltb (value n) (value m)) j.0 in
    by-test (leb (value m) 1 && eqb (value n) 1)
    (λ e. rw e refl)
    (λ e. rw (e, k.0, raised_below m n k.0 k.1, raised-right m j.1, i.1) refl)
count-right (onward m) h = raised-right m h

-- of an atom within the limits
pub record Fine (a : Spelling) : Type 0 where
  pub formed : SpellingFormed a
  pub short : length a.name ≤ max_name
  pub right : wrong a.count ≡ false

tidy-fine : (a : Spelling) → Fine a → Fine (tidy_atom a)
tidy-fine a h = record {
  formed = (h.formed.0, count-formed a.count h.formed.1);
  short = h.short;
  right = count-right a.count h.right;
}

-- atoms and nodes
pub canonical-atoms : (t : Syntax) → atoms (canonical t) ≡ atoms t
canonical-atoms t = ap atoms (canonical-tidy t) ∙ order-weight 1 0 (tidy t) ∙ tidy-atoms t

mutual
  node-nodes : (n : Node Spelling) → Solid (marked Plain n) → suc (node_weight 1 1 n) ≤ 2 * node_weight 1 0 n
  node-nodes (leaf a) h = omega arith
  node-nodes (group s ts) h = omega (arith, all-nodes ts s h.1, h.0)

  solid-nodes : (t : Syntax) → Solid t → suc (nodes t) ≤ 2 * atoms t
  solid-nodes (marked m n) h = node-nodes n h

  all-nodes : (ts : Members Spelling) (s : Sign) → SolidAll ts s → members_weight 1 1 ts + size ts ≤ 2 * members_weight 1 0 ts
  all-nodes none s h = omega arith
  all-nodes (t ▹ ts) s h = omega (arith, solid-nodes t h.0, all-nodes ts s h.2)

pub canonical-nil : (t : Syntax) → (canonical t ≡ nil) ↔ (atoms t ≡ 0)
canonical-nil t = (
  λ e. sym (canonical-atoms t) ∙ ap atoms e,
  λ z. ⊎_elim (λ e. e) (λ h. absurd (omega (arith, solid-nodes (canonical t) (neat-solid (canonical t) h), canonical-atoms t, z))) (canonical-neat t),
)

-- names are distinct where none occurs twice
distinct-once : (l : List Text) → Distinct l → (x : Text) → occurs x l ≤ 1
distinct-once [] f x = omega arith
distinct-once (y ∷ l) f x =
    let k = distinct-once l (λ i j h b e. f (suc i) (suc j) (omega arith) (omega arith) e) x in
    by-test (same_text y x)
    (λ e. by_cases (dec_le 1 (occurs x l))
    (λ h.
    let m = member-place [] (occurs-in x l h) in
    absurd (f 0 (suc m.0) (omega arith) (omega (arith, m.1)) ((same_text-is y x).0 e ∙ sym m.2)))
    (λ h. rw e (omega arith)))
    (λ e. rw e (omega (arith, k)))

once-distinct : (l : List Text) → ((x : Text) → occurs x l ≤ 1) → Distinct l
once-distinct [] f i j h b e = omega arith
once-distinct (y ∷ l) f i zero h b e = omega arith
once-distinct (y ∷ l) f zero (suc j) h b e =
    let m : Memᴰ y l = subst (λ (x : Text). Memᴰ x l) (sym e) (member-at [] l j (omega arith)) in
    let k : 1 + occurs y l ≤ 1 = rw ((same_text-is y y).1 refl) at (f y) in
    omega (arith, k, occurs-here y l m)
once-distinct (y ∷ l) f (suc i) (suc j) h b e =
    once-distinct l (λ x. by-test (same_text y x) (λ s. omega (arith, rw s at (f x))) (λ s. omega (arith, rw s at (f x)))) i j (omega arith) (omega arith) e

pub canonical-names : (t : Syntax) → SameNames (written_names (canonical t)) (written_names t)
canonical-names t x = ap (λ (u : Syntax). occurs x (written_names u)) (canonical-tidy t) ∙ order-names (tidy t) x ∙ ap (occurs x) (tidy-names t)

module _ (t : Syntax) (formed : Formed SpellingFormed t) (within : Within t) where
  each-fine : Formed Fine (canonical t)
  each-fine =
      canonical-each Fine tidy-fine t (formed-each Fine SpellingFormed t formed
      (λ a m. record { formed = each-formed SpellingFormed t formed a m; short = within.short a m; right = within.right a m }))

  few_brackets : nesting (canonical t) ≤ max_nesting
  few_brackets =
      ⊎_elim (λ e. rw e (omega arith))
      (λ h. omega (arith, order-nesting (tidy (flatten t)), solid-nesting (tidy (flatten t)) (neat-solid (tidy (flatten t)) h), tidy-depth t, within.shallow))
      (tidy-neat (flatten t))

  few_nodes : nodes (canonical t) ≤ max_nodes
  few_nodes =
      ⊎_elim (λ e. rw e (omega arith))
      (λ h. omega (arith, solid-nodes (canonical t) (neat-solid (canonical t) h), canonical-atoms t, within.few_atoms))
      (canonical-neat t)

  marks : MarksFit (canonical t)
  marks = ⊎_elim (λ e. rw e (refl, tt)) (neat-marks (canonical t)) (canonical-neat t)

  few-times : (x : Text) → occurs x (written_names (canonical t)) ≤ 1
  few-times x = omega (arith, canonical-names t x, distinct-once (written_names t) within.apart x)

pub canonical-within : (t : Syntax) → Formed SpellingFormed t → Within t → Within (canonical t)
canonical-within t h w = record {
  short = λ a m. (each-formed Fine (canonical t) (each-fine t h w) a m).short;
  right = λ a m. (each-formed Fine (canonical t) (each-fine t h w) a m).right;
  few_brackets = few_brackets t h w;
  shallow = omega (arith, canonical-depth t, w.shallow);
  few_atoms = omega (arith, canonical-atoms t, w.few_atoms);
  few_nodes = few_nodes t h w;
  marks = marks t h w;
  apart = once-distinct (written_names (canonical t)) (few-times t h w);
}

pub canonical-accepted : (x : Text) (t : Syntax) → Answers x (accepted t) → Answers (canonical_text t) (accepted (canonical t))
canonical-accepted x t a =
    let h = a.1.formed in
    within-accepted (canonical t) (canonical-formed t h) (canonical-within t h (accepted-within x t a))
