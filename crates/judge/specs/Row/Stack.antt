-- A pass over nodes, from the last to the first, with a stack that grows down in an array: it computes what an algebra gives (`Model.eval`). A node
-- begins with none of its members, and takes them from the stack one by one.
use mathlib.Core.{Path.◌≡◌, Path.sym, Path.ap, Path.◌∙◌, Logic.by_cases, Bool.Bool, List.List, List.[], List.◌∷◌, List.◌++◌}
use Rattle.std.specs.Prelude.{ℕ, suc, ◌+◌, ◌-◌, ◌<◌, ◌≤◌, min, length, get_or, take, drop, ◌==◌, slice_index, slice_index_or, slice_range, slice_set}
use native.Mathlib.{Nat.add_comm, Decide.dec_lt, Omega.arith}
use Rattle.std.proofs.Common.{length-set, length-drop, drop_of_length-le, drop-set-lt, get_or-set_other, take-suc, drop-cons, take_all, get_or-drop}
use Rattle.std.proofs.Common.{length-take-le, eq-eqb, ne_eqb}
use Rattle.model.specs.{declared.rule.Upper.Upper, declared.rule.Sign.Sign, declared.rule.Mark.Mark, declared.rule.Kind.Kind, declared.rule.Node.Node}
use Rattle.model.specs.{Rule.rule_with, Rule.used, Rule.Laws.used-with, Model.Eval.after_is, Model.Eval.atoms-next}
use Rattle.model.specs.declared.rule.Kind.TheVariants.{Atom, Group}
use Rattle.model.specs.Model.{Algebra, after, needed, eval_step, eval, atoms_in, is_atom}
use Rattle.judge.specs.{Packed.node_in, Packed.seen_in, Reading.Buffer.Stores, Reading.Buffer.holds-count, Reading.Buffer.holds_at}
use Rattle.fields.specs.{Limits.max_nodes, Stack.drop-back, Stack.first-entries, Stack.replaced}

-- An algebra member by member: `part` is what it gives for an atom, by its number, or for a group, by some first of its members; `grown` joins a member
-- more, which may be the first.
pub record Parts {A : Type 0} (g : Algebra A) (part : Kind → ℕ → List A → A) (grown : Kind → Bool → A → A → A) : Type 0 where
  pub atom_is : (lo : ℕ) (hi : Upper) (a : ℕ) (l : List A) → part (Atom lo hi) a l ≡ g.on_atom a lo hi
  pub group_is : (s : Sign) (m a k : ℕ) (l : List A) → part (Group s m) a l ≡ g.on_group k s l
  pub more : (κ : Kind) (a : ℕ) (l : List A) (y : A) → part κ a (l ++ (y ∷ [])) ≡ grown κ (length l == 0) (part κ a l) y

first-test : (top at : ℕ) → top ≤ at → (at == top) ≡ (at - top == 0)
first-test top at h =
    by_cases (dec_lt top at)
    (λ l. ne_eqb at top (λ e. omega arith) ∙ sym (ne_eqb (at - top) 0 (λ e. omega arith)))
    (λ l. eq-eqb at top (omega arith) ∙ sym (eq-eqb (at - top) 0 (omega arith)))

-- behind node i of l: what the trees from it on give, and how many names stand before it
pub record Evaluated {A : Type 0} (g : Algebra A) (l : List Node) (i : ℕ) (stack : List A) (top name : ℕ) : Type 0 where
  pub long : length stack ≡ max_nodes
  pub name_is : name ≡ atoms_in (take i l)
  pub stack_is : drop top stack ≡ eval g (drop i l) (name + 1)

-- A stack may stand in the places of nodes that were read: those before node i, and what is seen, then stand as at the start.
pub record Standing (words₀ words : List ℕ) (i : ℕ) : Type 0 where
  pub seen_same : seen_in words ≡ seen_in words₀
  pub node_same : (k : ℕ) → k < i → slice_index words k ≡ slice_index words₀ k

pub standing-turn : {words₀ words : List ℕ} {i : ℕ} → Standing words₀ words i → (place w : ℕ) → i - 1 ≤ place → place < max_nodes
    → Standing words₀ (slice_set words place w) (i - 1)
standing-turn {words = words} s place w a b = record {
  seen_same = drop-set-lt max_nodes words place w b ∙ s.seen_same;
  node_same = λ k h. get_or-set_other words place k w 0 (λ e. omega arith) ∙ s.node_same k (omega arith);
}

-- the nodes l are held as numbers
module _ {rest words : List ℕ} {len : ℕ} {l : List Node} (h : Stores node_in max_nodes rest words len l) where
  size_is : length l ≡ len
  size_is = holds-count h

  pub pass-none : {A : Type 0} {g : Algebra A} {stack : List A} {name : ℕ} → length stack ≡ max_nodes → name ≡ atoms_in l
      → Evaluated g l len stack max_nodes name
  pass-none {stack = stack} e f =
      let j : length l ≤ len = omega (arith, size_is) in
      record {
        long = e;
        name_is = rw (take_all len l j) f;
        stack_is = rw (drop_of_length-le stack {i = max_nodes} (omega arith), drop_of_length-le l {i = len} j);
      }

  -- the node x that stands before place i
  module _ {i : ℕ} {x : Node} (a : 0 < i) (b : i ≤ len) (e : x ≡ node_in (slice_index words (i - 1))) where
    node_is : x ≡ slice_index_or l (i - 1) (node_in 0)
    node_is = e ∙ holds_at h (i - 1) (omega arith)

    -- the names before it
    name-before : {name : ℕ} → name ≡ atoms_in (take i l) → name ≡ is_atom x.kind + atoms_in (take (i - 1) l)
    name-before m =
        let j : i - 1 + 1 ≡ i = omega arith in
        rw node_is (m ∙ (rw j at (atoms-next l (i - 1) (node_in 0) (omega (arith, size_is)))))

    pub name-turn : {name : ℕ} → name ≡ atoms_in (take i l) → is_atom x.kind ≤ name
    name-turn m = omega (arith, name-before m)

module _ {A : Type 0} {g : Algebra A} {part : Kind → ℕ → List A → A} {grown : Kind → Bool → A → A → A} (p : Parts g part grown) where
  -- The loop over a node's members.
  module _ {κ : Kind} {a : ℕ} (stack : List A) (top : ℕ) where
    pub part_none : {r : A} → r ≡ part κ a [] → r ≡ part κ a (slice_range stack top top)
    part_none e = let j : top - top ≡ 0 = omega arith in rw j e

    pub part-turn : (at : ℕ) (d : A) {x r : A} → top ≤ at → at < length stack
        → r ≡ grown κ (at == top) x (slice_index_or stack at d) → x ≡ part κ a (slice_range stack top at)
        → r ≡ part κ a (take (at + 1 - top) (drop top stack))
    part-turn at d h k e f =
        let l = drop top stack in
        let j : at + 1 - top ≡ suc (at - top) = omega arith in
        let i : top + (at - top) ≡ at = omega arith in
        let q : at - top < length l = rw length-drop (omega arith) in
        let m : length (take (at - top) l) ≡ at - top = length-take-le (at - top) l (omega arith) in
        rw (j, take-suc l (at - top) d q, get_or-drop top stack (at - top) d, i)
        (rw (p.more κ a (take (at - top) l) (slice_index_or stack at d), m, ← first-test top at h, ← f) e)

  -- The loop over the nodes. A node on the stack of what stands behind it, where k names stand before the node.
  step : (κ : Kind) (m : Mark) (k : ℕ) (l : List A)
      → g.on_mark m (part κ (is_atom κ + k) (take (needed κ) l)) ∷ drop (needed κ) l ≡ eval_step g κ m (k + 1) l
  step (Atom lo hi) m k l = rw (p.atom_is lo hi (1 + k) [], add_comm 1 k)
  step (Group s n) m k l = rw (p.group_is s n (0 + k) (k + 1) (take n l))

  -- a turn, with what its calls gave
  module _ {rest words : List ℕ} {len : ℕ} {l : List Node} (h : Stores node_in max_nodes rest words len l)
      {i : ℕ} {x : Node} (a : 0 < i) (b : i ≤ len) (e : x ≡ node_in (slice_index words (i - 1))) where
    pub pass-turn : {stack : List A} {top name : ℕ} → Evaluated g l i stack top name → 0 < top → top ≤ max_nodes
        → {members clipped ones : ℕ} → members ≡ needed x.kind → clipped ≡ min members (max_nodes - top) → ones ≡ is_atom x.kind
        → {y z : A} → y ≡ part x.kind name (take (clipped + top - top) (drop top stack)) → z ≡ g.on_mark x.mark y
        → Evaluated g l (i - 1) (slice_set stack (clipped + top - 1) z) (clipped + top - 1) (name - ones)
    pass-turn {stack} {top} {name} t u q {members} {clipped} {ones} c r o {y} {z} f d =
        let κ = x.kind in
        let k = atoms_in (take (i - 1) l) in
        let end : clipped + top ≡ min (needed κ) (max_nodes - top) + top = rw (r, c) in
        let m : name ≡ is_atom κ + k = name-before h a b e t.name_is in
        let v : name - ones ≡ k = omega arith in
        let w : after κ (k + 1) ≡ name + 1 = omega (arith, after_is κ (k + 1)) in
        record {
          long = rw length-set t.long;
          name_is = v;
          stack_is =
              replaced stack max_nodes top (needed κ) (clipped + top) t.long q end z u
              ∙ rw (v, drop-back l i (node_in 0) a (omega (arith, size_is h)), ← node_is h a b e, w, ← t.stack_is, d, f)
              (rw (first-entries stack max_nodes top (needed κ) (clipped + top) t.long q end, m) (step κ x.mark k (drop top stack)));
        }

-- the end of the loop: what the rule of these nodes gives
module _ {A : Type 0} {g : Algebra A} {l : List Node} {i : ℕ} {stack : List A} {top name : ℕ} (t : Evaluated g l i stack top name) (e : i ≡ 0) where
  root_is : (d : A) → slice_index_or (eval g (used (rule_with l)) 1) 0 d ≡ slice_index_or (drop top stack) 0 d
  root_is d = rw (used-with l) (sym (ap (λ r. get_or r 0 d) (rw (t.name_is, e) at t.stack_is)))

  pub pass-top : (b d : A) → top < max_nodes → slice_index_or stack top b ≡ slice_index_or (eval g (used (rule_with l)) 1) 0 d
  pass-top b d h = let k : top < length stack = omega (arith, t.long) in rw (root_is d, drop-cons stack top b k)

  pub pass-empty : (d : A) → max_nodes ≤ top → d ≡ slice_index_or (eval g (used (rule_with l)) 1) 0 d
  pass-empty d h = rw (root_is d, drop_of_length-le stack {i = top} (omega (arith, t.long)))
