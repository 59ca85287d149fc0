-- The upper counts of nodes, put into the numbers of their names.
use mathlib.Core.{Path.◌≡◌, Path.refl, Path.sym, Path.ap, Path.◌∙◌, List.List, List.[], List.◌∷◌, List.◌++◌, List.map, List.map-append, List.append_assoc}
use mathlib.Core.{List.append-nil}
use Rattle.std.specs.Prelude.{ℕ, zero, suc, ◌+◌, ◌-◌, ◌<◌, ◌≤◌, length, take, drop, set, replicate, slice_index, slice_index_or, slice_set}
use native.Mathlib.{Numerals.add-one, Omega.arith}
use Rattle.std.proofs.Common.{take-append-drop, take-suc}
use Rattle.std.proofs.Math.ListN.{length-replicate, length-append, length-map}
use Rattle.std.proofs.lemmas.List.{set_at, set-get_or}
use Rattle.fields.specs.Limits.{max_atoms, max_nodes}
use Rattle.model.specs.declared.rule.Upper.{Upper}
use Rattle.model.specs.{declared.rule.Sign.Sign, declared.rule.Mark.Mark}
use Rattle.model.specs.declared.rule.Upper.TheVariants.{Number}
use Rattle.model.specs.{declared.rule.Kind.Kind, declared.rule.Node.Node, Model.is_atom, Model.atoms_in, Model.Eval.atoms-append}
use Rattle.model.specs.Model.Eval.{atoms-next}
use Rattle.model.specs.declared.rule.Kind.TheVariants.{Atom, Group}
use Rattle.judge.specs.FirstFault.{with_upper, upper_counts, allowed}
use Rattle.judge.specs.{Packed.node_in, Packed.Laws.seen_at, Reading.Buffer.Stores, Reading.Buffer.holds_more, Reading.Buffer.holds-rest}
use Rattle.judge.specs.Row.Tally.{limit_word, limits_in, limited_word, Seeing}
use Rattle.judge.specs.Row.Tally.Words.{seen_none}

-- the upper counts of nodes, one node more
with_append : (κ : Kind) (us vs : List Upper) → with_upper κ (us ++ vs) ≡ with_upper κ us ++ vs
with_append (Atom lo hi) us vs = refl
with_append (Group s n) us vs = refl

upper-append : (l r : List Node) → upper_counts (l ++ r) ≡ upper_counts l ++ upper_counts r
upper-append [] r = refl
upper-append (x ∷ l) r = rw (upper-append l r) (with_append x.kind (upper_counts l) (upper_counts r))

-- one node in the place of another
pub upper-middle : (u v : List Node) (a d : Node) → with_upper a.kind (upper_counts v) ≡ with_upper d.kind (upper_counts v)
    → upper_counts (u ++ (a ∷ v)) ≡ upper_counts (u ++ (d ∷ v))
upper-middle u v a d e = upper-append u (a ∷ v) ∙ ap (λ us. upper_counts u ++ us) e ∙ sym (upper-append u (d ∷ v))

with-length : (κ : Kind) (us : List Upper) → length (with_upper κ us) ≡ is_atom κ + length us
with-length (Atom lo hi) us = omega arith
with-length (Group s n) us = omega arith

upper-length : (l : List Node) → length (upper_counts l) ≡ atoms_in l
upper-length [] = refl
upper-length (x ∷ l) = with-length x.kind (upper_counts l) ∙ rw (upper-length l)

-- What stands behind nodes: of none; of one more; and of some with the same upper counts.
limit-put : (us : List Upper) (n : Upper) (k : ℕ) → length us ≡ k → k < max_atoms
    → slice_set (map limit_word us ++ replicate (max_atoms - length us) 0) k (limit_word n)
    ≡ map limit_word (us ++ (n ∷ [])) ++ replicate (max_atoms - length (us ++ (n ∷ []))) 0
limit-put us n k q h =
    let d : max_atoms - length us ≡ suc (max_atoms - suc (length us)) = omega arith in
    let e : length (us ++ (n ∷ [])) ≡ suc (length us) = length-append us (n ∷ []) ∙ add-one (length us) in
    let zeros : List ℕ = replicate (max_atoms - suc (length us)) 0 in
    rw (d, e, map-append)
    (set_at (map limit_word us) 0 zeros (limit_word n) k (length-map us limit_word ∙ q) ∙ sym (append_assoc (map limit_word us) (limit_word n ∷ []) zeros))

limit-at : (us : List Upper) (m j : ℕ) → slice_index (map limit_word us ++ replicate m 0) j ≡ limit_word (slice_index_or us j (Number 0))
limit-at [] zero j = refl
limit-at [] (suc m) zero = refl
limit-at [] (suc m) (suc j) = limit-at [] m j
limit-at (u ∷ us) m zero = refl
limit-at (u ∷ us) m (suc j) = limit-at us m j

pub limits-none : limits_in [] ≡ replicate (max_atoms + 1) 0
unfolding limits_in
limits-none = refl

module _ (l : List Node) where
  pub limits-same : (m : List Node) → upper_counts l ≡ upper_counts m → limits_in l ≡ limits_in m
  unfolding limits_in
  limits-same m e = rw e

  -- a group has no name
  pub limits-group : (s : Sign) (n : ℕ) (m : Mark) → limits_in (l ++ (record { kind = Group s n; mark = m } ∷ [])) ≡ limits_in l
  unfolding limits_in
  limits-group s n m = rw (upper-append l (record { kind = Group s n; mark = m } ∷ []), append-nil)

  pub limits-atom : (lo : ℕ) (hi : Upper) (m : Mark) → atoms_in l < max_atoms
      → slice_set (limits_in l) (atoms_in l + 1) (limit_word hi) ≡ limits_in (l ++ (record { kind = Atom lo hi; mark = m } ∷ []))
  unfolding limits_in
  limits-atom lo hi m h =
      rw (add-one, upper-append l (record { kind = Atom lo hi; mark = m } ∷ []))
      (ap (λ r. 0 ∷ r) (limit-put (upper_counts l) hi (atoms_in l) (upper-length l) h))

  pub limits-seeing : atoms_in l ≤ max_atoms → Seeing (upper_counts l) [] (limits_in l)
  unfolding limits_in
  limits-seeing h =
      let us = upper_counts l in
      let zeros : List ℕ = replicate (max_atoms - length us) 0 in
      let z = length-replicate {A = ℕ} (max_atoms - length us) 0 in
      record {
        room = omega (arith, length-append (map limit_word us) zeros, length-map us limit_word, z, upper-length l);
        word_is = λ k i. word k ∙ sym (seen_none us k);
      }
    where
      word : (k : ℕ)
          → slice_index (0 ∷ (map limit_word (upper_counts l) ++ replicate (max_atoms - length (upper_counts l)) 0)) k ≡ limit_word (allowed (upper_counts l) k)
      word zero = refl
      word (suc j) = limit-at (upper_counts l) (max_atoms - length (upper_counts l)) j

-- the first i of the nodes l, and one more
pub atoms-take : (l : List Node) (i : ℕ) → atoms_in (take i l) ≤ atoms_in l
atoms-take l i = omega (arith, atoms-append (take i l) (drop i l), ap atoms_in (take-append-drop i l))

-- by what the node's kind is
limits-more : (l : List Node) (κ : Kind) (m : Mark) → atoms_in l + is_atom κ ≤ max_atoms
    → let k = atoms_in l + is_atom κ in slice_set (limits_in l) k (limited_word κ (slice_index (limits_in l) k))
    ≡ limits_in (l ++ (record { kind = κ; mark = m } ∷ []))
limits-more l (Atom lo hi) m h = limits-atom l lo hi m (omega arith)
limits-more l (Group s n) m h = set-get_or (limits_in l) (atoms_in l + 0) 0 ∙ sym (limits-group l s n m)

-- a turn of the loop over the nodes l, with what its calls gave
module _ (l : List Node) (i : ℕ) {x : Node} (d : Node) (h : i < length l) (b : atoms_in l ≤ max_atoms) (e : x ≡ slice_index_or l i d) where
  atoms-turn : atoms_in (take (i + 1) l) ≡ is_atom x.kind + atoms_in (take i l)
  atoms-turn = rw e (atoms-next l i d h)

  -- the place of the last name so far
  module _ {place one : ℕ} (n : place ≡ max_nodes + atoms_in (take i l)) (o : one ≡ is_atom x.kind) where
    pub place-turn : (place + one ≡ max_nodes + atoms_in (take (i + 1) l)) × (place + one ≤ max_nodes + max_atoms)
    unfolding atoms-turn
    place-turn = (omega (arith, atoms-turn), omega (arith, atoms-turn, atoms-take l (i + 1)))

    pub limits-turn : (words : List ℕ) (w : ℕ) {v : ℕ} → i < max_nodes → node_in w ≡ x
        → v ≡ limited_word x.kind (slice_index (slice_set words i w) (place + one))
        → Stores node_in max_nodes (limits_in (take i l)) words i (take i l)
        → Stores node_in max_nodes (limits_in (take (i + 1) l)) (slice_set (slice_set words i w) (place + one) v) (i + 1) (take (i + 1) l)
    unfolding atoms-turn
    limits-turn words w {v} f q g t =
        let name = atoms_in (take i l) + one in
        let k : place + one ≡ max_nodes + name = omega arith in
        let u : take (i + 1) l ≡ take i l ++ (x ∷ []) = rw (add-one, e) (take-suc l i d h) in
        let s = holds_more t w f q in
        let r : v ≡ limited_word x.kind (slice_index (limits_in (take i l)) name) =
        (rw k at g) ∙ ap (limited_word x.kind) (sym (seen_at (slice_set words i w) name) ∙ ap (λ z. slice_index z name) s.behind) in
        let c : set (limits_in (take i l)) name v ≡ limits_in (take i l ++ (x ∷ [])) =
        rw (r, o) (limits-more (take i l) x.kind x.mark (omega (arith, atoms-turn, atoms-take l (i + 1)))) in
        rw (k, u, ← c) (holds-rest s name v)
