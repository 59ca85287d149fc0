-- Every child asked for has one reply, and `found` computes it.
use mathlib.Core.{Logic.◌↔◌, Logic.by_cases, List.[]}
use Rattle.std.specs.Prelude.{◌≡◌, refl, ℕ, zero, suc, ◌-◌, ◌<◌}
use Rattle.std.proofs.Common.{sym, ap, subst, ◌∙◌}
use native.Mathlib.{Decide.dec_lt, Omega.arith}
use lib.{Dec.T, ListN.length, ListN.get_or}
use Rattle.model.specs.{declared.fault.ModelFault.TheVariants.Repeated, Syntax.Number.from_found, Syntax.Number.from-none}
use Rattle.model.proofs.AcceptStarts.{name-at}
use Rattle.model.specs.Syntax.{Syntax, text, written_names, number_in}
use Rattle.model.specs.Fault.{name_at, name_from, tally, Answers, accepted, places}
use Rattle.fields.specs.Bytes.{Text}
use Rattle.judge.specs.{Reply.child, Reply.Reply, Reply.Laws.replies-exactly}
use Rattle.desk.specs.Child.Names.{begins-at, name_is}
use Rattle.desk.specs.Child.{Part, of_model, of_children, child_name, PartStands, Finds, part_by, part_in, found}

-- the function and what it means agree
module _ (m c : Text) (k : ℕ) (t : Syntax) (h : Answers m (accepted t)) where
  pub name-here : (n : ℕ) → number_in (written_names t) (child_name c k) ≡ suc n
      → (n < length (written_names t)) × T (name_at m (get_or (places m (length m)) n 0)) × (name_from m (get_or (places m (length m)) n 0) ≡ child_name c k)
  name-here n e =
      let f = from_found 0 (written_names t) (child_name c k) n e in
      let l : n < length (written_names t) = omega (arith, f.1) in
      let z : n - 0 ≡ n = omega arith in
      (l, begins-at m t h n l, name_is m t h n l ∙ ap (λ j. get_or (written_names t) j []) (sym z) ∙ f.2)

  stands_by : (n : ℕ) → number_in (written_names t) (child_name c k) ≡ n → PartStands m c k t (part_by m c k n)
  stands_by zero e = (e, refl, refl)
  stands_by (suc n) e = let f = name-here n e in (f.1, f.2, refl)

  -- no name stands at two places
  only-place : (p n : ℕ) → T (name_at m p) → name_from m p ≡ child_name c k → number_in (written_names t) (child_name c k) ≡ suc n
      → get_or (places m (length m)) n 0 ≡ p
  only-place p n a e d =
      let f = name-here n d in
      let q = get_or (places m (length m)) n 0 in
      by_cases (dec_lt q p)
      (λ l. absurd (h.0 Repeated p (record { here = a; first = q; earlier = l; there = f.1; same = f.2 ∙ sym e })))
      (λ l. by_cases (dec_lt p q)
      (λ o. absurd (h.0 Repeated q (record { here = f.1; first = p; earlier = o; there = a; same = e ∙ sym f.2 })))
      (λ o. omega arith))

  is-there : (p : ℕ) → T (name_at m p) → name_from m p ≡ child_name c k → number_in (written_names t) (child_name c k) ≡ 0 → ⊥
  is-there p a e z =
      let f = name-at t h.1.formed p (subst (λ y. T (name_at y p)) (sym h.1.spelt) a) in
      from-none 0 (written_names t) (child_name c k) (tally (name_at (text t)) p) z f.0 (f.1 ∙ ap (λ y. name_from y p) h.1.spelt ∙ e)

  agrees : (v : Part) → (part_in m c k t ≡ v) ↔ PartStands m c k t v
  agrees v =
      let n = number_in (written_names t) (child_name c k) in
      (λ e. subst (PartStands m c k t) e (stands_by n refl), λ s. back v s n refl)
    where
      back : (v : Part) → PartStands m c k t v → (n : ℕ) → number_in (written_names t) (child_name c k) ≡ n → part_by m c k n ≡ v
      back (of_model p l) s zero e = absurd (is-there p s.0 s.1 e)
      back (of_model p l) s (suc n) e = rw (only-place p n s.0 s.1 e, s.2)
      back (of_children p l) s zero e = rw (s.1, s.2)
      back (of_children p l) s (suc n) e = absurd (omega (arith, s.0))

pub finds-exactly : (m c : Text) (k : ℕ) (r : Reply Part) → (found m c k ≡ r) ↔ Finds m c k r
unfolding found
finds-exactly m c k = replies-exactly (child k) (part_in m c k) (PartStands m c k) m c (λ t h g v. agrees m c k t h v)
