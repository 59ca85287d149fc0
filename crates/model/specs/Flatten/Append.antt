-- Members behind members, and the groups that are made of them.
use mathlib.Core.{Path.◌≡◌, Path.refl, Path.sym, Path.ap, List.List, List.[], List.◌∷◌, List.◌++◌}
use Rattle.std.specs.Prelude.{ℕ, ◌+◌, ◌≤◌}
use Rattle.std.proofs.Common.{arith}
use Rattle.fields.specs.Tests.{by-test}
use Rattle.model.specs.{declared.rule.Sign.Sign, declared.rule.Mark.TheVariants.Plain}
use Rattle.model.specs.Tree.{group, Tree, marked, Members, none, ◌▹◌, size, members_weight}
use Rattle.model.specs.Flatten.{◌⧺◌, is_nil, merges, members_of, with_member, gathered, grouped}

module _ {A : Type 0} where
  pub append-none : (ts : Members A) → ts ⧺ none ≡ ts
  append-none none = refl
  append-none (t ▹ ts) = ap (λ (us : Members A). t ▹ us) (append-none ts)

  pub append-thrice : (ts us vs : Members A) → (ts ⧺ us) ⧺ vs ≡ ts ⧺ (us ⧺ vs)
  append-thrice none us vs = refl
  append-thrice (t ▹ ts) us vs = ap (λ (ws : Members A). t ▹ ws) (append-thrice ts us vs)

  pub append-size : (ts us : Members A) → size (ts ⧺ us) ≡ size ts + size us
  append-size none us = omega arith
  append-size (t ▹ ts) us = omega (arith, append-size ts us)

  pub append-weight : (α γ : ℕ) (ts us : Members A) → members_weight α γ (ts ⧺ us) ≡ members_weight α γ ts + members_weight α γ us
  append-weight α γ none us = omega arith
  append-weight α γ (t ▹ ts) us = omega (arith, append-weight α γ ts us)

  with_append : (s : Sign) (t : Tree A) (us vs : Members A) → with_member s t (us ⧺ vs) ≡ with_member s t us ⧺ vs
  with_append s t us vs = by-test (merges s t) (λ e. rw e (sym (append-thrice (members_of t) us vs))) (λ e. rw e refl)

  pub gathered-append : (s : Sign) (k l : List (Tree A)) → gathered s (k ++ l) ≡ gathered s k ⧺ gathered s l
  gathered-append s [] l = refl
  gathered-append s (t ∷ k) l =
      by-test (is_nil t)
      (λ e. rw e (gathered-append s k l))
      (λ e. rw (e, gathered-append s k l) (with_append s t (gathered s k) (gathered s l)))

  pub grouped-several : (s : Sign) (ts : Members A) → 2 ≤ size ts → grouped s ts ≡ marked Plain (group s ts)
  grouped-several s none h = absurd (omega arith)
  grouped-several s (t ▹ none) h = absurd (omega arith)
  grouped-several s (t ▹ u ▹ ts) h = refl
