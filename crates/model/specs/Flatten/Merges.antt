-- A member that joins the group around it is an unmarked group of the same sign.
use Rattle.std.specs.Prelude.{◌≡◌, refl, true, false, [], ◌∷◌, ℕ, get_or}
use Rattle.std.proofs.Common.{sym, ap, ◌∙◌, true≢false, eqb-true}
use Rattle.std.proofs.lemmas.Bool.{false≢true}
use Rattle.std.proofs.Math.Bool.{and-eq-true_iff}
use Rattle.model.specs.{declared.rule.Sign.Sign, Mark.Laws.is-plain}
use Rattle.model.specs.declared.rule.Sign.TheVariants.{None, Sequence, Choice, Interleaving}
use Rattle.model.specs.declared.rule.Mark.TheVariants.{Plain}
use Rattle.model.specs.Tree.{leaf, group, Tree, marked, Members, none, ◌▹◌, is_plain}
use Rattle.model.specs.Flatten.{sign_number, same_sign, is_nil, merges, members_of}

-- a sign is known by its number
abbrev sign_at : ℕ → Sign
sign_at n = get_or (None ∷ Sequence ∷ Choice ∷ Interleaving ∷ []) n None

sign_at-is : (s : Sign) → sign_at (sign_number s) ≡ s
sign_at-is None = refl
sign_at-is Sequence = refl
sign_at-is Choice = refl
sign_at-is Interleaving = refl

same_sign-is : (s r : Sign) → same_sign s r ≡ true → r ≡ s
same_sign-is s r e = sym (sign_at-is r) ∙ ap sign_at (sym (eqb-true (sign_number s) (sign_number r) e)) ∙ sign_at-is s

module _ {A : Type 0} where
  pub merged : (s : Sign) (t : Tree A) → merges s t ≡ true → t ≡ marked Plain (group s (members_of t))
  merged s (marked m (leaf a)) e = absurd (false≢true e)
  merged s (marked m (group r ts)) e =
      let h = (and-eq-true_iff (same_sign s r) (is_plain m)).0 e in
      rw (same_sign-is s r h.0, is-plain m h.1)

  -- and has members, if it is not `()`
  pub merged_some : (s : Sign) (t : Tree A) → is_nil t ≡ false → merges s t ≡ true → (u : Tree A) × (us : Members A) × (t ≡ marked Plain (group s (u ▹ us)))
  merged_some s (marked m (leaf a)) n e = absurd (false≢true e)
  merged_some s (marked m (group r none)) n e = absurd (true≢false (sym ((and-eq-true_iff (same_sign s r) (is_plain m)).0 e).1 ∙ n))
  merged_some s (marked m (group r (u ▹ us))) n e = (u, us, merged s (marked m (group r (u ▹ us))) e)
