-- A mark is known by its number, and by its byte.
use mathlib.Core.{Logic.by_cases, Path.◌≡◌, Path.refl, Path.sym, Path.◌∙◌, Bool.true, Bool.false, Bool.true≢false, Bool.not, Bool.false≢true, List.[], List.◌∷◌}
use Prim.Native.{Nat.ℕ, Nat.◌≤◌, Nat.◌<◌, Char.code}
use native.Mathlib.{Decide.dec_lt, Omega.arith}
use lib.{Dec.T, Dec.eqb, Dec.eqb→eq, ListN.length, ListN.get_or-eq_default}
use Rattle.std.proofs.Common.{lt-ltb}
use Rattle.fields.specs.{Bytes.Text, Tests.by-test, Bytes.Laws.cond_cases}
use Rattle.model.specs.{declared.rule.Mark.Mark, Tree.is_plain, Tree.mark_fits, Syntax.mark_text}
use Rattle.model.specs.declared.rule.Mark.TheVariants.{Plain, Optional, Nonempty}
use Rattle.model.specs.Mark.{mark_of, mark_at, mark_number, mark_numbered}

pub is-plain : (m : Mark) → is_plain m ≡ true → m ≡ Plain
is-plain Plain e = refl
is-plain Optional e = absurd (false≢true e)
is-plain Nonempty e = absurd (false≢true e)

pub numbered-mark : (m : Mark) → mark_numbered (mark_number m) ≡ m
numbered-mark Plain = refl
numbered-mark Optional = refl
numbered-mark Nonempty = refl

pub few-marks : (m : Mark) → mark_number m < 3
few-marks Plain = omega arith
few-marks Optional = omega arith
few-marks Nonempty = omega arith

-- behind the text there is none
pub mark-inside : (x : Text) (p : ℕ) → is_plain (mark_at x p) ≡ false → p < length x
mark-inside x p e =
    by_cases (dec_lt p (length x)) (λ h. h) (λ h. absurd (true≢false (rw (get_or-eq_default x 0 {n = p} (omega arith)) at e)))

-- only `!` asks for an atom
pub atom-fits : (m : Mark) (atoms : ℕ) → 1 ≤ atoms → mark_fits m atoms ≡ true
atom-fits Plain atoms h = refl
atom-fits Optional atoms h = refl
atom-fits Nonempty atoms h = lt-ltb 0 atoms h

pub fits-unless : (b atoms : ℕ) → (atoms ≡ 0 → eqb b (code "!") ≡ false) → mark_fits (mark_of b) atoms ≡ true
fits-unless b atoms h =
    by-test (eqb b (code "?"))
    (λ e. rw e)
    (λ e. by-test (eqb b (code "!"))
    (λ f. let n : ¬ atoms ≡ 0 = λ z. true≢false (sym f ∙ h z) in rw (e, f) (lt-ltb 0 atoms (omega arith)))
    (λ f. rw (e, f)))

abbrev Written : ℕ → Mark → Type 0
Written b m = T (not (is_plain m)) → mark_text m ≡ b ∷ []

pub mark-text : (b : ℕ) → T (not (is_plain (mark_of b))) → mark_text (mark_of b) ≡ b ∷ []
mark-text b =
    cond_cases (Written b) (eqb b (code "?")) _ _ (λ e _. rw (eqb→eq b (code "?") e))
    (λ _. cond_cases (Written b) (eqb b (code "!")) _ _ (λ e _. rw (eqb→eq b (code "!") e)) (λ _ h. absurd h))
