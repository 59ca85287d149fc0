-- There is one reply to a text, and only one; and a text that was written is written again.
use mathlib.Core.{Path.◌≡◌, Path.refl, Path.sym, Path.ap, Path.◌∙◌, Path.subst, Logic.◌↔◌, Logic.by_cases}
use Rattle.std.specs.Prelude.{ℕ, ◌≤◌, ◌<◌, length}
use native.Mathlib.{Decide.dec_le, Omega.arith}
use Rattle.std.proofs.Common.{le-leb}
use Rattle.std.proofs.lemmas.Bool.{lt-leb}
use Rattle.fields.specs.{Bytes.Text, Limits.max_text}
use Rattle.judge.specs.Answer.{answer, answered, answer-is}
use Rattle.model.specs.{Fault.Answer, Fault.Answers, Fault.refused, Fault.accepted, Accept.Length.text-fits, Syntax.text}
use Rattle.model.proofs.AcceptLaws.{accepted-within}
use Rattle.canonical.specs.declared.fault.WriteFault.TheVariants.{Model, LongText}
use Rattle.canonical.specs.Canonical.{canonical, canonical_text, WriteReply, wrote, refused_write, write_fitting, write_by, write_reply, Writes}
use Rattle.canonical.specs.Canonical.{Fixed.canonical-twice, Accepted.canonical-accepted}

fits : (y : Text) (k : ℕ) → length y ≤ k → wrote y ≡ write_fitting y k
fits y k h = rw (le-leb (length y) k h)

long : (y : Text) (k : ℕ) → k < length y → refused_write LongText 0 ≡ write_fitting y k
long y k h = rw (lt-leb (length y) k h)

by_answer : (x : Text) (k : ℕ) (a : Answer) → Answers x a → write_by a k ≡ write_reply x k
by_answer x k a h = ap (λ (b : Answer). write_by b k) (answer-is x a h)

writes-once : (x : Text) (k : ℕ) (r : WriteReply) → Writes x k r → r ≡ write_reply x k
writes-once x k (wrote y) (t, h, e, l) = ap wrote e ∙ fits (canonical_text t) k (subst (λ (z : Text). length z ≤ k) e l) ∙ by_answer x k (accepted t) h
writes-once x k (refused_write (Model f) p) h = by_answer x k (refused f p) h
writes-once x k (refused_write LongText p) (z, (t, h, l)) = ap (refused_write LongText) z ∙ long (canonical_text t) k l ∙ by_answer x k (accepted t) h

writes-some : (x : Text) (k : ℕ) (a : Answer) → Answers x a → Writes x k (write_by a k)
writes-some x k (refused f p) h = h
writes-some x k (accepted t) h =
    by_cases (dec_le (length (canonical_text t)) k)
    (λ l. subst (Writes x k) (fits (canonical_text t) k l) (t, h, refl, l))
    (λ n. subst (Writes x k) (long (canonical_text t) k (omega (arith, n))) (refl, (t, h, omega (arith, n))))

pub writes-is : (x : Text) (k : ℕ) (r : WriteReply) → Writes x k r ↔ (r ≡ write_reply x k)
writes-is x k r = (writes-once x k r, λ e. subst (Writes x k) (sym e) (writes-some x k (answer x) (answered x)))

-- the canonical text is accepted as the canonical tree, whose text it is
pub again : (x y : Text) (k j : ℕ) → wrote y ≡ write_reply x k → length y ≤ j → wrote y ≡ write_reply y j
again x y k j e l =
    let (t, h, i, m) = (writes-is x k (wrote y)).1 e in
    let a = canonical-accepted x t h in
    writes-once y j (wrote y) (canonical t, subst (λ (z : Text). Answers z (accepted (canonical t))) (sym i) a, i ∙ ap text (sym (canonical-twice t)), l)

-- what is written is no longer than a model text may be
pub written-short : (x y : Text) (k : ℕ) → wrote y ≡ write_reply x k → length y ≤ max_text
written-short x y k e =
    let (t, h, i, l) = (writes-is x k (wrote y)).1 e in
    let a = canonical-accepted x t h in
    subst (λ (z : Text). length z ≤ max_text) (sym i) (text-fits (canonical t) a.1.formed (accepted-within (canonical_text t) (canonical t) a))
