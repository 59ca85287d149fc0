-- By the lengths, then by the last bytes.
use Rattle.std.proofs.Common.{◌≡◌, ◌-◌, ℕ, false, ap, sym, arith, length, get_or}
use Rattle.fields.specs.{Bytes.Text, Bytes.same_text, Bytes.Laws.same_text-is, Bytes.Laws.same-lengths, Tests.by-test}
use Rattle.fields.proofs.bytes.same_bytes.Goals as goal

other-byte : (a b : Text) (i : ℕ) → (get_or a i 0 ≡ get_or b i 0 → ⊥) → false ≡ same_text a b
other-byte a b i n = by-test (same_text a b) (λ e. absurd (n (ap (λ x. get_or x i 0) ((same_text-is a b).0 e)))) (λ e. sym e)

pub returns-then-n-b : goal.returns-then-n-b
returns-then-n-b c = same-lengths c.args.a.now c.args.b.now (λ e. omega (arith, e))

pub returns-then-a-n : goal.returns-then-a-n
returns-then-a-n c = other-byte c.args.a.now c.args.b.now (length c.args.a.now - 1) (λ e. omega (arith, e))
