-- What a line gave, by the refusal with its number.
use Rattle.std.specs.Prelude.{◌≡◌, ℕ, Result, Ok, Err}
use Rattle.std.proofs.Common.{ap}
use Rattle.fields.specs.declared.fault.AtLine.{AtLine}
use Rattle.sheet.specs.AtLine.{at_line, numbered}

module _ {A F : Type 0} where
  pub numbered-ok : (n : ℕ) (r : Result A F) {a : A} → numbered n r ≡ Ok a → r ≡ Ok a
  numbered-ok n (Ok b) {a} e = let z : b ≡ a = cc e in ap Ok z
  numbered-ok n (Err f) e = cc e

  pub numbered-err : (n : ℕ) (r : Result A F) {e : AtLine F} → numbered n r ≡ Err e → (r ≡ Err e.fault) × (n ≡ e.line)
  numbered-err n (Ok b) e = cc e
  numbered-err n (Err f) {e} h = let z : at_line f n ≡ e = cc h in (ap (λ d. Err d.fault) z, ap (λ d. d.line) z)
