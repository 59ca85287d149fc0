-- A set of names as a number: name k is in it where its digit of 2 ^ (k - 1) is 1.
pub mod Laws
use Rattle.std.specs.Prelude.{ℕ, ◌-◌, ◌/◌, ◌%◌, ◌^◌, Bool, ◌==◌}

unfoldable pub single : ℕ → ℕ
single k = 2 ^ (k - 1)

unfoldable pub in_set : ℕ → ℕ → Bool
in_set s k = s / 2 ^ (k - 1) % 2 == 1
