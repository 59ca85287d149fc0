-- Which refusal a table answers: of the faults that stand, the first by place, and at one place by rank, which is most often the refusal's number.
-- A place is a byte of a text or a line of a file. Each crate says of its table when a fault stands and at which place; what is first is said here.
pub mod Laws
use mathlib.Core.{Path.◌≡◌, Logic.◌⊎◌}
use Rattle.std.specs.Prelude.{ℕ, ◌≤◌, ◌<◌}

-- no fault stands at any place
abbrev pub NoFault : {F : Type 0} → (F → ℕ → Type 0) → Type 0
NoFault {F} Stands = (g : F) (m : ℕ) → ¬ Stands g m

-- places in order, at one place by rank
abbrev pub Before : {F : Type 0} → (F → ℕ) → F → ℕ → F → ℕ → Type 0
Before rank f n g m = (n < m) ⊎ ((n ≡ m) × (rank f ≤ rank g))

-- f stands at n, and before every fault that stands
abbrev pub First : {F : Type 0} → (F → ℕ) → (F → ℕ → Type 0) → F → ℕ → Type 0
First {F} rank Stands f n = Stands f n × ((g : F) (m : ℕ) → Stands g m → Before rank f n g m)

-- the same in a table without places
abbrev pub NoneStands : {F : Type 0} → (F → Type 0) → Type 0
NoneStands {F} Stands = (g : F) → ¬ Stands g

abbrev pub Least : {F : Type 0} → (F → ℕ) → (F → Type 0) → F → Type 0
Least {F} rank Stands f = Stands f × ((g : F) → Stands g → rank f ≤ rank g)
