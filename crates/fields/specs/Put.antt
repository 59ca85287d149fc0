-- Bytes written into a buffer at a place, the others as they were.
pub mod Laws
use mathlib.Core.{Path.◌≡◌, List.◌++◌}
use Rattle.std.specs.Prelude.{ℕ, ◌+◌, ◌-◌, ◌≤◌, min, length, take, drop}
use Rattle.fields.specs.Bytes.{Text}

pub record Put (old new : Text) (at : ℕ) (s : Text) (end : ℕ) : Type 0 where
  pub fits : at + length s ≤ length old
  pub end_is : end ≡ at + length s
  pub text_is : new ≡ take at old ++ (s ++ drop (at + length s) old)

-- what `put` does: as many of the bytes as there is room for, from `at` on or from the end (`Put.Laws.put-fits`: where there is room, all are put)
abbrev pub put_start : Text → ℕ → ℕ
put_start old at = min at (length old)

abbrev pub put_count : Text → ℕ → Text → ℕ
put_count old at s = min (length s) (length old - put_start old at)

unfoldable pub put_end : Text → ℕ → Text → ℕ
put_end old at s = put_start old at + put_count old at s

unfoldable pub put_at : Text → ℕ → Text → Text
put_at old at s = take (put_start old at) old ++ (take (put_count old at s) s ++ drop (put_start old at + put_count old at s) old)

-- a text written at the beginning
abbrev pub PutWhole : Text → Text → Text → Type 0
PutWhole old new s = Put old new 0 s (length s)

-- the first bytes of a text, up to `at`, were written at the start of a buffer; the rest is yet to be written
pub record Begun (old buffer whole : Text) (at : ℕ) (rest : Text) : Type 0 where
  pub room : length whole ≤ length old
  pub inside : at ≤ length whole
  pub ahead : drop at whole ≡ rest
  pub so_far : buffer ≡ take at whole ++ drop at old
