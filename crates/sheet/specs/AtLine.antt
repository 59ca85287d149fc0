-- A refusal with its line.
use mathlib.Core.{Bool.cond, List.[]}
use lib.{Dec.ltb, ListN.length}
use Rattle.std.specs.Prelude.{ℕ, Result, Ok, Err}
use Rattle.fields.specs.{declared.fault.AtLine.AtLine, Limits.max_file, Bytes.Text, Bytes.same_text, Split.behind}

abbrev pub at_line : {F : Type 0} → F → ℕ → AtLine F
at_line f n = record { fault = f; line = n }

-- what a line gives, a refusal with the line's number
abbrev pub numbered : {A F : Type 0} → ℕ → Result A F → Result A (AtLine F)
numbered n (Ok a) = Ok a
numbered n (Err f) = Err (at_line f n)

-- size, then the last line
abbrev pub whole : {F : Type 0} → Text → F → F → Result Unit (AtLine F)
whole x long unended =
    cond (ltb max_file (length x)) (Err (at_line long 0))
    (cond (same_text (behind x) []) (Ok tt)
    (Err (at_line unended 0)))
