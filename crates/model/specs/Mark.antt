-- Marks by their bytes and by numbers.
pub mod Laws
use Rattle.std.specs.Prelude.{cond}
use Prim.Native.{Nat.ℕ, Char.code}
use lib.{Dec.eqb, ListN.get_or}
use Rattle.fields.specs.Bytes.{Text}
use Rattle.model.specs.declared.rule.Mark.{Mark}
use Rattle.model.specs.declared.rule.Mark.TheVariants.{Plain, Optional, Nonempty}

-- the mark that a byte writes; `Plain` if it writes none
abbrev pub mark_of : ℕ → Mark
mark_of b = cond (eqb b (code "?")) Optional (cond (eqb b (code "!")) Nonempty Plain)

-- the mark that stands at a place
abbrev pub mark_at : Text → ℕ → Mark
mark_at x p = mark_of (get_or x p 0)

abbrev pub mark_number : Mark → ℕ
mark_number Plain = 0
mark_number Optional = 1
mark_number Nonempty = 2

abbrev pub mark_numbered : ℕ → Mark
mark_numbered n = cond (eqb n 0) Plain (cond (eqb n 1) Optional Nonempty)

-- a number of 40 bits has its mark above them
abbrev pub mark_place : ℕ
mark_place = 1099511627776
