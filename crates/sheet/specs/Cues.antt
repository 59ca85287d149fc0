-- A cue list: document 01, "Files" and refusals 30 to 36. Size and last line come first, then the lines in order, in each the rest by number.
pub mod Laws
pub mod Walk
pub mod Good
use mathlib.Core.{Bool.Bool, Bool.cond, Bool.not, Bool.◌&&◌, Bool.◌||◌, List.List, List.[], List.◌∷◌}
use Prim.Native.{Nat.ℕ, Nat.suc, Nat.◌≤◌, Char.code}
use lib.{Dec.leb, Dec.ltb, Dec.eqb, ListN.length, ListN.drop, ListN.get_or}
use Rattle.fields.specs.{Limits.max_row, Limits.max_file, declared.fault.CueFault.CueFault, Split.lines, Split.behind, Split.fields, Split.field}
use Rattle.fields.specs.{Children.all_names}
use Rattle.fields.specs.Bytes.{Text, bytes, is_digit, all, value, same_text}
use Rattle.fields.specs.declared.fault.CueFault.TheVariants.{LongFile, Unended, BadFields, BadNumber, NotAbove, NoName, ManyChildren}
use Rattle.std.specs.Prelude.{Result, Ok, Err}
use Rattle.fields.specs.declared.fault.AtLine.{AtLine}
use Rattle.sheet.specs.AtLine.{at_line}

-- 1 to 5 digits, the first not 0
abbrev pub is_cue_number : Text → Bool
is_cue_number x = leb 1 (length x) && (leb (length x) 5 && (not (eqb (get_or x 0 0) (code "0")) && all is_digit x))

-- the children of a cue line
abbrev pub children : Text → List Text
children l = drop 3 (fields l)

-- a line that is a cue's: it has its three fields, and no more children than the limit
pub record CueFits (l : Text) : Type 0 where
  pub enough : 3 ≤ length (fields l)
  pub few : length (children l) ≤ max_row
  pub short : length l ≤ max_file

-- a line behind one with the number p: its own number, or what is wrong with it
abbrev pub cue_line : ℕ → Text → Result ℕ CueFault
cue_line p l =
    cond (ltb (length (fields l)) 3 || not (same_text (field 0 l) (bytes "cue"))) (Err BadFields)
    (cond (not (is_cue_number (field 1 l))) (Err BadNumber)
    (cond (leb (value (field 1 l)) p) (Err NotAbove)
    (cond (not (all_names (field 2 l ∷ children l))) (Err NoName)
    (cond (ltb max_row (length (children l))) (Err ManyChildren)
    (Ok (value (field 1 l)))))))

abbrev pub by_line : Result ℕ CueFault → (ℕ → Result ℕ (AtLine CueFault)) → (CueFault → Result ℕ (AtLine CueFault)) → Result ℕ (AtLine CueFault)
by_line (Ok n) good bad = good n
by_line (Err f) good bad = bad f

-- lines behind n lines, the last of which has the number p: how many lines there are, or the first fault and its line
abbrev pub cue_lines : ℕ → ℕ → List Text → Result ℕ (AtLine CueFault)
cue_lines n p [] = Ok n
cue_lines n p (l ∷ ls) = by_line (cue_line p l) (λ q. cue_lines (suc n) q ls) (λ f. Err (at_line f (suc n)))

-- how many cues the text has, or what is wrong with it
abbrev pub cues_read : Text → Result ℕ (AtLine CueFault)
cues_read x =
    cond (ltb max_file (length x)) (Err (at_line LongFile 0))
    (cond (same_text (behind x) []) (cue_lines 0 0 (lines x))
    (Err (at_line Unended 0)))
