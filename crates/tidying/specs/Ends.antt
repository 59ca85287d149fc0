-- The ends: what a sheet is answered, by the table, and what a tidied sheet is. Each proof is a citation.
use mathlib.Core.{Path.◌≡◌, Logic.◌↔◌, List.[]}
use Rattle.std.specs.Prelude.{ℕ, ◌≤◌, ◌<◌, length, get_or, Result, Ok}
use Rattle.fields.specs.{Bytes.Text, Split.lines, Limits.max_file}
use Rattle.sheet.specs.{Sheet.sheet_outcome}
use Rattle.tidying.specs.{declared.write.TidyFault.TidyFault, Tidying.tidy_sheet, Tidying.LineKept, Tidying.sheet_tidied, Tidying.TidiedAnswers}
use Rattle.tidying.specs.Tidying.{Laws.tidied-is, Again.lines-counted, Again.line_kept, Again.tidied-read, Again.tidied-twice}

-- Demand 1: the sheet's refusal, else 50 where the tidied sheet is longer than the buffer, else its length.
pub tidied-exactly : (x : Text) (size : ℕ) (r : Result ℕ TidyFault) → (sheet_tidied x size ≡ r) ↔ TidiedAnswers x size r
tidied-exactly = tidied-is

-- There are as many lines. Each keeps its place and its kind, and its model has the same rows, and is written in the one way.
pub same_count : (x : Text) → sheet_outcome x ≡ Ok tt → length (lines (tidy_sheet x)) ≡ length (lines x)
same_count = lines-counted

pub lines-kept : (x : Text) → sheet_outcome x ≡ Ok tt → (i : ℕ) → i < length (lines x) → LineKept (get_or (lines x) i []) (get_or (lines (tidy_sheet x)) i [])
lines-kept = line_kept

-- A tidied sheet is read, if it is not longer than a file may be.
pub reads-again : (x : Text) → sheet_outcome x ≡ Ok tt → length (tidy_sheet x) ≤ max_file → sheet_outcome (tidy_sheet x) ≡ Ok tt
reads-again = tidied-read

-- Tidied again it is the same bytes.
pub same-again : (x : Text) → sheet_outcome x ≡ Ok tt → tidy_sheet (tidy_sheet x) ≡ tidy_sheet x
same-again = tidied-twice
