-- A sheet with each model written in its one way: document 02, W4. Kinds and the order of lines stay. Below it:
--   Line, Laws      a line and a sheet as the code writes them; the answer by the table
--   Visible, Again  no separator stands in a model; what a tidied sheet is when it is read
pub mod Line
pub mod Laws
pub mod Visible
pub mod Again
use mathlib.Core.{Path.◌≡◌, Logic.◌↔◌, Bool.cond, List.List, List.[], List.◌∷◌, List.◌++◌}
use Rattle.std.specs.Prelude.{ℕ, ◌≤◌, ◌<◌, Result, Ok, Err}
use lib.{Dec.leb, ListN.length, ListN.drop}
use Rattle.fields.specs.{Bytes.Text, Bytes.bytes, Split.line_feed, Split.tab, Split.lines, Least.NoFault, Least.First}
use Rattle.model.specs.{Fault.Answer, Fault.Answers, Fault.refused, Fault.accepted, Syntax.Syntax, Flatten.nil}
use Rattle.judge.specs.Answer.{answer}
use Rattle.fields.specs.declared.fault.AtLine.{AtLine}
use Rattle.sheet.specs.{declared.sheet.SheetFault.SheetFault, declared.refusal.Refusal.Refusal, declared.refusal.Source.Source}
use Rattle.sheet.specs.{Sheet.kind, Sheet.model, Sheet.sheet_number, Sheet.sheet_outcome, Refusal.SheetStands, Refusal.sheet_rank, RefusalLine.too_long}
use Rattle.canonical.specs.Canonical.{canonical, canonical_text, HoldsNames}
use Rattle.tidying.specs.declared.write.TidyFault.{TidyFault, TheVariants.Sheet, TheVariants.TooLong}

-- the tree that a model text spells; a sheet that was read has no other (`sheet-exactly` in sheet/Ends)
abbrev pub tree_in : Answer → Syntax
tree_in (accepted t) = t
tree_in (refused f p) = nil

abbrev pub tidy_model : Text → Text
tidy_model m = canonical_text (tree_in (answer m))

abbrev pub tidy_line : Text → Text
tidy_line l = bytes "rule" ++ (tab ∷ (kind l ++ (tab ∷ (tidy_model (model l) ++ (line_feed ∷ [])))))

abbrev pub tidy_lines : List Text → Text
tidy_lines [] = []
tidy_lines (l ∷ ls) = tidy_line l ++ tidy_lines ls

abbrev pub tidy_sheet : Text → Text
tidy_sheet x = tidy_lines (lines x)

-- what a line l is in the tidied sheet, y: the kind is kept, and the model has the same rows of names as written
pub record LineKept (l y : Text) : Type 0 where
  pub same_kind : kind y ≡ kind l
  pub tree : Syntax
  pub was : Answers (model l) (accepted tree)
  pub is_now : Answers (model y) (accepted (canonical tree))
  pub same_rows : (w : List Text) → HoldsNames (canonical tree) w ↔ HoldsNames tree w

-- the sheet's own refusal first; 50 where the tidied sheet is longer than the buffer's size
abbrev pub tidied_by : Result Unit (AtLine SheetFault) → Result ℕ TidyFault → Result ℕ TidyFault
tidied_by (Ok _) good = good
tidied_by (Err f) good = Err (Sheet f)

abbrev pub sheet_tidied : Text → ℕ → Result ℕ TidyFault
sheet_tidied x size = tidied_by (sheet_outcome x) (cond (leb (length (tidy_sheet x)) size) (Ok (length (tidy_sheet x))) (Err TooLong))

-- by the table: the sheet's own first (sheet/Refusal), and 50 last
abbrev pub TidiedAnswers : Text → ℕ → Result ℕ TidyFault → Type 0
TidiedAnswers x size (Err (Sheet f)) = First sheet_rank (SheetStands x) f.fault f.line
TidiedAnswers x size (Err TooLong) = NoFault (SheetStands x) × (size < length (tidy_sheet x))
TidiedAnswers x size (Ok n) = NoFault (SheetStands x) × (length (tidy_sheet x) ≤ size) × (n ≡ length (tidy_sheet x))

-- the buffer after: the tidied sheet and the bytes behind it as they were; a refusal changes none
abbrev pub buffer_tidied : Result ℕ TidyFault → Text → Text → Text
buffer_tidied (Ok n) new old = new ++ drop n old
buffer_tidied (Err f) new old = old

-- document 01's numbers; 50 has no line, and a sheet that was tidied no refusal
abbrev pub tidied_number : Result ℕ TidyFault → ℕ
tidied_number (Ok n) = 0
tidied_number (Err (Sheet f)) = sheet_number f.fault
tidied_number (Err TooLong) = too_long

abbrev pub tidied_line : Result ℕ TidyFault → ℕ
tidied_line (Ok n) = 0
tidied_line (Err (Sheet f)) = f.line
tidied_line (Err TooLong) = 0

abbrev pub tidied_refusal : Result ℕ TidyFault → Refusal
tidied_refusal r = record { source = Source.Sheet; number = tidied_number r; line = tidied_line r }
