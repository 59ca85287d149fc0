-- How a sheet is tidied: the lines one behind the other, and the answer.
use mathlib.Core.{Path.◌≡◌, Path.refl, Logic.inl, Logic.inr, Logic.by_cases, Logic.◌↔◌}
use mathlib.Core.{Bool.Bool, Bool.true, Bool.false, Bool.cond}
use Rattle.std.specs.Prelude.{ℕ, suc, ◌*◌, ◌≤◌, ◌<◌, length, get_or, List, [], ◌∷◌, Result, Ok, Err}
use native.Mathlib.{Decide.dec_le, Omega.arith}
use lib.{Dec.eqb, Dec.leb}
use Rattle.std.proofs.Common.{length-append, eqb-true, leb-true, leb-false, le-leb}
use Rattle.std.proofs.lemmas.Bool.{eqb-false, lt-leb}
use Rattle.fields.specs.{Tests.by-test, Tests.untold, Bytes.Text, Bytes.bytes, Bytes.same_text}
use Rattle.fields.specs.{Bytes.Laws.same_text-is, Limits.max_file, Least.NoFault, Children.short_name}
use Rattle.fields.specs.Split.{lines, behind, fields, field}
use Rattle.sheet.specs.{declared.sheet.SheetFault.SheetFault, Refusal.Line, Refusal.SheetStands, Refusal.SheetAnswers}
use Rattle.sheet.specs.{Sheet.kind, Sheet.sheet_outcome}
use Rattle.sheet.proofs.{Ends.sheet-exactly, SheetGood.lines-read, SheetGood.line-accepted}
use Rattle.sheet.specs.declared.sheet.SheetFault.TheVariants.{LongFile, BadFields, NoKind}
use Rattle.fields.specs.declared.fault.AtLine.{AtLine}
use Rattle.tidying.specs.declared.write.TidyFault.{TidyFault, TheVariants.Sheet, TheVariants.TooLong}
use Rattle.tidying.specs.Tidying.{tidy_lines, tidy_sheet, tidied_by, sheet_tidied, TidiedAnswers, Line.RuleFits, Line.rule-short}

abbrev pub AllFit : List Text → Type 0
AllFit ls = (i : ℕ) → i < length ls → RuleFits (get_or ls i [])

pub rest-fit : (l : Text) (ls : List Text) → AllFit (l ∷ ls) → AllFit ls
rest-fit l ls f i h = f (suc i) (omega arith)

-- a sheet that was read
pub record GoodSheet (x : Text) : Type 0 where
  pub ended : behind x ≡ []
  pub short : length x ≤ max_file
  pub fit : AllFit (lines x)

pub lines-short : (ls : List Text) → AllFit ls → length (tidy_lines ls) ≤ 4096 * length ls
lines-short [] f = omega arith
lines-short (l ∷ ls) f =
    rw length-append (omega (arith, rule-short (f 0 (omega arith)), lines-short ls (rest-fit l ls f)))

module _ (x : Text) (read : sheet_outcome x ≡ Ok tt) where
  clear : NoFault (SheetStands x)
  clear = (sheet-exactly x (Ok tt)).0 read

  module _ (i : ℕ) (h : i < length (lines x)) where
    abbrev l : Text
    l = get_or (lines x) i []

    here : Line x (suc i)
    here = (omega arith, omega arith)

    line-fits : RuleFits l
    line-fits = record {
      three = by-test (eqb (length (fields l)) 3) (eqb-true (length (fields l)) 3) (λ t. absurd (clear BadFields (suc i) (here, inl (eqb-false _ 3 t))));
      word =
          let s = same_text-is (field 0 l) (bytes "rule") in
          by-test (same_text (field 0 l) (bytes "rule")) s.0 (λ t. absurd (clear BadFields (suc i) (here, inr (untold _ s t))));
      named = by-test (short_name (kind l)) (λ t. t) (λ t. absurd (clear NoKind (suc i) (here, t)));
      is_accepted = line-accepted x read i h;
    }

  pub good-sheet : GoodSheet x
  good-sheet = record {
    ended = (lines-read x read).0;
    short = by_cases (dec_le (length x) max_file) (λ h. h) (λ h. absurd (clear LongFile 0 (refl, omega arith)));
    fit = line-fits;
  }

-- the answer, by the table
module _ (x : Text) (size : ℕ) where
  tidies-by : (o : Result Unit (AtLine SheetFault)) → SheetAnswers x o
      → TidiedAnswers x size (tidied_by o (cond (leb (length (tidy_sheet x)) size) (Ok (length (tidy_sheet x))) (Err TooLong)))
  tidies-by (Err f) h = h
  tidies-by (Ok _) h = by-test (leb (length (tidy_sheet x)) size) (λ e. rw e (h, leb-true _ _ e, refl)) (λ e. rw e (h, leb-false _ _ e))

  tidies-only : (r : Result ℕ TidyFault) → TidiedAnswers x size r → sheet_tidied x size ≡ r
  tidies-only (Err (Sheet f)) h = rw ((sheet-exactly x (Err f)).1 h)
  tidies-only (Err TooLong) (h, i) = rw ((sheet-exactly x (Ok tt)).1 h, lt-leb _ _ i)
  tidies-only (Ok n) (h, i, e) = rw ((sheet-exactly x (Ok tt)).1 h, le-leb _ _ i, e)

  pub tidied-is : (r : Result ℕ TidyFault) → (sheet_tidied x size ≡ r) ↔ TidiedAnswers x size r
  tidied-is r = (λ e. rw e at (tidies-by (sheet_outcome x) ((sheet-exactly x (sheet_outcome x)).0 refl)), tidies-only r)

-- what is written is no longer than the buffer
pub tidied-fits : (x : Text) (room : ℕ) {n : ℕ} → Ok n ≡ sheet_tidied x room → n ≤ room
tidied-fits x room {n} e =
    let m = length (tidy_sheet x) in
    go (sheet_outcome x) (leb m room) m (leb-true m room) e
  where
    go : (o : Result Unit (AtLine SheetFault)) (t : Bool) (m : ℕ) → (t ≡ true → m ≤ room) → Ok n ≡ tidied_by o (cond t (Ok m) (Err TooLong)) → n ≤ room
    go (Err f) t m h e = absurd (cc)
    go (Ok _) false m h e = absurd (cc)
    go (Ok _) true m h e = let z : n ≡ m = cc in omega (arith, z, h refl)
