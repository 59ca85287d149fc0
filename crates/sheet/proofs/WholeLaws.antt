-- What the tests of the whole file tell of what a sheet and a cue list are answered.
use mathlib.Core.{Bool.true, List.[]}
use lib.{Dec.ltb, ListN.length}
use Rattle.std.specs.Prelude.{◌≡◌, Ok, Err, ◌≤◌}
use Rattle.std.proofs.Common.{ap, ltb-false, le-ltb}
use Rattle.fields.specs.declared.{fault.AtLine.AtLine, fault.CueFault.CueFault}
use Rattle.fields.specs.declared.fault.CueFault.TheVariants.{LongFile as LongList, Unended as UnendedList}
use Rattle.fields.specs.{Tests.by-test, Limits.max_file, Bytes.Text, Bytes.same_text, Bytes.Laws.same_text-is, Split.lines, Split.behind}
use Rattle.sheet.specs.declared.sheet.SheetFault.{SheetFault, TheVariants.LongFile, TheVariants.Unended}
use Rattle.sheet.specs.{AtLine.at_line, AtLine.whole, Cues.cue_lines, Cues.cues_read, Sheet.sheet_lines, Sheet.sheet_outcome}

module _ (x : Text) where
  whole-ok : {F : Type 0} (l u : F) → whole x l u ≡ Ok tt → (length x ≤ max_file) × (same_text (behind x) [] ≡ true)
  whole-ok l u e =
      by-test (ltb max_file (length x))
      (λ a. let z = rw a at e in cc z)
      (λ a. by-test (same_text (behind x) []) (λ b. (ltb-false max_file (length x) a, b)) (λ b. let z = rw (a, b) at e in cc z))

  pub cues-begin : whole x LongList UnendedList ≡ Ok tt → cues_read x ≡ cue_lines 0 0 (lines x)
  cues-begin e = let w = whole-ok LongList UnendedList e in rw (le-ltb max_file (length x) w.0, w.1)

  pub cues-refused : {f : AtLine CueFault} → whole x LongList UnendedList ≡ Err f → cues_read x ≡ Err f
  cues-refused {f} e =
      by-test (ltb max_file (length x))
      (λ a. let z = rw a at e in let k : at_line LongList 0 ≡ f = cc z in rw a (ap Err k))
      (λ a. by-test (same_text (behind x) [])
      (λ b. let z = rw (a, b) at e in cc z)
      (λ b. let z = rw (a, b) at e in let k : at_line UnendedList 0 ≡ f = cc z in rw (a, b) (ap Err k)))

  pub sheet-whole : whole x LongFile Unended ≡ Ok tt → (length x ≤ max_file) × (behind x ≡ [])
  sheet-whole e = let w = whole-ok LongFile Unended e in (w.0, (same_text-is (behind x) []).0 w.1)

  pub sheet-begin : whole x LongFile Unended ≡ Ok tt → sheet_outcome x ≡ sheet_lines 0 [] (lines x)
  sheet-begin e = let w = whole-ok LongFile Unended e in rw (le-ltb max_file (length x) w.0, w.1)

  pub sheet-refused : {f : AtLine SheetFault} → whole x LongFile Unended ≡ Err f → sheet_outcome x ≡ Err f
  sheet-refused {f} e =
      by-test (ltb max_file (length x))
      (λ a. rw a (rw a at e))
      (λ a. by-test (same_text (behind x) []) (λ b. let z = rw (a, b) at e in cc z) (λ b. rw (a, b) (rw (a, b) at e)))
