-- A tidied sheet is read again, if a file may be so long, and is its own tidied sheet.
use mathlib.Core.{Bool.true, Bool.cond, Bool.not, Bool.◌||◌, Option.Option, Option.none, Option.some}
use Rattle.std.specs.Prelude.{◌≡◌, refl, List, [], ◌∷◌, ◌++◌, map, ℕ, zero, suc, ◌≤◌, ◌<◌, Result, Ok, Err}
use Rattle.std.proofs.Common.{sym, ap, ap₂, ◌∙◌, append_assoc, arith, le-ltb}
use lib.{Dec.T, Dec.leb, Dec.eqb, ListN.length, ListN.get_or, ListN.length-map}
use Rattle.std.proofs.Math.Facts.{yes_and}
use Rattle.fields.specs.{Limits.max_file, Bytes.Text, Bytes.bytes, Bytes.same_text, Bytes.all, Bytes.Runs.all_append, Children.short_name}
use Rattle.fields.specs.Split.{line_feed, tab, lines, behind, unlines, fields, other, none_has, Joined.split-joined, Joined.lines-unlines, Joined.passed-lacks}
use Rattle.model.specs.{Syntax.text, Fault.accepted}
use Rattle.judge.specs.Answer.{answer, answer-is}
use Rattle.fields.specs.declared.fault.AtLine.{AtLine}
use Rattle.sheet.specs.{declared.sheet.SheetFault.SheetFault, AtLine.at_line}
use Rattle.sheet.specs.declared.sheet.SheetFault.TheVariants.{ManyRules, BadFields, NoKind, Repeated}
use Rattle.sheet.specs.Sheet.{max_rules, kind, model, among, model_fault, line_fault, by_fault, sheet_lines, sheet_outcome}
use Rattle.sheet.proofs.SheetGood.{Accepted, lines-read}
use Rattle.canonical.specs.{Canonical.canonical, Canonical.Accepted.canonical-formed, Ends.text-accepted, Ends.same_rows, Ends.written_twice}
use Rattle.tidying.specs.Tidying.{tidy_model, tidy_line, tidy_lines, tidy_sheet, LineKept, Laws.good-sheet, Laws.AllFit, Laws.rest-fit}
use Rattle.tidying.specs.Tidying.Line.{RuleFits, tree_is, kind-named, fields-are}
use Rattle.tidying.specs.Tidying.Visible.{visible, Visible, name-visible, text-visible}

-- the model
module _ {m : Text} (a : Accepted m) where
  model-visible : Visible (tidy_model m)
  model-visible = rw (tree_is a) (text-visible (canonical a.0) (canonical-formed a.0 a.1.1.formed))

  answer-again : answer (tidy_model m) ≡ accepted (canonical a.0)
  answer-again =
      let t = a.0 in
      sym (answer-is (tidy_model m) (accepted (canonical t)) (rw (tree_is a) (text-accepted m t a.1)))

  model-again : tidy_model (tidy_model m) ≡ tidy_model m
  model-again = rw (answer-again, tree_is a) (ap text (written_twice a.0))

  model-good : (model_fault (answer (tidy_model m)) ≡ none) × (model_fault (answer m) ≡ none)
  model-good = (rw answer-again, rw (tree_is a))

-- a tidied line without its line feed
abbrev bare : Text → Text
bare l = bytes "rule" ++ (tab ∷ (kind l ++ (tab ∷ tidy_model (model l))))

-- what is wrong with a line that has these fields
abbrev fault_of : List Text → List Text → Option SheetFault
fault_of ks fs =
    cond (not (eqb (length fs) 3) || not (same_text (get_or fs 0 []) (bytes "rule"))) (some BadFields)
    (cond (not (short_name (get_or fs 1 []))) (some NoKind)
    (cond (among ks (get_or fs 1 [])) (some Repeated)
    (model_fault (answer (get_or fs 2 [])))))

module _ {l : Text} (r : RuleFits l) where
  kind_free : (s : ℕ) → T (not (visible s)) → T (all (other s) (kind l))
  kind_free s h = passed-lacks visible s h (kind l) (name-visible (kind l) (rw (kind-named r).0 tt))

  model-free : (s : ℕ) → T (not (visible s)) → T (all (other s) (tidy_model (model l)))
  model-free s h = passed-lacks visible s h (tidy_model (model l)) (model-visible r.is_accepted)

  bare-fields : fields (bare l) ≡ bytes "rule" ∷ (kind l ∷ (tidy_model (model l) ∷ []))
  bare-fields =
      let model-lacks = yes_and (all (other tab) (tidy_model (model l))) true (model-free tab tt) tt in
      split-joined tab (bytes "rule") (kind l ∷ (tidy_model (model l) ∷ []))
      (yes_and (all (other tab) (kind l)) (none_has tab (tidy_model (model l) ∷ [])) (kind_free tab tt) model-lacks)

  bare-free : T (all (other line_feed) (bare l))
  bare-free =
      all_append (other line_feed) (kind l) (tab ∷ tidy_model (model l)) (kind_free line_feed tt) (model-free line_feed tt)

  kind-same : kind (bare l) ≡ kind l
  kind-same = ap (λ fs. get_or fs 1 []) bare-fields

  line_same : tidy_line (bare l) ≡ tidy_line l
  line_same =
      ap (λ fs. bytes "rule" ++ (tab ∷ (get_or fs 1 [] ++ (tab ∷ (tidy_model (get_or fs 2 []) ++ (line_feed ∷ [])))))) bare-fields
      ∙ ap (λ m. bytes "rule" ++ (tab ∷ (kind l ++ (tab ∷ (m ++ (line_feed ∷ [])))))) (model-again r.is_accepted)

  fault-same : (ks : List Text) → line_fault ks (bare l) ≡ line_fault ks l
  fault-same ks =
      let g = model-good r.is_accepted in
      ap (fault_of ks) bare-fields ∙ rw (g.0, ← g.1) (ap (fault_of ks) (sym (fields-are r)))

-- the lines
-- each line with its line feed
unlines-bare : (ls : List Text) → tidy_lines ls ≡ unlines (map bare ls)
unlines-bare [] = refl
unlines-bare (l ∷ ls) = ap₂ (λ x y. x ++ y) (regrouped (bytes "rule") (kind l) (tidy_model (model l))) (unlines-bare ls)
  where
    regrouped : (a b c : Text) → a ++ (tab ∷ (b ++ (tab ∷ (c ++ (line_feed ∷ []))))) ≡ (a ++ (tab ∷ (b ++ (tab ∷ c)))) ++ (line_feed ∷ [])
    regrouped a b c = simp append_assoc

bare-lack : (ls : List Text) → AllFit ls → T (none_has line_feed (map bare ls))
bare-lack [] f = tt
bare-lack (l ∷ ls) f =
    yes_and (all (other line_feed) (bare l)) (none_has line_feed (map bare ls)) (bare-free (f 0 (omega arith))) (bare-lack ls (rest-fit l ls f))

split-again : (ls : List Text) → AllFit ls → (lines (tidy_lines ls) ≡ map bare ls) × (behind (tidy_lines ls) ≡ [])
split-again ls f = rw (unlines-bare ls) (lines-unlines (map bare ls) (bare-lack ls f))

lines-again : (ls : List Text) → AllFit ls → tidy_lines (map bare ls) ≡ tidy_lines ls
lines-again [] f = refl
lines-again (l ∷ ls) f =
    ap (λ x. x ++ tidy_lines (map bare ls)) (line_same (f 0 (omega arith))) ∙ ap (λ x. tidy_line l ++ x) (lines-again ls (rest-fit l ls f))

read_again : (ls : List Text) → AllFit ls → (n : ℕ) (ks : List Text) → sheet_lines n ks (map bare ls) ≡ sheet_lines n ks ls
read_again [] f n ks = refl
read_again (l ∷ ls) f n ks =
    let r = f 0 (omega arith) in
    ap (λ o. then o (sheet_lines (suc n) (ks ++ (kind (bare l) ∷ [])) (map bare ls))) (fault-same r ks)
    ∙ ap (λ k. then (line_fault ks l) (sheet_lines (suc n) (ks ++ (k ∷ [])) (map bare ls))) (kind-same r)
    ∙ ap (then (line_fault ks l)) (read_again ls (rest-fit l ls f) (suc n) (ks ++ (kind l ∷ [])))
  where
    then : Option SheetFault → Result Unit (AtLine SheetFault) → Result Unit (AtLine SheetFault)
    then o rest = cond (leb max_rules n) (Err (at_line ManyRules (suc n))) (by_fault o rest (λ g. Err (at_line g (suc n))))

bare-at : (ls : List Text) (i : ℕ) → i < length ls → get_or (map bare ls) i [] ≡ bare (get_or ls i [])
bare-at [] i h = absurd (omega arith)
bare-at (l ∷ ls) zero h = refl
bare-at (l ∷ ls) (suc i) h = bare-at ls i (omega arith)

-- the sheet
module _ (x : Text) (read : sheet_outcome x ≡ Ok tt) where
  fit : AllFit (lines x)
  fit = (good-sheet x read).fit

  lines_are : lines (tidy_sheet x) ≡ map bare (lines x)
  lines_are = (split-again (lines x) fit).0

  pub lines-counted : length (lines (tidy_sheet x)) ≡ length (lines x)
  lines-counted = ap length lines_are ∙ length-map (lines x) bare

  pub line_kept : (i : ℕ) → i < length (lines x) → LineKept (get_or (lines x) i []) (get_or (lines (tidy_sheet x)) i [])
  line_kept i h =
      let r = fit i h in
      let a = r.is_accepted in
      let l = get_or (lines x) i [] in
      let e : get_or (lines (tidy_sheet x)) i [] ≡ bare l = ap (λ ls. get_or ls i []) lines_are ∙ bare-at (lines x) i h in
      let m : model (get_or (lines (tidy_sheet x)) i []) ≡ tidy_model (model l) = ap model e ∙ ap (λ fs. get_or fs 2 []) (bare-fields r) in
      record {
        same_kind = ap kind e ∙ kind-same r;
        tree = a.0;
        was = a.1;
        is_now = rw (m, tree_is a) (text-accepted (model l) a.0 a.1);
        same_rows = same_rows (model l) a.0 a.1;
      }

  pub tidied-twice : tidy_sheet (tidy_sheet x) ≡ tidy_sheet x
  tidied-twice = ap tidy_lines lines_are ∙ lines-again (lines x) fit

  pub tidied-read : length (tidy_sheet x) ≤ max_file → sheet_outcome (tidy_sheet x) ≡ Ok tt
  tidied-read h =
      rw (le-ltb max_file (length (tidy_sheet x)) h, (split-again (lines x) fit).1, lines_are) (read_again (lines x) fit 0 [] ∙ (lines-read x read).1)
