-- Kinds and models of a sheet that is read stand at the places that are handed back: the walk over its lines, done without a text in memory.
use mathlib.Core.{Logic.by_cases, List.List, List.[], List.◌∷◌, List.◌++◌, List.map}
use Rattle.std.specs.Prelude.{Result, Ok, Err, ◌≡◌, refl, ℕ, zero, suc, ◌+◌, ◌-◌, ◌≤◌, ◌<◌, length, take, get_or, replicate}
use Rattle.std.proofs.Common.{ap, sym, subst, ◌∙◌, get_or-take}
use native.Mathlib.{Decide.dec_lt, Omega.arith}
use Rattle.std.proofs.lemmas.List.{length-map}
use Rattle.std.proofs.Math.ListN.{get_or-map}
use Rattle.fields.specs.{Limits.max_atoms, Bytes.Text, Split.line_feed, Split.lines, Split.part_end, Split.Laws.end-bounds}
use Rattle.judge.specs.declared.reading.Names.{Names}
use Rattle.judge.specs.Reading.{no_place, part_at, reading}
use Rattle.fields.specs.declared.fault.AtLine.{AtLine}
use Rattle.sheet.specs.{AtLine.at_line, AtLine.numbered, declared.sheet.LineRead.LineRead, declared.sheet.Entry.Entry, declared.sheet.Sheet.Sheet}
use Rattle.sheet.specs.{declared.sheet.SheetFault.TheVariants.ManyRules}
use Rattle.sheet.proofs.SheetGood.{not-read}
use Rattle.sheet.specs.Sheet.Line.{Loaded, line_read}
use Rattle.sheet.specs.{declared.sheet.SheetFault.SheetFault}
use Rattle.sheet.proofs.SheetGood.{lines-read}
use Rattle.sheet.specs.Sheet.{max_rules, kind, model, sheet_lines, sheet_outcome, Placed, placed_from, kind_place, entry_of, no_entry, sheet_with}
use Rattle.sheet.specs.Sheet.{sheet_by, sheet_read, HoldsLine, HoldsSheet}
use Rattle.sheet.proofs.SheetWalk.{Gone, nowhere, placed-length, gone-start, gone-many, gone-bad, gone-next, gone-loaded, gone-end}

module _ (x : Text) (read : sheet_lines 0 [] (lines x) ≡ Ok tt) where
  -- where a line is left, the walk goes on behind it
  next : {C : Type 0} (kinds : Names) (entries : List Entry) (n at : ℕ) → Gone x kinds entries n at → at < length x
      → ((kinds' : Names) (entries' : List Entry) (end : ℕ) → at ≤ end → Gone x kinds' entries' (n + 1) (end + 1) → C) → C
  next {C} kinds entries n at w h go =
      by_cases (dec_lt n max_rules) (λ o. found o (line_read x kinds at end) refl) (λ o. not-read ManyRules (n + 1) (refused (many o)))
    where
      refused : {f : SheetFault} {m : ℕ} → sheet_by [] (Err (at_line f m)) ≡ sheet_by x (sheet_lines 0 [] (lines x))
          → ◌≡◌ {A = Result Unit (AtLine SheetFault)} (Err (at_line f m)) (Ok tt)
      refused e = ap (λ r. r.outcome) e ∙ ap (λ o. (sheet_by x o).outcome) read

      end : ℕ
      end = part_end x line_feed at

      many : ¬ (n < max_rules) → sheet_by [] (Err (at_line ManyRules (n + 1))) ≡ sheet_by x (sheet_lines 0 [] (lines x))
      many o = gone-many w (omega (arith, w.few)) h

      found : n < max_rules → (r : Result LineRead SheetFault) → r ≡ line_read x kinds at end → C
      found o (Ok r) e = go _ _ end (end-bounds x line_feed at end (omega arith) refl).0 (gone-next w o h refl (ap (numbered (n + 1)) (sym e)))
      found o (Err f) e = not-read f (n + 1) (refused (gone-bad w o h refl (ap (numbered (n + 1)) (sym e))))

  ended : (kinds : Names) (entries : List Entry) (n at : ℕ) → Gone x kinds entries n at → length x ≤ at
      → Loaded x (sheet_by x (sheet_lines 0 [] (lines x))).sheet
  ended kinds entries n at w h = subst (λ r. Loaded x r.sheet) (gone-end w h) (gone-loaded w h)

  walked : (k : ℕ) (kinds : Names) (entries : List Entry) (n at : ℕ) → Gone x kinds entries n at → length x ≤ at + k
      → Loaded x (sheet_by x (sheet_lines 0 [] (lines x))).sheet
  walked zero kinds entries n at w h = ended kinds entries n at w (omega arith)
  walked (suc k) kinds entries n at w h =
      by_cases (dec_lt at (length x))
      (λ o. next kinds entries n at w o (λ kinds' entries' end i v. walked k kinds' entries' (n + 1) (end + 1) v (omega arith)))
      (λ o. ended kinds entries n at w (omega arith))

read-loaded : (x : Text) → sheet_outcome x ≡ Ok tt → Loaded x (sheet_with (placed_from 0 (lines x)))
read-loaded x e =
    let (ends, read) = lines-read x e in
    rw read at (walked x read (length x) _ _ 0 0 (gone-start {s = sheet_with []} refl ends) (omega arith))

pub sheet-loaded : (x : Text) → sheet_outcome x ≡ Ok tt → Loaded x (sheet_read x).sheet
sheet-loaded x e = rw e (read-loaded x e)

-- in front of what fills an array up, and in it
at_front : {A B : Type 0} (f : A → B) (u : B) (n : ℕ) (l : List A) (k : ℕ) (d : A) → k < length l → get_or (map f l ++ replicate n u) k u ≡ f (get_or l k d)
at_front f u n [] k d h = absurd (omega arith)
at_front f u n (a ∷ l) zero d h = refl
at_front f u n (a ∷ l) (suc k) d h = at_front f u n l k d (omega arith)

at-free : {A B : Type 0} (f : A → B) (u : B) (n : ℕ) (l : List A) (k : ℕ) → length l ≤ k → get_or (map f l ++ replicate n u) k u ≡ u
at-free f u zero [] k h = refl
at-free f u (suc n) [] zero h = refl
at-free f u (suc n) [] (suc k) h = at-free f u n [] k (omega arith)
at-free f u n (a ∷ l) zero h = absurd (omega arith)
at-free f u n (a ∷ l) (suc k) h = at-free f u n l k (omega arith)

placed-line : (p : ℕ) (ls : List Text) (k : ℕ) → (get_or (placed_from p ls) k nowhere).line ≡ get_or ls k []
placed-line p [] k = refl
placed-line p (l ∷ ls) zero = refl
placed-line p (l ∷ ls) (suc k) = placed-line (p + suc (length l)) ls k

module _ (x : Text) (e : sheet_outcome x ≡ Ok tt) where
  abbrev places : List Placed
  places = placed_from 0 (lines x)

  count : length places ≡ length (lines x)
  count = placed-length 0 (lines x)

  abbrev rules : Sheet
  rules = sheet_with places

  module _ (k : ℕ) (h : k < length (lines x)) where
    abbrev this : Placed
    this = get_or places k nowhere

    line_is : this.line ≡ get_or (lines x) k []
    line_is = placed-line 0 (lines x) k

    kind-place : get_or rules.kinds.places k no_place ≡ kind_place this
    kind-place = at_front kind_place no_place (max_atoms - length (map kind_place places)) places k nowhere (omega (arith, count))

    entry_is : get_or rules.entries k no_entry ≡ entry_of this
    entry_is = at_front entry_of no_entry (max_rules - length places) places k nowhere (omega (arith, count))

    -- by the list of all kinds
    kind-part : part_at x (get_or rules.kinds.places k no_place) ≡ kind (get_or (lines x) k [])
    kind-part =
        let long : k < rules.kinds.len = omega (arith, count, length-map places kind_place) in
        ap (part_at x) (sym (get_or-take rules.kinds.len rules.kinds.places k no_place long))
        ∙ sym (get_or-map (part_at x) (take rules.kinds.len rules.kinds.places) k no_place)
        ∙ ap (λ l. get_or l k []) (read-loaded x e).kinds_are
        ∙ get_or-map kind (lines x) k []

    holds : HoldsLine x rules k (get_or (lines x) k [])
    holds =
        record {
          kind_stands = (kind-part, ap (λ p. p.len) kind-place ∙ ap (λ l. length (kind l)) line_is);
          model_stands = (((read-loaded x e).entries_good k no_entry h).model_is, ap (λ q. q.model.len) entry_is ∙ ap (λ l. length (model l)) line_is);
          rule_is = ap (λ q. q.rule) entry_is ∙ ap (λ l. (reading (model l)).rule) line_is;
          names_are = ap (λ q. q.names) entry_is ∙ ap (λ l. (reading (model l)).names) line_is;
        }

  pub places_are : HoldsSheet x (sheet_read x).sheet
  places_are =
      rw e
      (record {
        count_is = length-map places kind_place ∙ count;
        holds_line = holds;
        kind_free = λ k h. at-free kind_place no_place (max_atoms - length (map kind_place places)) places k (omega (arith, count));
        entry_free = λ k h. at-free entry_of no_entry (max_rules - length places) places k (omega (arith, count));
      })
