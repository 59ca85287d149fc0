-- A sheet: document 01, "Files" and refusals 20 to 25. Size and last line come first, then the lines in order, in each the rest by number, then the
-- model's own.
pub mod Line
use mathlib.Core.{Bool.Bool, Bool.false, Bool.cond, Bool.not, Bool.◌||◌, Option.Option, Option.none, Option.some, List.List, List.[], List.◌∷◌, List.◌++◌}
use mathlib.Core.{Path.◌≡◌, List.map}
use Rattle.std.specs.Prelude.{Result, Ok, Err, ℕ, suc, ◌+◌, ◌-◌, ◌≤◌, ◌<◌}
use lib.{Dec.leb, Dec.ltb, Dec.eqb, ListN.length, ListN.get_or, ListN.replicate}
use Rattle.fields.specs.{Limits.max_file, Bytes.Text, Bytes.bytes, Bytes.same_text, Split.lines, Split.behind, Split.fields, Split.field, Children.short_name}
use Rattle.judge.specs.{declared.reading.NamePlace.NamePlace, Reading.no_place, Reading.names_with, Reading.reading, Reading.part_at}
use Rattle.model.specs.Fault.{Answer, refused, accepted, model_number}
use Rattle.judge.specs.Answer.{answer}
use Rattle.fields.specs.declared.fault.AtLine.{AtLine}
use Rattle.sheet.specs.{declared.sheet.SheetFault.SheetFault, AtLine.at_line, declared.sheet.Entry.Entry}
use Rattle.sheet.specs.{declared.sheet.Sheet.Sheet, declared.sheet.SheetRead.SheetRead}
use Rattle.sheet.specs.declared.sheet.SheetFault.TheVariants.{LongFile, Unended, ManyRules, BadFields, NoKind, Repeated, Model}

abbrev pub max_rules : ℕ
max_rules = 64

-- document 01's numbers
abbrev pub sheet_number : SheetFault → ℕ
sheet_number LongFile = 20
sheet_number Unended = 21
sheet_number ManyRules = 22
sheet_number BadFields = 23
sheet_number NoKind = 24
sheet_number Repeated = 25
sheet_number (Model f) = model_number f

-- of a line: `rule`, kind, model
abbrev pub kind : Text → Text
kind l = field 1 l

abbrev pub model : Text → Text
model l = field 2 l

abbrev pub among : List Text → Text → Bool
among [] x = false
among (k ∷ ks) x = same_text k x || among ks x

abbrev pub model_fault : Answer → Option SheetFault
model_fault (refused f p) = some (Model f)
model_fault (accepted t) = none

-- what is wrong with a line behind lines with these kinds, if anything is
abbrev pub line_fault : List Text → Text → Option SheetFault
line_fault ks l =
    cond (not (eqb (length (fields l)) 3) || not (same_text (field 0 l) (bytes "rule"))) (some BadFields)
    (cond (not (short_name (kind l))) (some NoKind)
    (cond (among ks (kind l)) (some Repeated)
    (model_fault (answer (model l)))))

abbrev pub by_fault : Option SheetFault → Result Unit (AtLine SheetFault) → (SheetFault → Result Unit (AtLine SheetFault)) → Result Unit (AtLine SheetFault)
by_fault none good bad = good
by_fault (some f) good bad = bad f

-- lines behind n lines with these kinds: all good, or the first fault and its line
abbrev pub sheet_lines : ℕ → List Text → List Text → Result Unit (AtLine SheetFault)
sheet_lines n ks [] = Ok tt
sheet_lines n ks (l ∷ ls) =
    cond (leb max_rules n) (Err (at_line ManyRules (suc n)))
    (by_fault (line_fault ks l) (sheet_lines (suc n) (ks ++ (kind l ∷ [])) ls) (λ f. Err (at_line f (suc n))))

abbrev pub sheet_outcome : Text → Result Unit (AtLine SheetFault)
sheet_outcome x =
    cond (ltb max_file (length x)) (Err (at_line LongFile 0))
    (cond (same_text (behind x) []) (sheet_lines 0 [] (lines x))
    (Err (at_line Unended 0)))

-- a line with the place of its first byte in the text
pub record Placed : Type 0 where
  pub start : ℕ
  pub line : Text

abbrev pub placed_from : ℕ → List Text → List Placed
placed_from p [] = []
placed_from p (l ∷ ls) = record { start = p; line = l } ∷ placed_from (p + suc (length l)) ls

-- behind `rule` and a tab; behind the kind and a tab
abbrev pub kind_place : Placed → NamePlace
kind_place p = record { start = p.start + 5; len = length (kind p.line) }

abbrev pub model_place : Placed → NamePlace
model_place p = record { start = p.start + (6 + length (kind p.line)); len = length (model p.line) }

abbrev pub entry_of : Placed → Entry
entry_of p = record { model = model_place p; rule = (reading (model p.line)).rule; names = (reading (model p.line)).names }

-- what a place holds that no line fills
abbrev pub no_entry : Entry
no_entry = record { model = no_place; rule = (reading []).rule; names = (reading []).names }

abbrev pub sheet_with : List Placed → Sheet
sheet_with ps = record { kinds = names_with (map kind_place ps); entries = map entry_of ps ++ replicate (max_rules - length ps) no_entry }

-- a refused reading has no rules
abbrev pub sheet_by : Text → Result Unit (AtLine SheetFault) → SheetRead
sheet_by x (Ok _) = record { outcome = Ok tt; sheet = sheet_with (placed_from 0 (lines x)) }
sheet_by x (Err f) = record { outcome = Err f; sheet = sheet_with [] }

abbrev pub sheet_read : Text → SheetRead
sheet_read x = sheet_by x (sheet_outcome x)

-- the text y stands in x at the place p
abbrev pub StandsAt : Text → NamePlace → Text → Type 0
StandsAt x p y = (part_at x p ≡ y) × (p.len ≡ length y)

-- what the rules r hold of line k, which is l, of the text x (`Ends.places-exactly`)
pub record HoldsLine (x : Text) (r : Sheet) (k : ℕ) (l : Text) : Type 0 where
  pub kind_stands : StandsAt x (get_or r.kinds.places k no_place) (kind l)
  pub model_stands : StandsAt x (get_or r.entries k no_entry).model (model l)
  pub rule_is : (get_or r.entries k no_entry).rule ≡ (reading (model l)).rule
  pub names_are : (get_or r.entries k no_entry).names ≡ (reading (model l)).names

pub record HoldsSheet (x : Text) (r : Sheet) : Type 0 where
  pub count_is : r.kinds.len ≡ length (lines x)
  pub holds_line : (k : ℕ) → k < length (lines x) → HoldsLine x r k (get_or (lines x) k [])
  pub kind_free : (k : ℕ) → length (lines x) ≤ k → get_or r.kinds.places k no_place ≡ no_place
  pub entry_free : (k : ℕ) → length (lines x) ≤ k → get_or r.entries k no_entry ≡ no_entry
