-- What is wrong with a line of a sheet, what it is read into, and what a sheet that was read holds. The laws are in proofs/, SheetLaws and SheetWalk.
use mathlib.Core.{Path.◌≡◌, Bool.cond, Bool.not, Bool.◌||◌, Option.Option, Option.none}
use mathlib.Core.{Option.some, List.List, List.[], List.map}
use Rattle.std.specs.Prelude.{Result, Ok, Err, ℕ, ◌+◌, ◌≤◌, ◌<◌, length, get_or}
use lib.{Dec.eqb}
use Rattle.fields.specs.{Bytes.Text, Bytes.bytes, Bytes.same_text}
use Rattle.fields.specs.{Children.short_name}
use Rattle.fields.specs.Split.{lines, fields, field, part}
use Rattle.judge.specs.{declared.reading.Names.Names}
use Rattle.judge.specs.Reading.{part_at, parts_of}
use Rattle.sheet.specs.{declared.sheet.SheetFault.SheetFault, declared.sheet.LineRead.LineRead}
use Rattle.sheet.specs.declared.sheet.SheetFault.TheVariants.{BadFields, NoKind, Repeated}
use Rattle.fields.specs.declared.fault.AtLine.{AtLine}
use Rattle.sheet.specs.{declared.sheet.Entry.Entry, declared.sheet.Sheet.Sheet, declared.sheet.SheetRead.SheetRead}
use Rattle.sheet.specs.Sheet.{max_rules, kind, model, among, line_fault, Placed, kind_place, entry_of, sheet_with}

-- what is wrong with a line, its model left aside
abbrev pub line_checked : List Text → Text → Result Unit SheetFault
line_checked ks l =
    cond (not (eqb (length (fields l)) 3) || not (same_text (field 0 l) (bytes "rule"))) (Err BadFields)
    (cond (not (short_name (kind l))) (Err NoKind)
    (cond (among ks (kind l)) (Err Repeated) (Ok tt)))

-- a value where nothing is wrong
abbrev pub unless : {A : Type 0} → Option SheetFault → A → Result A SheetFault
unless none a = Ok a
unless (some f) a = Err f

-- what a good line is read into, by its place
abbrev pub placed_read : Placed → LineRead
placed_read p = record { kind = kind_place p; entry = entry_of p }

-- what the line of the text x from at to end is read into, behind lines with these kinds
abbrev pub line_read : Text → Names → ℕ → ℕ → Result LineRead SheetFault
line_read x kinds at end = unless (line_fault (parts_of x kinds) (part x at end)) (placed_read (record { start = at; line = part x at end }))

-- what is handed back: a refused reading has no rules
abbrev pub read_of : Result Sheet (AtLine SheetFault) → SheetRead
read_of (Ok s) = record { outcome = Ok tt; sheet = s }
read_of (Err f) = record { outcome = Err f; sheet = sheet_with [] }

-- the model of the line l stands at the entry's place in the text s
pub record EntryGood (s : Text) (e : Entry) (l : Text) : Type 0 where
  pub inside : e.model.start + e.model.len ≤ length s
  pub model_is : part_at s e.model ≡ model l

-- a sheet that was read from s: its kinds, and an entry for each line
pub record Loaded (s : Text) (r : Sheet) : Type 0 where
  pub few : length (lines s) ≤ max_rules
  pub kinds_are : parts_of s r.kinds ≡ map kind (lines s)
  pub entries_good : (k : ℕ) (d : Entry) → k < length (lines s) → EntryGood s (get_or r.entries k d) (get_or (lines s) k [])
