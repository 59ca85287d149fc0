-- The table of document 01 for a sheet and a cue list: when each refusal stands, at which line, and which one is answered.
-- Lines count from 1; what is wrong with the whole file stands at 0. Each fault looks at the text alone, not at whether another stands before it.
pub mod Order
use mathlib.Core.{Path.◌≡◌, Logic.◌⊎◌, Bool.false, List.[], List.◌∷◌}
use Rattle.std.specs.Prelude.{Result, Ok, Err, ℕ, zero, suc, ◌+◌, ◌-◌, ◌≤◌, ◌<◌, length, get_or}
use Rattle.fields.specs.{Bytes.Text, Bytes.bytes, Bytes.value, Limits.max_row, Limits.max_file, declared.fault.CueFault.CueFault, Split.lines, Split.behind}
use Rattle.fields.specs.{Split.fields, Split.field, Children.cue_number, Children.short_name, Children.all_names, Least.NoFault, Least.First}
use Rattle.fields.specs.declared.fault.CueFault.TheVariants.{LongFile as LongList, Unended as UnendedList, BadFields as BadCue, BadNumber, NotAbove, NoName}
use Rattle.fields.specs.declared.fault.CueFault.TheVariants.{ManyChildren, NoChild}
use Rattle.model.specs.Fault.{Answers, refused}
use Rattle.fields.specs.declared.fault.AtLine.{AtLine}
use Rattle.sheet.specs.{declared.sheet.SheetFault.SheetFault}
use Rattle.sheet.specs.{Cues.is_cue_number, Cues.children, Sheet.max_rules, Sheet.sheet_number, Sheet.kind, Sheet.model}
use Rattle.sheet.specs.declared.sheet.SheetFault.TheVariants.{LongFile, Unended, ManyRules, BadFields, NoKind, Repeated, Model}

-- the text has a line n, and the line
abbrev pub Line : Text → ℕ → Type 0
Line x n = (1 ≤ n) × (n ≤ length (lines x))

abbrev pub line : Text → ℕ → Text
line x zero = []
line x (suc n) = get_or (lines x) n []

-- 20, 30: over 65,535 bytes
abbrev pub Long : Text → ℕ → Type 0
Long x n = (n ≡ 0) × (max_file < length x)

-- 21, 31: the last line lacks its line feed
abbrev pub LacksFeed : Text → ℕ → Type 0
LacksFeed x n = (n ≡ 0) × ¬ (behind x ≡ [])

-- 25: an earlier line has the kind of line n
abbrev pub Earlier : Text → ℕ → Type 0
Earlier x n = (m : ℕ) × (1 ≤ m) × (m < n) × (kind (line x m) ≡ kind (line x n))

-- what is wrong with a sheet
abbrev pub SheetStands : Text → SheetFault → ℕ → Type 0
SheetStands x LongFile n = Long x n
SheetStands x Unended n = LacksFeed x n
-- 22: a 65th line
SheetStands x ManyRules n = Line x n × (n ≡ max_rules + 1)
-- 23: not three fields, or the first is not `rule`
SheetStands x BadFields n = Line x n × (¬ (length (fields (line x n)) ≡ 3) ⊎ ¬ (field 0 (line x n) ≡ bytes "rule"))
-- 24: the kind is no name of 1 to 32 characters
SheetStands x NoKind n = Line x n × (short_name (kind (line x n)) ≡ false)
SheetStands x Repeated n = Line x n × Earlier x n
-- 10 to 19: the model text of the line is refused so
SheetStands x (Model f) n = Line x n × ((p : ℕ) × Answers (model (line x n)) (refused f p))

-- by number, then the model's own, of which a line has at most one
abbrev pub sheet_rank : SheetFault → ℕ
sheet_rank LongFile = sheet_number LongFile
sheet_rank Unended = sheet_number Unended
sheet_rank ManyRules = sheet_number ManyRules
sheet_rank BadFields = sheet_number BadFields
sheet_rank NoKind = sheet_number NoKind
sheet_rank Repeated = sheet_number Repeated
sheet_rank (Model f) = suc (sheet_number Repeated)

-- what a sheet is answered
abbrev pub SheetAnswers : Text → Result Unit (AtLine SheetFault) → Type 0
SheetAnswers x (Ok _) = NoFault (SheetStands x)
SheetAnswers x (Err e) = First sheet_rank (SheetStands x) e.fault e.line

-- the number of a cue line
abbrev pub number_of : Text → ℕ
number_of l = value (field 1 l)

-- what is wrong with a cue list
abbrev pub CueStands : Text → CueFault → ℕ → Type 0
CueStands x LongList n = Long x n
CueStands x UnendedList n = LacksFeed x n
-- 32: under three fields, or the first is not `cue`
CueStands x BadCue n = Line x n × ((length (fields (line x n)) < 3) ⊎ ¬ (field 0 (line x n) ≡ bytes "cue"))
-- 33: the number is not 1 to 5 digits, or begins with 0
CueStands x BadNumber n = Line x n × (is_cue_number (field 1 (line x n)) ≡ false)
-- 34: the number is not above the line before
CueStands x NotAbove n = Line x n × ((1 < n) × (number_of (line x n) ≤ number_of (line x (n - 1))))
-- 35: the kind or a child is no name of 1 to 32 characters
CueStands x NoName n = Line x n × (all_names (field 2 (line x n) ∷ children (line x n)) ≡ false)
-- 36: over 4,096 children
CueStands x ManyChildren n = Line x n × (max_row < length (children (line x n)))
-- 37: no child is asked for
CueStands x NoChild n = ⊥

-- what a cue list is answered
abbrev pub CuesAnswers : Text → Result ℕ (AtLine CueFault) → Type 0
CuesAnswers x (Ok n) = NoFault (CueStands x) × (n ≡ length (lines x))
CuesAnswers x (Err e) = First cue_number (CueStands x) e.fault e.line
