-- A listing, a line for each cue in order and a last line: document 01, "Files"; document 02, W6.
pub mod Laws
pub mod Total
pub mod Lines
use mathlib.Core.{Path.◌≡◌, Bool.cond, List.List, List.[], List.◌∷◌, List.◌++◌, List.map}
use Rattle.std.specs.Prelude.{Option, Some, None, ℕ, zero, suc, ◌+◌, length, get_or}
use Rattle.model.specs.{declared.verdict.Verdict.Verdict, Syntax.written_names, Syntax.number_in, Fault.Answer, Fault.refused, Fault.accepted}
use Rattle.judge.specs.Answer.{answer}
use Rattle.model.specs.{Model.model_of, Model.type_of, Verdict.verdict}
use Rattle.model.specs.declared.verdict.Verdict.TheVariants.{Complete, Open, Dead}
use Rattle.fields.specs.{Bytes.Text, Bytes.bytes, Bytes.same_text, Bytes.digits}
use Rattle.fields.specs.Split.{tab, joined_by, lines, unlines, fields, field}
use Rattle.judge.specs.Named.{row_of}
use Rattle.sheet.specs.{Cues.children, Sheet.kind, Sheet.model}

-- the verdict on the row of a cue's children, or none where the sheet lacks its kind
abbrev pub Said : Type 0
Said = Option Verdict

abbrev pub word : Said → Text
word (Some Complete) = bytes "complete"
word (Some Open) = bytes "open"
word (Some Dead) = bytes "dead"
word None = bytes "nosheet"

-- of a cue line and what is said of it: number, kind, verdict, how many children
abbrev pub listing_fields : Text → Said → List Text
listing_fields l v = field 1 l ∷ (field 2 l ∷ (word v ∷ (digits (length (children l)) ∷ [])))

abbrev pub listing_line : Text → Said → Text
listing_line l v = joined_by tab (listing_fields l v)

-- how often a text stands among texts
abbrev pub times_among : Text → List Text → ℕ
times_among x [] = 0
times_among x (y ∷ ys) = cond (same_text y x) (suc (times_among x ys)) (times_among x ys)

-- how many words there are, and how often each stands among them: document 02, W6
abbrev pub totals : List Text → List ℕ
totals ws =
    length ws
    ∷ (times_among (word (Some Complete)) ws
    ∷ (times_among (word (Some Open)) ws ∷ (times_among (word (Some Dead)) ws ∷ (times_among (word None) ws ∷ []))))

-- the last line, by the words above it
abbrev pub total_line : List Text → Text
total_line ws = joined_by tab (bytes "total" ∷ map digits (totals ws))

abbrev pub word_of : Verdict → Said
word_of v = Some v

-- by the answer to a model text: the verdict on the row of the children, by the meaning of the tree that it spells (a sheet that was read has no
-- refused model: `Ends.cue-said`)
abbrev pub said_by : Answer → List Text → Said
said_by (refused f p) cs = Some Dead
said_by (accepted t) cs = word_of (verdict (type_of (model_of t)) (row_of (written_names t) cs))

-- what a model text says of children
abbrev pub said_of : Text → List Text → Said
said_of m cs = said_by (answer m) cs

-- by the sheet's line with a number from 1, or 0 for none
abbrev pub said_at : List Text → ℕ → List Text → Said
said_at ls zero cs = None
said_at ls (suc k) cs = said_of (model (get_or ls k [])) cs

-- what a sheet with these lines says of a cue line
abbrev pub said : List Text → Text → Said
said ls l = said_at ls (number_in (map kind ls) (field 2 l)) (children l)

-- a line for each cue line in order, and the last
abbrev pub listing_lines : List Text → List Text → List Text
listing_lines ls cs = map (λ l. listing_line l (said ls l)) cs ++ (total_line (map (λ l. word (said ls l)) cs) ∷ [])

abbrev pub listing : Text → Text → Text
listing s c = unlines (listing_lines (lines s) (lines c))

-- what a last line says of words, which are those of the lines above it (`Ends.total-exactly`)
pub record Totals (ws : List Text) (l : Text) : Type 0 where
  pub numbers_are : fields l ≡ bytes "total" ∷ map digits (totals ws)
  pub adds_up :
      times_among (word (Some Complete)) ws + times_among (word (Some Open)) ws + times_among (word (Some Dead)) ws + times_among (word None) ws ≡ length ws
