-- The one line that a program prints on a refusal: document 01, "Files".
pub mod Laws
use Rattle.std.specs.Prelude.{[], ◌∷◌, ◌++◌, ℕ}
use Rattle.fields.specs.{Bytes.Text, Bytes.bytes, Bytes.digits, Split.line_feed, Split.tab}
use Rattle.sheet.specs.declared.refusal.Source.{Source}

abbrev pub source_word : Source → Text
source_word Source.Sheet = bytes "sheet"
source_word Source.Cues = bytes "cues"
source_word Source.Listing = bytes "listing"

-- up to the number
abbrev pub refusal_head : Source → Text
refusal_head s = bytes "refused" ++ (tab ∷ (source_word s ++ (tab ∷ [])))

-- what is refused, the number, and the line
abbrev pub refusal_line : Source → ℕ → ℕ → Text
refusal_line s n k = refusal_head s ++ (digits n ++ (tab ∷ (digits k ++ (line_feed ∷ []))))

-- what is to be written is longer than the buffer
abbrev pub too_long : ℕ
too_long = 50
