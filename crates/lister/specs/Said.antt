-- What is said of a cue line by the lines of a sheet, by the meaning of the models.
pub mod Laws
use mathlib.Core.{Path.◌≡◌, List.List, List.[]}
use Rattle.std.specs.Prelude.{None, ℕ, ◌<◌, length, get_or}
use Rattle.fields.specs.{Bytes.Text, Split.field}
use Rattle.model.specs.{declared.verdict.Verdict.Verdict, Syntax.Syntax, Syntax.written_names, Fault.Answers, Fault.accepted, Model.model_of, Model.type_of}
use Rattle.model.specs.{Verdict.Says}
use Rattle.judge.specs.Named.{row_of}
use Rattle.sheet.specs.{Cues.children, Sheet.kind, Sheet.model}
use Rattle.lister.specs.Listing.{Said, word_of}

pub data CueSaid (ls : List Text) (l : Text) : Said → Type 0 where
  -- no line of the sheet has its kind
  lacking : ((k : ℕ) → k < length ls → ¬ kind (get_or ls k []) ≡ field 2 l) → CueSaid ls l None
  -- line k has its kind, t is the tree that the model there spells, and v is the verdict by its meaning on the row of the children
  by_a_line : (k : ℕ) → k < length ls → kind (get_or ls k []) ≡ field 2 l → (t : Syntax) → Answers (model (get_or ls k [])) (accepted t) → (v : Verdict)
      → Says (type_of (model_of t)) (row_of (written_names t) (children l)) v → CueSaid ls l (word_of v)
