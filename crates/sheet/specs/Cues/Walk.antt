-- What is known of a cue list that was read.
use mathlib.Core.{Path.◌≡◌, List.[]}
use Rattle.std.specs.Prelude.{ℕ, ◌≤◌, ◌<◌}
use lib.{Dec.T, ListN.length, ListN.get_or}
use Rattle.fields.specs.{Limits.max_file, Bytes.Text, Split.lines, Split.behind, Children.all_names}
use Rattle.sheet.specs.Cues.{children, CueFits}

-- a cue list that was read
pub record GoodCues (c : Text) : Type 0 where
  pub ended : behind c ≡ []
  pub short : length c ≤ max_file
  pub fit : (i : ℕ) → i < length (lines c) → CueFits (get_or (lines c) i [])
  pub named : (i : ℕ) → i < length (lines c) → T (all_names (children (get_or (lines c) i [])))
