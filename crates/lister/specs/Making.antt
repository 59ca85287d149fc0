-- What the parts of a listing's making know of each other.
pub mod Laws
use mathlib.Core.{Path.◌≡◌, List.List, List.[], List.◌∷◌, List.◌++◌, List.map}
use Rattle.std.specs.Prelude.{Option, Some, None, ℕ, zero, suc, ◌+◌, ◌≤◌}
use lib.{Dec.T, ListN.length, ListN.take}
use Rattle.fields.specs.{Limits.max_file, Bytes.Text, Split.line_feed, Split.lines, Split.unlines, Children.all_names}
use Rattle.judge.specs.{declared.reading.NamePlace.NamePlace}
use Rattle.std.specs.List.{All}
use Rattle.sheet.specs.Cues.{children, CueFits}
use Rattle.lister.specs.Listing.{Said, word, listing_line, said, total_line}

-- a place from 0 by a number from 1
abbrev pub before : ℕ → Option ℕ
before zero = None
before (suc k) = Some k

-- a line for each cue line, by what is said of it
abbrev pub lines_said : List Said → List Text → List Text
lines_said vs [] = []
lines_said [] (l ∷ ls) = []
lines_said (v ∷ vs) (l ∷ ls) = listing_line l v ∷ lines_said vs ls

-- no line of a listing is longer, with its line feed
abbrev pub max_line : ℕ
max_line = 66000

-- the cue line is good
pub record CueGood (l : Text) : Type 0 where
  pub fits : CueFits l
  pub named : T (all_names (children l))

-- the place lies in the sheet's text; the cue line is good
pub record CueReady (s : Text) (p : NamePlace) (l : Text) : Type 0 where
  pub inside : p.start + p.len ≤ length s
  pub good : CueGood l

-- what is said of the first n cue lines
abbrev pub SaidUpTo : ℕ → Text → Text → List Said → Type 0
SaidUpTo n s c vs = take n vs ≡ map (said (lines s)) (take n (lines c))

-- the lines of all cues and the last line, by what is said of each cue
abbrev pub listing_said : List Said → Text → Text
listing_said vs c = unlines (lines_said vs (lines c)) ++ (total_line (map word vs) ++ (line_feed ∷ []))

-- a cue list that was read, and what is said of each of its lines
pub record CuesSaid (c : Text) (vs : List Said) : Type 0 where
  pub fit : All CueFits (lines c)
  pub few : length (lines c) ≤ max_file
  pub counted : length vs ≡ length (lines c)
