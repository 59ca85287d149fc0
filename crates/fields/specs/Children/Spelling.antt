-- Whether each field is spelt as a name, byte by byte: each byte is tested with the one before it. Their laws are in proofs/SpellingLaws.antt.
use Rattle.std.specs.Prelude.{Bool, true, not, ◌&&◌, ◌||◌, ℕ, List, [], ◌∷◌}
use lib.Dec.{eqb}
use Rattle.fields.specs.{Split.tab}
use Rattle.fields.specs.Bytes.{Text, is_initial, is_later, is_inner, all, is_name}

abbrev pub all_spelt : List Text → Bool
all_spelt [] = true
all_spelt (c ∷ cs) = is_name c && all_spelt cs

-- whether b may stand behind a: behind a tab a name begins, behind any other byte one goes on or ends
abbrev pub may_follow : ℕ → ℕ → Bool
may_follow a b = is_initial b || (not (eqb a tab) && (is_later b || eqb b tab))

-- whether a text may stand behind a
abbrev pub goes_on : ℕ → Text → Bool
goes_on a [] = not (eqb a tab)
goes_on a (b ∷ y) = may_follow a b && goes_on b y

-- the rest of a name, and names behind it
abbrev pub rest_spelt : List Text → Bool
rest_spelt [] = true
rest_spelt (c ∷ cs) = all is_inner c && all_spelt cs
