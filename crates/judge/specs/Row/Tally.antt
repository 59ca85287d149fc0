-- What the first pass over a row knows of each name: of the whole row at its end, of the children passed at each turn. Below it:
--   Words   the numbers that hold it
--   Limits  the upper counts of nodes, put into them before any child is seen
-- proofs/RowTallyLaws.antt has what a child more adds, and what is told at the end.
pub mod Words
pub mod Limits
use mathlib.Core.{Path.◌≡◌, List.List, List.◌∷◌, List.◌++◌, List.map}
use Rattle.std.specs.Prelude.{ℕ, ◌+◌, ◌-◌, ◌*◌, ◌/◌, ◌%◌, ◌<◌, ◌≤◌, cond, length, take, replicate, ◌==◌, slice_index, Option, None}
use Rattle.fields.specs.Limits.{max_atoms}
use Rattle.model.specs.declared.rule.Upper.{Upper}
use Rattle.model.specs.declared.rule.Upper.TheVariants.{Number, Unbounded}
use Rattle.model.specs.declared.rule.Kind.{Kind}
use Rattle.model.specs.declared.rule.Node.{Node}
use Rattle.model.specs.declared.rule.Kind.TheVariants.{Atom, Group}
use Rattle.model.specs.Word.{Word, only, count, touched}
use Rattle.model.proofs.WordSpan.{first_place, last_behind}
use Rattle.judge.specs.{declared.tally.Seen.Seen, Row.Attribute.seen}
use Rattle.judge.specs.FirstFault.{upper_counts, allowed, is_fault, first_where, first_fault}

-- What is seen of a name, in one number: how many further children may have it, how many have it, its first place, and one past its last place.
abbrev pub packed_seen : ℕ → ℕ → ℕ → ℕ → ℕ
packed_seen left count first behind = ((left * 65536 + count) * 65536 + first) * 65536 + behind

-- one child, where it is counted among those that may still have the name, and among those that have it
abbrev pub one_left : ℕ
one_left = 281474976710656

abbrev pub one_seen : ℕ
one_seen = 4294967296

-- no row has so many children that they reach the number of `*`
abbrev pub limit_number : Upper → ℕ
limit_number (Number n) = n
limit_number Unbounded = 65535

abbrev pub limit_word : Upper → ℕ
limit_word n = limit_number n * one_left

-- what stands behind the nodes l before any child is seen: the upper counts of their names; of a foreign name no child is allowed
unfoldable pub limits_in : List Node → List ℕ
limits_in l = 0 ∷ (map limit_word (upper_counts l) ++ replicate (max_atoms - length (upper_counts l)) 0)

-- behind a node: the upper count of its name, if it is an atom
abbrev pub limited_word : Kind → ℕ → ℕ
limited_word (Atom lo hi) w = limit_word hi
limited_word (Group s n) w = w

-- in a row of n children; a name that was not seen stands behind no place
unfoldable pub seen_of : ℕ → ℕ → Seen
seen_of n w =
    record { count = w / one_seen % 65536; first = cond (w % 65536 == 0) n (w / 65536 % 65536); behind = w % 65536 }

-- the name stands at place i too, behind all its places so far
unfoldable pub noted_word : ℕ → ℕ → ℕ
noted_word w i = w - one_left - w % 65536 + one_seen + cond (w % 65536 == 0) (i * 65536) 0 + i + 1

-- of the name a among the first children w of a row
abbrev pub first_seen : ℕ → Word → ℕ
first_seen a w = cond (touched (only a) w) (first_place (only a) w) 0

unfoldable pub seen_word : List Upper → Word → ℕ → ℕ
seen_word us w a =
    packed_seen (limit_number (allowed us a) - count a w) (count a w) (first_seen a w) (last_behind (only a) w)

-- The first children w of a row are seen in s, where us are the upper counts of the names; in a row of no children nothing is.
pub record Seeing (us : List Upper) (w : Word) (s : List ℕ) : Type 0 where
  pub room : max_atoms < length s
  pub word_is : (k : ℕ) → k ≤ max_atoms → slice_index s k ≡ seen_word us w k

-- s tells of the row w what is seen of each name that a rule can have
abbrev pub Tallied : Word → List ℕ → Type 0
Tallied w s = (k : ℕ) → k ≤ max_atoms → seen_of (length w) (slice_index s k) ≡ seen w k

-- the first fault of the row, and, where there is none, what s tells
pub record RowTallied (us : List Upper) (w : Word) (s : List ℕ) (r : Option ℕ) : Type 0 where
  pub fault_is : r ≡ first_fault us w
  pub tallied : r ≡ None → Tallied w s

-- The first i children of the row w are passed: none of them is at fault, and they are seen in s.
pub record RowPassed (us : List Upper) (w : Word) (i : ℕ) (s : List ℕ) : Type 0 where
  pub rest_is : first_fault us w ≡ first_where (is_fault us w) i (length w - i)
  pub seeing : Seeing us (take i w) s
