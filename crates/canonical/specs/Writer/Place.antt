-- Names, counts, atoms and trees at a place of a model text, as the writer finds them.
pub mod Ends
pub mod Counts
pub mod Laws
pub mod Trees
use mathlib.Core.{Path.◌≡◌, Bool.Bool, Bool.false, Bool.cond, Bool.◌&&◌, Bool.◌||◌, List.[], List.◌∷◌, List.◌++◌}
use Rattle.std.proofs.Math.Option.{Option, none as nothing, some}
use Prim.Native.{Nat.ℕ, Nat.◌+◌, Nat.◌-◌, Char.code}
use lib.{Dec.T, Dec.eqb, Dec.leb, Dec.ltb, ListN.length, ListN.take, ListN.drop, ListN.get_or, ListN.set}
use Rattle.fields.specs.Bytes.{Text, is_inner}
use Rattle.model.specs.{Fault.name_from, Fault.is, Tree.leaf, Tree.group, Tree.marked, Tree.Formed}
use Rattle.model.specs.Syntax.{Spelling, Syntax, unwritten, text, node_text, SpellingFormed}
use Rattle.model.specs.Syntax.Machine.{run, start, result}

abbrev pub behind_name : Text → ℕ → ℕ
behind_name x p = p + length (name_from x p)

-- up to the first b, b included
abbrev pub up_to : ℕ → Text → Text
up_to b [] = []
up_to b (c ∷ l) = c ∷ cond (eqb c b) [] (up_to b l)

abbrev pub behind_count : Text → ℕ → ℕ
behind_count x p = cond (is x (code "[") p) (p + length (up_to (code "]") (drop p x))) p

-- behind the atom at p as it stands
abbrev pub atom_end : Text → ℕ → ℕ
atom_end x p = behind_count x (behind_name x p)

-- its count begins with 0
abbrev pub zero_at : Text → ℕ → Bool
zero_at x p = ltb (behind_name x p) (atom_end x p) && is x (code "0") (behind_name x p + 1)

-- its count is [0..1] or [1..1]
abbrev pub one_at : Text → ℕ → Bool
one_at x p = eqb (atom_end x p) (behind_name x p + 6) && leb (get_or x (behind_name x p + 1) 0) (code "1") && is x (code "1") (behind_name x p + 4)

-- the end of what is kept of the atom at p
abbrev pub kept_end : Text → ℕ → ℕ
kept_end x p = cond (one_at x p) (behind_name x p) (atom_end x p)

-- the atom at p as it is written: a lower count of 0 is 1
abbrev pub piece_at : Text → ℕ → Text
piece_at x p =
    cond (ltb (behind_name x p) (kept_end x p) && is x (code "0") (behind_name x p + 1))
    (set (take (kept_end x p - p) (drop p x)) (behind_name x p + 1 - p) (code "1"))
    (take (kept_end x p - p) (drop p x))

abbrev pub leaf_in : Option Syntax → Spelling
leaf_in (some (marked m (leaf a))) = a
leaf_in (some (marked m (group s ts))) = record { name = []; count = unwritten }
leaf_in nothing = record { name = []; count = unwritten }

-- the atom at p as it stands
unfoldable pub atom_at : Text → ℕ → Spelling
atom_at x p = leaf_in (result (run start (take (atom_end x p - p) (drop p x))))

-- what may follow an atom without its mark: neither a byte of a name nor a count
abbrev pub Free : Text → Type 0
Free [] = Unit {0}
Free (b ∷ r) = (is_inner b ≡ false) × (eqb b (code "[") ≡ false)

pub record AtomAt (x : Text) (p : ℕ) (a : Spelling) : Type 0 where
  pub formed : SpellingFormed a
  pub rest : Text
  pub splits : drop p x ≡ node_text (leaf a) ++ rest
  pub free : Free rest

-- what may follow a member: the end, a sign or a bracket
abbrev pub is_stop : ℕ → Bool
is_stop b = eqb b (code ")") || eqb b (code ",") || eqb b (code "|") || eqb b (code "&")

abbrev pub Stops : Text → Type 0
Stops [] = Unit {0}
Stops (b ∷ r) = T (is_stop b)

-- a tree stands at p
pub record TreeAt (x : Text) (p : ℕ) (t : Syntax) : Type 0 where
  pub formed : Formed SpellingFormed t
  pub rest : Text
  pub splits : drop p x ≡ text t ++ rest
  pub stops : Stops rest
