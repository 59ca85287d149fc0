-- Membership, extendability and the empty word as tests by recursion on a type: document 001 decides them in linear time. `MembershipLaws` has what
-- each tells of a conflict-free type.
use Rattle.std.specs.Prelude.{Bool, true, false, not, ◌&&◌, ◌||◌, [], ◌∷◌, ℕ, leb}
use Rattle.model.specs.declared.rule.Upper.{Upper}
use Rattle.model.specs.declared.rule.Upper.TheVariants.{Number, Unbounded}
use Rattle.model.specs.Word.{Word, Names, count, touched, ordered}
use Rattle.model.specs.Types.{Operator, sequence, choice, interleaving, Ty, ε, atom, join, nonempty, symbols}

abbrev pub under : ℕ → Upper → Bool
under k (Number n) = leb k n
under k Unbounded = true

-- Of a join: b tells whether no symbol of its first member stands behind one of its second, s and t whether the word has symbols of the first and
-- of the second, x and y what a test says of each.
abbrev pub joined : Operator → Bool → Bool → Bool → Bool → Bool → Bool
joined sequence b s t x y = b && (x && y)
joined choice b s t x y = (not t && x) || (not s && y)
joined interleaving b s t x y = x && y

-- The same of extendability, x' and y', where x tells whether the first member is done: a sequence may stop within its first member.
abbrev pub begun : Operator → Bool → Bool → Bool → Bool → Bool → Bool → Bool
begun sequence b s t x x' y' = (not t && x') || joined sequence b s t x y'
begun choice b s t x x' y' = joined choice b s t x' y'
begun interleaving b s t x x' y' = joined interleaving b s t x' y'

-- whether the part of the word over the type's symbols is held
unfoldable pub done : Ty → Word → Bool
done ε w = true
done (atom a m n) w = leb m (count a w) && under (count a w) n
done (join o A B) w =
    joined o (ordered (symbols A) (symbols B) w) (touched (symbols A) w) (touched (symbols B) w) (done A w) (done B w)
done (nonempty A) w = touched (symbols A) w && done A w

-- whether that part can be extended to a word that is held
unfoldable pub alive : Ty → Word → Bool
alive ε w = true
alive (atom a m n) w = under (count a w) n
alive (join o A B) w =
    begun o (ordered (symbols A) (symbols B) w) (touched (symbols A) w) (touched (symbols B) w) (done A w) (alive A w) (alive B w)
alive (nonempty A) w = alive A w

-- every symbol of the word is in the set
unfoldable pub over? : Names → Word → Bool
over? p [] = true
over? p (x ∷ w) = p x && over? p w

-- of a whole word: it has no foreign symbol, and its part passes
unfoldable pub holds? : Ty → Word → Bool
holds? A w = over? (symbols A) w && done A w

unfoldable pub extends? : Ty → Word → Bool
extends? A w = over? (symbols A) w && alive A w

-- 001, definition 2.4
abbrev pub nullable : Ty → Bool
nullable ε = true
nullable (atom a m n) = false
nullable (join sequence A B) = nullable A && nullable B
nullable (join choice A B) = nullable A || nullable B
nullable (join interleaving A B) = nullable A && nullable B
nullable (nonempty A) = false
