-- The ends: what is proved of the one way to write a model. Each proof is a citation.
use mathlib.Core.{Path.◌≡◌, Logic.◌↔◌, Logic.◌⊎◌, List.List, List.[]}
use Rattle.std.specs.Prelude.{ℕ, ◌≤◌, length}
use Rattle.fields.specs.{Bytes.Text, Tests.Tells}
use Rattle.model.specs.{Word.Word, Types.Holds, Model.type_with, Flatten.nil, Flatten.flatten, Flatten.depth, Fault.Answers, Fault.accepted}
use Rattle.model.specs.{Syntax.Syntax, Tree.atoms, Tree.MarksFit}
use Rattle.canonical.specs.{Meaning.meaning, Tidy.tree_nullable, Tidy.tidy, Tidy.Nullable.tree-nullable, Tidy.Flattened.tidy-flatten}
use Rattle.canonical.specs.{Neat.Neat, Neat.Ordered, Order.Sorted.order-ordered}
use Rattle.canonical.specs.Canonical.{canonical, canonical_text, HoldsNames, WriteReply, wrote, write_reply, Writes}
use Rattle.canonical.specs.Canonical.{Rows.canonical-rows, Fixed.canonical-flat, Fixed.canonical-twice, Fixed.canonical-neat, Depth.canonical-depth}
use Rattle.canonical.specs.Canonical.{Accepted.canonical-nil, Accepted.canonical-accepted, Held.held_same, Reply.writes-is, Reply.again}

-- Document 02, W4: the canonical text of an accepted text is accepted, as the canonical tree, and that has the same rows of names as written.
pub text-accepted : (x : Text) (t : Syntax) → Answers x (accepted t) → Answers (canonical_text t) (accepted (canonical t))
text-accepted = canonical-accepted

pub same_rows : (x : Text) (t : Syntax) → Answers x (accepted t) → (w : List Text) → HoldsNames (canonical t) w ↔ HoldsNames t w
same_rows = held_same

-- the same whatever numbers the names have, of every tree in which each `!` has an atom
pub same-words : (ν : Text → ℕ) (t : Syntax) → MarksFit t → (w : Word) → Holds (type_with (meaning ν) (canonical t)) w ↔ Holds (type_with (meaning ν) t) w
same-words = canonical-rows

-- to write the canonical tree again changes nothing, and it is no deeper
pub written_twice : (t : Syntax) → canonical (canonical t) ≡ canonical t
written_twice = canonical-twice

pub never-deeper : (t : Syntax) → depth (canonical t) ≤ depth t
never-deeper = canonical-depth

-- The form of the canonical tree: flat; `()`, if there are no atoms, or neat; and its members in order.
pub already-flat : (t : Syntax) → flatten (canonical t) ≡ canonical t
already-flat = canonical-flat

pub neat-or-nil : (t : Syntax) → (canonical t ≡ nil) ⊎ Neat (canonical t)
neat-or-nil = canonical-neat

pub no-atoms : (t : Syntax) → (canonical t ≡ nil) ↔ (atoms t ≡ 0)
no-atoms = canonical-nil

pub members-ordered : (t : Syntax) → Ordered (canonical t)
members-ordered t = order-ordered (tidy (flatten t))

-- What the definitions mean: to flatten first is no stage of its own; a tree is nullable just where it holds the empty row.

pub flattened-first : (t : Syntax) → tidy (flatten t) ≡ tidy t
flattened-first = tidy-flatten

pub nullable-tree : (ν : Text → ℕ) (t : Syntax) → Tells (tree_nullable t) (Holds (type_with (meaning ν) t) [])
nullable-tree = tree-nullable

-- The reply of `write_model`, by the table. To a text that it wrote it is the same text, if there is room.
pub writes-exactly : (x : Text) (k : ℕ) (r : WriteReply) → Writes x k r ↔ (r ≡ write_reply x k)
writes-exactly = writes-is

pub writes_again : (x y : Text) (k j : ℕ) → wrote y ≡ write_reply x k → length y ≤ j → wrote y ≡ write_reply y j
writes_again = again
