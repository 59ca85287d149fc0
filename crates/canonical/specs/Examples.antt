-- Texts in their one way: document 02, W4 and W7, and OPEN-POINTS, 21.
use mathlib.Core.{Path.◌≡◌, Path.refl}
use Rattle.fields.specs.Bytes.{Text, bytes}
use Rattle.model.specs.{Fault.Answers, Fault.accepted, Syntax.Syntax}
use Rattle.model.proofs.AcceptTest.{tree-accepted}
use Rattle.canonical.specs.Canonical.{canonical_text}

-- x is accepted, and y is its canonical text
abbrev Writing : Text → Text → Type 0
Writing x y = (t : Syntax) × Answers x (accepted t) × (canonical_text t ≡ y)

-- a `?` that adds nothing goes before the test for joining
redundant : Writing (bytes "((a?,b?)?,c)") (bytes "(a?,b?,c)")
redundant = (_, tree-accepted _ _ refl, refl)

-- counts before marks
counted : Writing (bytes "(a[0..1]|b)") (bytes "(a|b)?")
counted = (_, tree-accepted _ _ refl, refl)

moved : Writing (bytes "(b[0..3]|a[1..1])") (bytes "(a|b[1..3])?")
moved = (_, tree-accepted _ _ refl, refl)

onward : Writing (bytes "a[0..*]") (bytes "a[1..*]?")
onward = (_, tree-accepted _ _ refl, refl)

-- by the smallest name, and a name before one that it begins
ordered : Writing (bytes "((c&b)|ab|a)") (bytes "(a|ab|(b&c))")
ordered = (_, tree-accepted _ _ refl, refl)

-- by bytes: capitals, the underscore, small letters
by_bytes : Writing (bytes "(b|_|B|a_|a.|aA)") (bytes "(B|_|a.|aA|a_|b)")
by_bytes = (_, tree-accepted _ _ refl, refl)

-- members of a sequence stay
kept : Writing (bytes "(b,(a))") (bytes "(b,a)")
kept = (_, tree-accepted _ _ refl, refl)

-- a group that joins, and one that dissolves with a mark that adds nothing
joined : Writing (bytes "(((b|a)?|d)|c)") (bytes "(a|b|c|d)?")
joined = (_, tree-accepted _ _ refl, refl)

dissolved : Writing (bytes "((a?,b?)|())") (bytes "(a?,b?)")
dissolved = (_, tree-accepted _ _ refl, refl)

nothing_left : Writing (bytes "((),(()|())?)") (bytes "()")
nothing_left = (_, tree-accepted _ _ refl, refl)

-- a member of a choice goes without the empty row
nonempty : Writing (bytes "((a?,b?)|c)") (bytes "((a?,b?)!|c)?")
nonempty = (_, tree-accepted _ _ refl, refl)

given-on : Writing (bytes "((a?,b?)|c)!") (bytes "((a?,b?)!|c)")
given-on = (_, tree-accepted _ _ refl, refl)

-- of two marks the outer one stays, if it changes anything
outer : Writing (bytes "((a?,b?)!)?") (bytes "(a?,b?)")
outer = (_, tree-accepted _ _ refl, refl)

needless : Writing (bytes "((a,b)!,c)") (bytes "(a,b,c)")
needless = (_, tree-accepted _ _ refl, refl)

raised : Writing (bytes "a[0..3]!") (bytes "a[1..3]")
raised = (_, tree-accepted _ _ refl, refl)

needed : Writing (bytes "(a?,b?)!") (bytes "(a?,b?)!")
needed = (_, tree-accepted _ _ refl, refl)
