-- What the head of a tree tells of it by its shape, and the head of no tree.
use mathlib.Core.{Bool.Bool, Bool.true, Bool.false}
use Rattle.model.specs.declared.rule.{Sign.Sign, Mark.TheVariants.Plain}
use Rattle.model.specs.declared.rule.Sign.TheVariants.{None}
use Rattle.model.specs.Flatten.{same_sign}
use Rattle.canonical.specs.declared.head.{Head.Head, Shape.Shape}
use Rattle.canonical.specs.declared.head.Shape.TheVariants.{Atom, Group}

abbrev pub no_head : Head
no_head = record { shape = Group None; mark = Plain; nullable = false; members = 0; size = 0; least = 0 }

abbrev pub is_atom : Shape → Bool
is_atom Atom = true
is_atom (Group s) = false

-- a group of the sign
abbrev pub is_group : Sign → Shape → Bool
is_group s Atom = false
is_group s (Group r) = same_sign s r

-- a group without a sign, as `()` is
abbrev pub is_nothing : Shape → Bool
is_nothing h = is_group None h

-- the sign of a group
abbrev pub sign_of : Shape → Sign
sign_of Atom = None
sign_of (Group s) = s
