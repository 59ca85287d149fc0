-- The depth of a rule, as one pass over its nodes finds it: of each flattened tree only a few facts are kept. `DepthLaws.depth_is` has that it is the
-- depth of the model.
use Rattle.std.specs.Prelude.{Bool, true, false, cond, not, ◌&&◌, ◌||◌, List, [], ◌∷◌, ℕ, ◌+◌, ◌-◌, max, min, refl}
use lib.{Dec.ltb, ListN.get_or}
use Rattle.model.specs.{declared.rule.Sign.Sign, declared.rule.Mark.Mark, declared.rule.Kind.Kind}
use Rattle.model.specs.declared.rule.Sign.TheVariants.{None}
use Rattle.model.specs.{declared.rule.Rule.Rule, declared.depth.Flat.Flat, Rule.used, Model.Algebra, Model.eval, Pass.IsStep}
use Rattle.model.specs.Flatten.{same_sign, dropped_mark}
use Rattle.model.specs.declared.rule.Kind.TheVariants.{Atom, Group}
use Rattle.model.specs.Tree.{is_plain}
use Rattle.std.specs.{Prelude.◌*◌, Prelude.◌^◌, Prelude.◌<◌, Mem.type_size}
use Rattle.std.proofs.Common.{arith}
use Rattle.model.specs.contracts.depth.Flat.{the_row}
use Rattle.fields.specs.Limits.{max_nesting, max_nodes}

-- one more, but no more than one over the limit
abbrev pub deeper : ℕ → ℕ
deeper d = min max_nesting d + 1

abbrev pub nil_flat : Flat
nil_flat = record { sign = None; marked = false; empty = true; depth = 0 }

abbrev pub atom_flat : Flat
atom_flat = record { sign = None; marked = false; empty = false; depth = 0 }

-- an unmarked group of the sign; only groups have a depth
abbrev pub merges_by : Sign → Flat → Bool
merges_by s x = same_sign s x.sign && (not x.marked && ltb 0 x.depth)

-- how many groups it brings into a group of the sign
abbrev pub brings_by : Sign → Flat → ℕ
brings_by s x = cond (merges_by s x) (x.depth - 1) x.depth

-- a member, and a group of the sign that the members behind it make
abbrev pub beside_by : Sign → Flat → Flat → Flat
beside_by s x y =
    cond x.empty y
    (cond y.empty x (record { sign = s; marked = false; empty = false; depth = deeper (max (brings_by s x) (brings_by s y)) }))

abbrev pub gathered_by : Sign → List Flat → Flat
gathered_by s [] = nil_flat
gathered_by s (x ∷ l) = beside_by s x (gathered_by s l)

abbrev pub some_empty : List Flat → Bool
some_empty [] = false
some_empty (x ∷ l) = x.empty || some_empty l

abbrev pub over_by : Mark → Flat → Flat
over_by m x = record { sign = x.sign; marked = cond (is_plain m) x.marked (not x.empty); empty = x.empty; depth = x.depth }

-- the members of a group made x, and whether a `()` was dropped
abbrev pub closed_by : Sign → Bool → Flat → Flat
closed_by s b x = over_by (dropped_mark s b) x

abbrev pub group_by : Sign → List Flat → Flat
group_by s l = closed_by s (some_empty l) (gathered_by s l)

-- a node, as the pass comes to it
abbrev pub sign_in : Kind → Sign
sign_in (Atom lo hi) = None
sign_in (Group s n) = s

abbrev pub flat_part : Kind → Bool → Flat → Flat
flat_part (Atom lo hi) b x = atom_flat
flat_part (Group s n) b x = closed_by s b x

abbrev pub flat_node : Kind → Mark → List Flat → Flat
flat_node κ m l = over_by m (flat_part κ (some_empty l) (gathered_by (sign_in κ) l))

abbrev pub flat_by : Algebra Flat
flat_by = record { on_atom = λ k lo hi. atom_flat; on_group = λ k s l. group_by s l; on_mark = over_by }

-- no more than one over the limit of brackets
abbrev pub rule_depth : Rule → ℕ
rule_depth r = (get_or (eval flat_by (used r) 0) 0 nil_flat).depth

-- a node, as the pass takes it from the stack
pub flat-step : IsStep flat_node flat_by
flat-step (Atom lo hi) m k rest = refl
flat-step (Group s n) m k rest = refl

-- so many are kept at once
pub flat-small : max_nodes * type_size the_row < 2 ^ 63
flat-small = omega arith
