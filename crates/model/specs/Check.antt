-- The test of a rule that passes over its nodes can do: document 01, refusal 40. `CheckExact` has that it holds just where some accepted model text
-- reads into the rule.
pub mod Scan
use mathlib.Core.{Bool.Bool, Bool.true, Bool.false, Bool.cond, Bool.◌&&◌, Bool.◌||◌, List.List, List.[], List.◌∷◌}
use Rattle.std.specs.Prelude.{ℕ, ◌+◌, max, refl, Option}
use Rattle.std.specs.Bool.{then_some}
use Rattle.std.specs.List.{fold, list_all}
use lib.{Dec.leb, Dec.eqb, ListN.drop, ListN.length, ListN.get_or}
use Rattle.model.specs.{declared.rule.Upper.Upper, declared.rule.Sign.Sign, declared.rule.Mark.Mark, declared.rule.Kind.Kind}
use Rattle.model.specs.{declared.rule.Node.Node as RuleNode, declared.rule.Rule.Rule}
use Rattle.model.specs.{Tree.is_plain, Tree.mark_fits, Tree.highest, Rule.used, Rule.names, Depth.deeper, Depth.rule_depth}
use Rattle.model.specs.{declared.check.Content.Content, Pass.IsStep}
use Rattle.model.specs.declared.rule.Upper.TheVariants.{Number, Unbounded}
use Rattle.model.specs.declared.rule.Sign.TheVariants.{None, Sequence, Choice, Interleaving}
use Rattle.model.specs.declared.rule.Kind.TheVariants.{Atom, Group}
use Rattle.model.specs.Model.{Algebra, needed, trees_in, eval, is_atom}
use Rattle.std.specs.{Prelude.◌*◌, Prelude.◌^◌, Prelude.◌<◌, Mem.type_size}
use Rattle.std.proofs.Common.{arith}
use Rattle.model.specs.contracts.check.Content.{the_row}
use Rattle.fields.specs.Limits.{max_count, max_depth, max_nesting, max_atoms, max_nodes}

-- 13, of the counts of a node
abbrev pub upper_fits : ℕ → Upper → Bool
upper_fits m (Number n) = leb m n && (leb 1 n && leb n max_count)
upper_fits m Unbounded = leb m max_count

-- one member alone, or none, has no sign
abbrev pub sign_fits : Sign → ℕ → Bool
sign_fits None n = leb n 1
sign_fits Sequence n = leb 2 n
sign_fits Choice n = leb 2 n
sign_fits Interleaving n = leb 2 n

abbrev pub kind_fits : Kind → Bool
kind_fits (Atom lo hi) = upper_fits lo hi
kind_fits (Group s n) = sign_fits s n

-- each kind fits, and no group lacks members
abbrev pub sound : List RuleNode → Bool
sound [] = true
sound (x ∷ l) = leb (needed x.kind) (trees_in l) && kind_fits x.kind && sound l

-- the node of `()`: only no sign fits a group of no members
abbrev pub is_unused : RuleNode → Bool
is_unused x = eqb (is_atom x.kind) 0 && eqb (needed x.kind) 0 && kind_fits x.kind && is_plain x.mark

abbrev pub all_unused : List RuleNode → Bool
all_unused [] = true
all_unused (x ∷ l) = is_unused x && all_unused l

-- Of a tree: how many round brackets are open at once, but no more than one over the limit.
abbrev pub nesting_by : Algebra ℕ
nesting_by = record { on_atom = λ k lo hi. 0; on_group = λ k s l. deeper (highest l); on_mark = λ m d. d }

-- Of a tree: 0 where it has no atom, 1 where it has one, 2 where a `!` in it has none under it.
abbrev pub refill : Mark → ℕ → ℕ
refill m v = cond (mark_fits m v) v 2

abbrev pub fill_by : Algebra ℕ
fill_by = record { on_atom = λ k lo hi. 1; on_group = λ k s l. highest l; on_mark = refill }

abbrev pub rule_fill : Rule → ℕ
rule_fill r = get_or (eval fill_by (used r) 0) 0 0

-- both in one pass
abbrev pub no_content : Content
no_content = record { nesting = 0; has_atom = false; marks_fit = true }

abbrev pub both : Content → Content → Content
both x y =
    record { nesting = max x.nesting y.nesting; has_atom = x.has_atom || y.has_atom; marks_fit = x.marks_fit && y.marks_fit }

abbrev pub unmarked_content : Kind → Content → Content
unmarked_content (Atom lo hi) x = record { nesting = 0; has_atom = true; marks_fit = true }
unmarked_content (Group s n) x = record { nesting = deeper x.nesting; has_atom = x.has_atom; marks_fit = x.marks_fit }

abbrev pub marked_content : Mark → Content → Content
marked_content m x =
    record { nesting = x.nesting; has_atom = x.has_atom; marks_fit = x.marks_fit && mark_fits m (cond x.has_atom 1 0) }

abbrev pub content_of : Kind → Mark → List Content → Content
content_of κ m l = marked_content m (unmarked_content κ (fold both no_content l))

abbrev pub content_by : Algebra Content
content_by = record {
  on_atom = λ k lo hi. unmarked_content (Atom lo hi) no_content;
  on_group = λ k s l. unmarked_content (Group s 0) (fold both no_content l);
  on_mark = marked_content;
}

pub content-step : IsStep content_of content_by
content-step (Atom lo hi) m k rest = refl
content-step (Group s n) m k rest = refl

-- so many are kept at once
pub content-small : max_nodes * type_size the_row < 2 ^ 63
content-small = omega arith

-- one tree, and no more is said of it than n
abbrev pub one_under : ℕ → List ℕ → Bool
one_under n [] = false
one_under n (d ∷ []) = leb d n
one_under n (d ∷ e ∷ l) = false

-- What stands before len is the nodes of one tree, and behind it no place is used.
abbrev pub well_formed : Rule → Bool
well_formed r =
    leb r.len max_nodes
    && all_unused (drop r.len r.nodes)
    && sound (used r)
    && one_under max_nesting (eval nesting_by (used r) 0)
    && leb (names r) max_atoms
    && leb (rule_fill r) 1

-- the same by what the code finds, of the first max_nodes places
abbrev pub is_formed : Rule → Content → Bool
is_formed r x =
    list_all is_unused (drop r.len r.nodes)
    && sound (used r)
    && (eqb (trees_in (used r)) 1 && leb x.nesting max_nesting)
    && leb (names r) max_atoms
    && x.marks_fit

-- the brackets open at once, if so
abbrev pub rule_nesting : Rule → Option ℕ
rule_nesting r = then_some (well_formed r) (get_or (eval nesting_by (used r) 0) 0 0)

-- an array of nodes has 128 places, which no code can test and a rule of the specs may break
unfoldable pub readable : Rule → Bool
readable r = eqb (length r.nodes) max_nodes && (well_formed r && leb (rule_depth r) max_depth)
