-- A tree that is an atom, and what a mark leaves as it is.
use mathlib.Core.{Path.◌≡◌, Path.refl, Path.sym, Path.ap, Path.◌∙◌, Logic.inr, Bool.◌||◌, List.List}
use Prim.Native.{Nat.ℕ, Nat.◌+◌}
use native.Mathlib.{Omega.arith}
use lib.{ListN.length, ListN.drop, ListN.length-append}
use Rattle.fields.specs.{Bytes.Text, Tests.by-test}
use Rattle.model.specs.{declared.rule.Sign.Sign, declared.rule.Mark.Mark, Mark.mark_at}
use Rattle.model.specs.declared.rule.Mark.TheVariants.{Nonempty}
use Rattle.model.specs.Tree.{leaf, marked, Members, nodes, is_plain}
use Rattle.model.specs.Flatten.{is_choice, members_of}
use Rattle.model.specs.Syntax.{Spelling, Syntax, node_text, mark_text}
use Rattle.canonical.specs.{declared.head.Head.Head, declared.tidy.Tidied.Tidied}
use Rattle.canonical.specs.Tidy.{tidy_atom, marking, stripped, tidy_node, Form.count-not-zero, Leaves.marking-kept}
use Rattle.canonical.specs.Writer.Place.{AtomAt, TreeAt}
use Rattle.canonical.specs.Writer.Place.Laws.{at_name, at_end, atom-inside, at-atom, at_zero, at_piece}
use Rattle.canonical.specs.Writer.Tidied.{count_mark, marking_by, stripped_by, atom_by, marked_by}
use Rattle.canonical.specs.Writer.Keeps.{KeepsTree}
use Rattle.canonical.specs.Writer.Head.{is_nothing}
use Rattle.canonical.specs.Writer.Keeps.Laws.{members-under, keeps_placed, keeps-marking}
use Rattle.canonical.specs.Writer.Stack.{stacked, trees_on, HeadsFit}
use Rattle.canonical.specs.Writer.Recursion.{OnStack, TidiedAt}
use Rattle.canonical.specs.Writer.Recursion.Place.{atom-stands, atom-mark}

-- an atom without its mark
pub keeps-atom : {x : Text} {p : ℕ} {a : Spelling} (top : ℕ) → AtomAt x p a → KeepsTree x (tidy_node (leaf a)) (atom_by x p top)
keeps-atom {x} {p} {a} top h =
    record {
      shape_is = refl;
      mark_is = ap count_mark (at_zero h);
      nullable_is = sym (count-not-zero a.count);
      members_is = refl;
      size_is = refl;
      least_inside = omega (arith, atom-inside h);
      kind_is = inr (record { proper = (ap tidy_atom (sym (at-atom h)), at_piece h); least = at_name h });
    }

-- a mark leaves the nodes, the members and the places as they are
pub mark-nodes : (m : Mark) (u : Syntax) → nodes (marking m u) ≡ nodes u
mark-nodes = marking-kept nodes (λ j k n. refl)

mark-members : (m : Mark) (u : Syntax) → members_of (marking m u) ≡ members_of u
mark-members = marking-kept members_of members-under

pub mark-places : (m : Mark) (t : Tidied) → ((marking_by m t).top ≡ t.top) × ((marking_by m t).next ≡ t.next)
mark-places m t = by-test (is_plain m || is_nothing t.head.shape) (λ e. rw e (refl, refl)) (λ e. rw e (refl, refl))

pub stack-mark : {x : Text} (m : Mark) (u : Syntax) {old new : List Head} {top end : ℕ} → OnStack x u old new top end → OnStack x (marking m u) old new top end
stack-mark {x} m u {old} {new} {top} {end} h =
    record {
      entries = h.entries;
      top_is = ap (λ n. end + n) (mark-nodes m u) ∙ h.top_is;
      trees_are = h.trees_are ∙ ap (λ (ts : Members Spelling). stacked ts (trees_on x (drop top old))) (sym (mark-members m u));
      heads = h.heads;
    }

-- and so does a choice
pub strip-nodes : (s : Sign) (u : Syntax) → nodes (stripped s u) ≡ nodes u
strip-nodes s u = by-test (is_choice s) (λ c. rw c (mark-nodes Nonempty u)) (λ c. rw c)

pub stack-strip : {x : Text} (s : Sign) (u : Syntax) (t : Tidied) {old new : List Head} {top : ℕ} → OnStack x u old new top t.top
    → OnStack x (stripped s u) old new top (stripped_by s t).top
stack-strip s u t h =
    by-test (is_choice s) (λ c. rw (c, (mark-places Nonempty t).0) (stack-mark Nonempty u h)) (λ c. rw c h)

-- the mark behind a tree
pub keeps-mark : {x : Text} (m : Mark) (u : Syntax) {t : Tidied} → mark_at x t.next ≡ m → KeepsTree x u t
    → KeepsTree x (marking m u) (marked_by x t)
keeps-mark m u {t} e k = rw e (keeps_placed t.top (t.next + length (mark_text m)) (keeps-marking m u k))

pub next-mark : (x : Text) (m : Mark) (t : Tidied) → mark_at x t.next ≡ m → (marked_by x t).next ≡ t.next + length (mark_text m)
next-mark x m t e = rw e

-- an atom with its mark
pub atom-tidied : {x : Text} {p : ℕ} {m : Mark} {a : Spelling} (stack : List Head) (top : ℕ) → TreeAt x p (marked m (leaf a)) → HeadsFit x (drop top stack)
    → TidiedAt x stack stack p top (marked_by x (atom_by x p top)) (marked m (leaf a))
atom-tidied {x} {p} {m} {a} stack top h i =
    let t = atom_by x p top in
    let u = tidy_node (leaf a) in
    let e : mark_at x t.next ≡ m = ap (mark_at x) (at_end (atom-stands h)) ∙ atom-mark h in
    record {
      keeps = keeps-mark m u e (keeps-atom top (atom-stands h));
      next_is = next-mark x m t e ∙ omega (arith, at_end (atom-stands h), length-append (node_text (leaf a)) (mark_text m));
      few = omega (arith, mark-nodes m u);
      on_stack = stack-mark m u (record { entries = refl; top_is = refl; trees_are = refl; heads = i });
    }
