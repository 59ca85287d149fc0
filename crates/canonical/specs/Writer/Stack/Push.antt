-- A tree whose members stand on the stack is put on top of them by its head.
use mathlib.Core.{Path.◌≡◌, Path.refl, Path.sym, Path.ap, Path.ap₂, Path.◌∙◌, Bool.true, Bool.false, Bool.true≢false}
use mathlib.Core.{Bool.false≢true, List.List, List.◌∷◌, List.[]}
use Rattle.std.specs.Prelude.{ℕ, ◌≤◌, ◌<◌}
use Rattle.std.proofs.Common.{arith}
use lib.{ListN.drop}
use Rattle.fields.specs.Bytes.{Text}
use Rattle.model.specs.{declared.rule.Sign.Sign, Fault.name_from}
use Rattle.model.specs.declared.rule.Sign.TheVariants.{None, Sequence, Choice, Interleaving}
use Rattle.model.specs.Tree.{leaf, group, marked, nodes}
use Rattle.model.specs.Flatten.{members_of}
use Rattle.model.specs.Syntax.{Spelling, Syntax, node_text, sign_text, written_names}
use Rattle.canonical.specs.Writer.Head.{is_atom, sign_of}
use Rattle.canonical.specs.{declared.head.Head.Head, declared.tidy.Tidied.Tidied, Order.smallest, Order.smallest_name}
use Rattle.canonical.specs.{Tidy.tidy_atom, Writer.Place.atom_at, Writer.Place.piece_at}
use Rattle.canonical.specs.Writer.Keeps.{sign_byte, LeastAt, NamedAt, KeepsTree}
use Rattle.canonical.specs.Writer.Stack.{stacked, tree_with, trees_on, HeadFits, HeadsFit}
use Rattle.canonical.specs.Writer.Stack.Laws.{members-back, others-back, stacked-length}
use Rattle.canonical.specs.Writer.Stack.Skip.{trees-more}

sign-bytes : (s : Sign) → 0 < sign_byte s → sign_text s ≡ sign_byte s ∷ []
sign-bytes None h = absurd (omega arith)
sign-bytes Sequence h = refl
sign-bytes Choice h = refl
sign-bytes Interleaving h = refl

least-name : (x : Text) (p : ℕ) (l : List Text) → LeastAt x p l → name_from x p ≡ smallest l
least-name x p [] h = absurd h
least-name x p (n ∷ l) h = h

module _ {x : Text} {r : Tidied} (f l : List Syntax) where
  tree-pushed : (u : Syntax) → KeepsTree x u r → NamedAt x u r.head.least → l ≡ stacked (members_of u) f → tree_with x r.head l ≡ u
  tree-pushed (marked m (leaf a)) k p e = rw (k.shape_is, k.mark_is, p.proper.0)
  tree-pushed (marked m (group s ts)) k p e = rw (k.shape_is, k.mark_is, e, k.members_is, members-back ts f)

  head-pushed : (u : Syntax) → KeepsTree x u r → NamedAt x u r.head.least
      → l ≡ stacked (members_of u) f → HeadFits x r.head l
  head-pushed u k p e =
      let t = tree-pushed u k p e in
      record {
        enough = rw (e, stacked-length (members_of u) f) (omega (arith, k.members_is));
        size_is = k.size_is ∙ sym (ap nodes t);
        least_is = least-name x r.head.least (written_names u) p.least ∙ sym (ap smallest_name t);
        least_inside = k.least_inside;
        atom_is = atom u k p;
        group_is = group_of u k p;
      }
    where
      atom : (u : Syntax) → KeepsTree x u r → NamedAt x u r.head.least → is_atom r.head.shape ≡ true
          → (r.head.members ≡ 0) × (piece_at x r.head.least ≡ node_text (leaf (tidy_atom (atom_at x r.head.least))))
      atom (marked m (leaf a)) k p h = (k.members_is, p.proper.1 ∙ ap (λ (a : Spelling). node_text (leaf a)) p.proper.0)
      atom (marked m (group s ts)) k p h = absurd (false≢true (sym (ap is_atom k.shape_is) ∙ h))

      group_of : (u : Syntax) → KeepsTree x u r → NamedAt x u r.head.least → is_atom r.head.shape ≡ false
          → (2 ≤ r.head.members) × (sign_text (sign_of r.head.shape) ≡ sign_byte (sign_of r.head.shape) ∷ [])
      group_of (marked m (leaf a)) k p h = absurd (true≢false (sym (ap is_atom k.shape_is) ∙ h))
      group_of (marked m (group s ts)) k p h = (omega (arith, k.members_is, p.proper.0), rw k.shape_is (sign-bytes s p.proper.1))

-- on the stack
module _ {x : Text} {r : Tidied} (l : List Head) (f : List Syntax) where
  pub push : (u : Syntax) → KeepsTree x u r → NamedAt x u r.head.least
      → trees_on x l ≡ stacked (members_of u) f → HeadsFit x l → (trees_on x (r.head ∷ l) ≡ u ∷ f) × HeadsFit x (r.head ∷ l)
  push u k p e i = (
    trees-more x r.head l
        ∙ ap₂ {C = List Syntax} (λ t r. t ∷ r) (tree-pushed f (trees_on x l) u k p e)
        (ap (drop r.head.members) e ∙ ap (λ n. drop n (stacked (members_of u) f)) k.members_is ∙ others-back (members_of u) f),
    (head-pushed f (trees_on x l) u k p e, i),
  )
