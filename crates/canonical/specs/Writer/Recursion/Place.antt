-- What stands where in the text of a tree: the bytes that the recursion looks at.
use Rattle.std.specs.Prelude.{◌≡◌, refl, [], ◌∷◌, ◌++◌, length, drop, get_or}
use Rattle.std.proofs.Common.{sym, ap, ◌∙◌, append_assoc, length-drop, drop-drop, drop_at, get_or-drop}
use Prim.Native.{Nat.ℕ, Nat.◌+◌, Nat.◌<◌, Char.code}
use native.Mathlib.{Omega.arith, Nat.add-zero}
use Rattle.fields.specs.Bytes.{Text, bytes}
use Rattle.model.specs.{declared.rule.Sign.Sign, declared.rule.Mark.Mark, Mark.mark_of, Mark.mark_at}
use Rattle.model.specs.declared.rule.Mark.TheVariants.{Plain, Optional, Nonempty}
use Rattle.model.specs.Tree.{leaf, group, marked, Members}
use Rattle.model.specs.Syntax.{Spelling, node_text, members_text, mark_text}
use Rattle.canonical.specs.Writer.Place.{Free, AtomAt, Stops, TreeAt}
use Rattle.canonical.specs.Writer.Place.Trees.{stop-cases}

-- a text behind a beginning
pub drop-behind : (x u v : Text) (p : ℕ) → drop p x ≡ u ++ v → drop (p + length u) x ≡ v
drop-behind x u v p e = sym (drop-drop (length u) p x) ∙ ap (drop (length u)) e ∙ drop_at u v (length u) refl

pub byte_at : (x : Text) (p b : ℕ) (v : Text) → drop p x ≡ b ∷ v → get_or x p 0 ≡ b
byte_at x p b v e = ap (λ n. get_or x n 0) (sym (add-zero p)) ∙ sym (get_or-drop p x 0 0) ∙ ap (λ (l : Text). get_or l 0 0) e

pub byte_inside : (x : Text) (p b : ℕ) (v : Text) → drop p x ≡ b ∷ v → p < length x
byte_inside x p b v e = omega (arith, length-drop p x, ap length e)

-- the mark behind a tree, which ends with it
no-mark : (x : Text) (p : ℕ) (r : Text) → Stops r → drop p x ≡ r → mark_at x p ≡ Plain
no-mark x p [] s e = ap mark_of (ap (λ n. get_or x n 0) (sym (add-zero p)) ∙ sym (get_or-drop p x 0 0) ∙ ap (λ (l : Text). get_or l 0 0) e)
no-mark x p (b ∷ r) s e = ap mark_of (byte_at x p b r e) ∙ stop-cases (λ (b : ℕ). mark_of b ≡ Plain) refl refl refl refl b s

pub mark-at : (x : Text) (p : ℕ) (m : Mark) (r : Text) → Stops r → drop p x ≡ mark_text m ++ r → mark_at x p ≡ m
mark-at x p Plain r s e = no-mark x p r s e
mark-at x p Optional r s e = ap mark_of (byte_at x p (code "?") r e)
mark-at x p Nonempty r s e = ap mark_of (byte_at x p (code "!") r e)

free-behind : (m : Mark) (r : Text) → Stops r → Free (mark_text m ++ r)
free-behind Plain [] s = tt
free-behind Plain (b ∷ r) s = stop-cases (λ (b : ℕ). Free (b ∷ r)) (refl, refl) (refl, refl) (refl, refl) (refl, refl) b s
free-behind Optional r s = (refl, refl)
free-behind Nonempty r s = (refl, refl)

module _ {x : Text} {p : ℕ} {m : Mark} where
  -- an atom and its mark
  pub atom-stands : {a : Spelling} → TreeAt x p (marked m (leaf a)) → AtomAt x p a
  atom-stands {a} h =
      record {
        formed = h.formed;
        rest = mark_text m ++ h.rest;
        splits = h.splits ∙ append_assoc (node_text (leaf a)) (mark_text m) h.rest;
        free = free-behind m h.rest h.stops;
      }

  pub atom-mark : {a : Spelling} (h : TreeAt x p (marked m (leaf a))) → mark_at x (p + length (node_text (leaf a))) ≡ m
  atom-mark {a} h =
      mark-at x (p + length (node_text (leaf a))) m h.rest h.stops
      (drop-behind x (node_text (leaf a)) (mark_text m ++ h.rest) p (h.splits ∙ append_assoc (node_text (leaf a)) (mark_text m) h.rest))

  -- a group, from its bracket on
  pub group-splits : {s : Sign} {ts : Members Spelling} (h : TreeAt x p (marked m (group s ts)))
      → drop p x ≡ code "(" ∷ (members_text ts s ++ (code ")" ∷ (mark_text m ++ h.rest)))
  group-splits {s} {ts} h =
      h.splits ∙ append_assoc (node_text (group s ts)) (mark_text m) h.rest
      ∙ ap (λ l. code "(" ∷ l) (append_assoc (members_text ts s) (bytes ")") (mark_text m ++ h.rest))
