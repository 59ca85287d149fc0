-- The length of the texts of the trees on the stack, word by word.
use mathlib.Core.{Path.◌≡◌, Path.refl, Path.sym, Path.ap, Path.◌∙◌, Bool.cond, List.List, List.[], List.◌∷◌, List.◌++◌}
use Rattle.std.specs.Prelude.{ℕ, suc, ◌+◌, ◌-◌, ◌≤◌, ◌<◌, length, take, drop}
use native.Mathlib.{Omega.arith, Numerals.add-one}
use lib.{Seq.drop-cons}
use Rattle.std.proofs.Common.{length-append, length-take, drop_of_length-le}
use Rattle.fields.specs.{Bytes.Text, Limits.max_text, Tests.by-test}
use Rattle.model.specs.{declared.rule.Sign.Sign, declared.rule.Mark.Mark}
use Rattle.model.specs.declared.rule.Mark.TheVariants.{Plain, Optional, Nonempty}
use Rattle.model.specs.Tree.{Members, none, ◌▹◌}
use Rattle.model.specs.Syntax.{Spelling, Syntax, text, members_text, more_text, sign_text, mark_text}
use Rattle.canonical.specs.Writer.Head.{is_atom, sign_of}
use Rattle.canonical.specs.{declared.head.Head.Head, Writer.Head.no_head, Writer.Length.signed_text, Writer.Length.signed_length, Writer.Lists.head_at}
use Rattle.canonical.specs.Writer.{Place.kept_end, Place.Ends.kept-inside, Place.Ends.piece-length}
use Rattle.canonical.specs.Writer.Stack.{turned, tree_with, trees_on, HeadFits, HeadsFit, Skip.sum-rest, Skip.sum-turned, Skip.trees-none}
use Rattle.canonical.specs.Writer.Stack.{Skip.trees-more}

-- beside its members, each with one byte behind it: an atom is what is kept of it, a group has the bracket before them
abbrev pub plain_length : Text → Head → ℕ
plain_length x h = cond (is_atom h.shape) (kept_end x h.least - h.least) 1

abbrev pub own_length : Text → Head → ℕ
own_length x h = plain_length x h + length (mark_text h.mark)

abbrev pub words_length : Text → List Head → ℕ
words_length x [] = 0
words_length x (w ∷ l) = suc (own_length x w) + words_length x l

signed-some : (l : List Syntax) → length l ≤ signed_length l
signed-some [] = omega arith
signed-some (t ∷ l) = omega (arith, signed-some l)

abbrev members_length : Members Spelling → ℕ
members_length none = 0
members_length (t ▹ ts) = signed_text t + members_length ts

pub mark-short : (m : Mark) → length (mark_text m) ≤ 1
mark-short Plain = omega arith
mark-short Optional = omega arith
mark-short Nonempty = omega arith

-- members with a sign of one byte
module _ (s : Sign) (e : length (sign_text s) ≡ 1) where
  more-length : (ts : Members Spelling) → length (more_text ts s) ≡ members_length ts
  more-length none = refl
  more-length (t ▹ ts) =
      omega (arith, e, more-length ts, length-append (sign_text s) (text t ++ more_text ts s), length-append (text t) (more_text ts s))

  members-length : (ts : Members Spelling) → 1 ≤ members_length ts → suc (length (members_text ts s)) ≡ members_length ts
  members-length none h = absurd (omega arith)
  members-length (t ▹ ts) h = omega (arith, more-length ts, length-append (text t) (more_text ts s))

-- an own length is short
pub plain-short : (x : Text) (h : Head) → h.least ≤ length x → length x ≤ max_text → plain_length x h ≤ max_text
plain-short x h i l =
    by-test (is_atom h.shape)
    (λ e. rw e (omega (arith, kept-inside {x = x} {p = h.least} (record { name_is = refl; kept_is = refl }) i)))
    (λ e. rw e (omega arith))

module _ (x : Text) where
  text-length : (h : Head) (l : List Syntax) → HeadFits x h l → length (text (tree_with x h l)) ≡ own_length x h + signed_length (take h.members l)
  text-length h l f =
      by-test (is_atom h.shape)
      (λ e. rw (e, (f.atom_is e).0, length-append)
      (omega (arith, ap length (f.atom_is e).1, piece-length {x = x} {p = h.least} (record { name_is = refl; kept_is = refl }) f.least_inside)))
      (λ e.
      let ts = turned (take h.members l) none in
      let s = sign_of h.shape in
      let t = sum-turned signed_text members_length (λ t ts. refl) (take h.members l) none in
      let i : 1 ≤ members_length ts = omega (arith, signed-some (take h.members l), length-take h.members l, (f.group_is e).0) in
      rw (e, length-append, length-append) (omega (arith, members-length s (ap length (f.group_is e).1) ts i)))

  -- the words' own lengths, with one byte behind each, are those of the trees
  pub words-length : (l : List Head) → HeadsFit x l → words_length x l ≡ signed_length (trees_on x l)
  words-length [] h = rw trees-none
  words-length (w ∷ l) h =
      rw trees-more (omega (arith, text-length w (trees_on x l) h.0, words-length l h.1, sum-rest signed_text w.members (trees_on x l)))

  -- a word more, or none
  module _ (l : List Head) (i : ℕ) where
    pub words_step : i < length l → words_length x (drop i l) ≡ suc (own_length x (head_at l i)) + words_length x (drop (i + 1) l)
    words_step h =
        ap (words_length x) (drop-cons l i no_head h) ∙ ap (λ k. suc (own_length x (head_at l i)) + words_length x (drop k l)) (sym (add-one i))

    pub words-over : length l ≤ i → words_length x (drop i l) ≡ 0
    words-over h = rw (drop_of_length-le l {i = i} h)
