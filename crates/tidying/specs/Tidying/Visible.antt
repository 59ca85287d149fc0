-- A model text has neither tab nor line feed.
use mathlib.Core.{Bool.Bool, Bool.◌&&◌, List.◌++◌}
use Rattle.std.specs.Prelude.{ℕ, T}
use Rattle.fields.specs.Bytes.{Text, bytes, is_digit, is_inner, is_name, is_numeral, all}
use Rattle.fields.specs.{Bytes.Laws.apart, Split.tab, Split.line_feed, Split.other}
use Rattle.fields.specs.Bytes.Runs.{digit-inner, all_map, all_append, numeral-digits}
use Rattle.model.specs.declared.rule.{Sign.Sign, Mark.Mark}
use Rattle.model.specs.declared.rule.Sign.TheVariants.{None, Sequence, Choice, Interleaving}
use Rattle.model.specs.declared.rule.Mark.TheVariants.{Plain, Optional, Nonempty}
use Rattle.model.specs.Tree.{Node, leaf, group, marked, Members, none, ◌▹◌, NodeFormed, Formed, MembersFormed}
use Rattle.model.specs.Syntax.{Count, unwritten, between, onward, Spelling, Syntax, CountFormed, SpellingFormed, count_text, sign_text, mark_text}
use Rattle.model.specs.Syntax.{node_text, text, members_text, more_text}
use Rattle.canonical.specs.Writer.Place.Laws.{name-inner}

abbrev pub visible : ℕ → Bool
visible b = other tab b && other line_feed b

abbrev pub Visible : Text → Type 0
Visible x = T (all visible x)

inner-visible : (b : ℕ) → T (is_inner b) → T (visible b)
inner-visible b h = rw (apart is_inner b tab h tt, apart is_inner b line_feed h tt) tt

numeral-visible : (n : Text) → T (is_numeral n) → Visible n
numeral-visible n h = all_map is_digit visible (λ b d. inner-visible b (digit-inner b d)) n (numeral-digits n h)

pub name-visible : (n : Text) → T (is_name n) → Visible n
name-visible n h = all_map is_inner visible inner-visible n (name-inner n h)

count-visible : (c : Count) → CountFormed c → Visible (count_text c)
count-visible unwritten h = tt
count-visible (between m n) h =
    all_append visible m (bytes ".." ++ (n ++ bytes "]")) (numeral-visible m h.0) (all_append visible n (bytes "]") (numeral-visible n h.1) tt)
count-visible (onward m) h = all_append visible m (bytes "..*]") (numeral-visible m h) tt

sign-visible : (s : Sign) → Visible (sign_text s)
sign-visible None = tt
sign-visible Sequence = tt
sign-visible Choice = tt
sign-visible Interleaving = tt

mark-visible : (m : Mark) → Visible (mark_text m)
mark-visible Plain = tt
mark-visible Optional = tt
mark-visible Nonempty = tt

mutual
  node-visible : (n : Node Spelling) → NodeFormed SpellingFormed n → Visible (node_text n)
  node-visible (leaf a) h = all_append visible a.name (count_text a.count) (name-visible a.name h.0) (count-visible a.count h.1)
  node-visible (group s ts) h = all_append visible (members_text ts s) (bytes ")") (members-visible ts s h.1) tt

  pub text-visible : (t : Syntax) → Formed SpellingFormed t → Visible (text t)
  text-visible (marked m n) h = all_append visible (node_text n) (mark_text m) (node-visible n h) (mark-visible m)

  members-visible : (ts : Members Spelling) (s : Sign) → MembersFormed SpellingFormed ts → Visible (members_text ts s)
  members-visible none s h = tt
  members-visible (t ▹ ts) s h = all_append visible (text t) (more_text ts s) (text-visible t h.0) (more-visible ts s h.1)

  more-visible : (ts : Members Spelling) (s : Sign) → MembersFormed SpellingFormed ts → Visible (more_text ts s)
  more-visible none s h = tt
  more-visible (t ▹ ts) s h =
      all_append visible (sign_text s) (text t ++ more_text ts s) (sign-visible s)
      (all_append visible (text t) (more_text ts s) (text-visible t h.0) (more-visible ts s h.1))
