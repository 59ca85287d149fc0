-- What is known where the names of a set are counted and listed, and that the set of the passes has the next names.
use mathlib.Core.{Path.◌≡◌, Path.refl, Path.sym, Path.ap, Bool.true, List.List, List.[], List.◌∷◌, List.◌++◌, List.append_assoc}
use Rattle.std.specs.Prelude.{ℕ, zero, suc, ◌+◌, ◌-◌, Bool, false, ◌<◌, ◌≤◌, Some, None, Ok, Err}
use native.Mathlib.{Numerals.add-one, Numerals.sub-one, Decide.le_ind, Omega.arith}
use Rattle.std.proofs.Common.{le-leb}
use lib.{ListN.length, ListN.length-append, ListN.drop, ListN.get_or, ListN.set, Seq.drop-cons, Seq.set_at}
use Rattle.std.specs.Int.{from_bool}
use Rattle.fields.specs.Tests.{by-test}
use Rattle.model.specs.{declared.rule.Node.Node, Word.Word, Word.Names, Word.keep, Model.atoms_in, Rule.names, Rule.rule_type, Rule.rule_with}
use Rattle.model.specs.{Rule.Laws.used-with, Check.readable}
use Rattle.model.proofs.CheckExact.{readable-is, type-means, means-conflict-free}
use Rattle.model.specs.{declared.verdict.Verdict.TheVariants.Dead}
use Rattle.model.proofs.VerdictLaws.{verdict-is}
use Rattle.judge.specs.{Row.upto, Row.Tally.seen_of, Row.Tally.Tallied}
use Rattle.judge.proofs.RowCode.{names-tallied}
use Rattle.judge.specs.declared.fault.{TextFault.TextFault, TextFault.TheVariants.Model as BadModel, TextFault.TheVariants.Children as BadChildren}
use Rattle.judge.specs.declared.fault.NextFault.TheVariants.{Text as BadText}
use Rattle.judge.specs.Reply.{Reply, model_refused, children_refused, good, result_of}
use Rattle.judge.specs.Next.{NextReply, HandsChildrenNext, numbers_to, next_names, fitted, HandsNext, Set.in_set}
use Rattle.judge.specs.Next.Laws.{kept_more, kept_same, kept, list-exactly}
use Rattle.judge.specs.Next.{Laws.dead-has-none, Ahead.root_ahead}
use Rattle.judge.specs.Next.Meaning.{next-seen}
use Rattle.judge.specs.{FirstFault.upper_counts, FirstFault.first_fault}
use Rattle.judge.proofs.RowCode.{verdict-stopped, row-sound}

-- those of the first n names that are in the set s
abbrev pub names_in : ℕ → ℕ → Word
names_in s n = keep (in_set s) (numbers_to n)

-- with one name more, which is in the set or not
next-in : (s name : ℕ) → 1 ≤ name → in_set s name ≡ true → names_in s name ≡ names_in s (name - 1) ++ (name ∷ [])
next-in s zero h e = absurd (omega arith)
next-in s (suc k) h e = rw (sub-one (suc k)) (kept_more (in_set s) k e)

next-out : (s name : ℕ) → 1 ≤ name → in_set s name ≡ false → names_in s name ≡ names_in s (name - 1)
next-out s zero h e = absurd (omega arith)
next-out s (suc k) h e = rw (sub-one (suc k)) (kept_same (in_set s) k e)

kept-grows : (p : Names) (i n : ℕ) → i ≤ n → length (keep p (numbers_to i)) ≤ length (keep p (numbers_to n))
kept-grows p i n h =
    le_ind (λ m. length (keep p (numbers_to i)) ≤ length (keep p (numbers_to m))) (omega arith)
    (λ m _ l. by-test (p (suc m)) (λ e. rw (kept_more p m e, length-append) (omega arith)) (λ e. rw (kept_same p m e) l)) n h

-- The names before this one were looked at, and so many were found.
pub record Found (s n name found : ℕ) : Type 0 where
  pub within : name ≤ n + 1
  pub found_is : found ≡ length (names_in s (name - 1))

pub found_none : (s n : ℕ) → Found s n 1 0
unfolding keep
found_none s n = record { within = omega arith; found_is = refl }

module _ {s n name found : ℕ} (k : Found s n name found) (h : 1 ≤ name) where
  pub found-few : found < name
  found-few = omega (arith, k.found_is, (kept (in_set s) (name - 1)).few)

  pub found-more : in_set s name ≡ true → name ≤ n → Found s n (name + 1) (found + 1)
  found-more e g =
      let z : name + 1 - 1 ≡ name = omega arith in
      record { within = omega arith; found_is = rw (z, next-in s name h e, length-append) (omega (arith, k.found_is)) }

  pub found_same : in_set s name ≡ false → name ≤ n → Found s n (name + 1) found
  found_same e g =
      let z : name + 1 - 1 ≡ name = omega arith in
      record { within = omega arith; found_is = rw (z, next-out s name h e) k.found_is }

  -- counted as a number
  pub found-by : (b : Bool) → b ≡ in_set s name → name ≤ n → Found s n (name + 1) (found + from_bool b)
  found-by true e g = found-more (sym e) g
  found-by false e g = let z : found + from_bool false ≡ found = omega arith in rw z (found_same (sym e) g)

  pub found-all : n < name → found ≡ length (names_in s n)
  found-all l = let z : name - 1 ≡ n = omega (arith, k.within) in rw z at k.found_is

  -- The same with the names: they stand in the first places of a lent row.
  module _ (lent : Word) {row : Word} (r : row ≡ names_in s (name - 1) ++ drop found lent) where
    -- a row with a place for each name of the set has one for the next
    pub placed-room : in_set s name ≡ true → name ≤ n → length (names_in s n) ≤ length lent → found < length lent
    placed-room e g l =
        omega (arith, k.found_is, ap length (next-in s name h e), length-append (names_in s (name - 1)) (name ∷ []), kept-grows (in_set s) name n g)

    pub placed-more : in_set s name ≡ true → found < length lent → set row found name ≡ names_in s (name + 1 - 1) ++ drop (found + 1) lent
    placed-more e l =
        let z : name + 1 - 1 ≡ name = omega arith in
        rw (z, next-in s name h e, r, drop-cons lent found 0 l, add-one found, append_assoc)
        (set_at (names_in s (name - 1)) _ _ name found (sym k.found_is))

    pub placed_same : in_set s name ≡ false → row ≡ names_in s (name + 1 - 1) ++ drop found lent
    placed_same e = let z : name + 1 - 1 ≡ name = omega arith in rw (z, next-out s name h e) r

    pub placed-all : n < name → row ≡ names_in s n ++ drop (length (names_in s n)) lent
    placed-all l = let z : name - 1 ≡ n = omega (arith, k.within) in rw (← z, ← k.found_is) r

-- no names are there to hand back
pub hands-no-names : (lent : Word) {l : Word} → l ≡ [] → HandsNext (fitted (length lent) l) (Ok 0) lent lent
hands-no-names lent e = rw (e, le-leb 0 (length lent) (omega arith)) (refl, refl)

-- a refusal of the texts, as it is handed back
pub refused-answer : (r : Reply NextReply) {e : TextFault} (lent : Word) → result_of r ≡ Err e → HandsChildrenNext r (Err (BadText e)) lent lent
refused-answer (model_refused f) {e} lent q = let d : e ≡ BadModel f = cc in rw d (refl, refl)
refused-answer (children_refused f) {e} lent q = let d : e ≡ BadChildren f = cc in rw d (refl, refl)
refused-answer (good v) {e} lent q = let z : ◌≡◌ {A = ℕ} 0 1 = cc in absurd (omega arith)

-- The row of the rule of these nodes: what the passes tell of its next names.
module _ (l : List Node) (e : readable (rule_with l) ≡ true) (w : Word) {m : ℕ} (f : m ≡ atoms_in l) (h : upto m w ≡ true) where
  -- where the first has found a fault, there are none
  pub next-stopped : {p : ℕ} → first_fault (upper_counts l) w ≡ Some p → next_names (rule_type (rule_with l)) m w ≡ []
  next-stopped d =
      let A = rule_type (rule_with l) in
      let g = means-conflict-free (type-means ((readable-is (rule_with l)).0 e)) in
      dead-has-none ((verdict-is A g w Dead).0 (verdict-stopped l e w f h d)) ((list-exactly A g m w (next_names A m w)).0 refl)

  -- else the second lists them, with what the first has counted
  pub next-tallied : first_fault (upper_counts l) w ≡ None → (s : List ℕ) → Tallied w s
      → keep (in_set (root_ahead (rule_with l) (length w) (λ k. seen_of (length w) (get_or s k 0))).next) (numbers_to m)
      ≡ next_names (rule_type (rule_with l)) m w
  next-tallied d s g =
      let n : m ≡ names (rule_with l) = rw (used-with l) f in
      let (o, q) = row-sound l e w f h d in
      rw n (next-seen (rule_with l) e w o q (λ k. seen_of (length w) (get_or s k 0)) (names-tallied (rule_with l) e w s g))
