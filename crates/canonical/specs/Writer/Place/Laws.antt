-- What the bytes of an atom tell of it.
use mathlib.Core.{Path.◌≡◌, Path.refl, Path.sym, Path.ap, Path.◌∙◌, List.[], List.◌∷◌, List.◌++◌, List.append_assoc, List.append-nil}
use Rattle.std.specs.Prelude.{Bool, true, false, cond, ◌&&◌, T, eqb, leb, ltb, length, take, drop, get_or}
use Prim.Native.{Nat.ℕ, Nat.◌+◌, Nat.◌-◌, Nat.◌<◌, Char.code}
use native.Mathlib.{Omega.arith}
use Rattle.std.proofs.Common.{length-append, length-drop, get_or-drop, drop-drop, take_at, eqb-true, eq-eqb, ltb-true, lt-ltb}
use Rattle.std.proofs.Math.Seq.{drop-append_seam}
use Rattle.std.proofs.Math.Facts.{and_yes, yes_and}
use Rattle.fields.specs.Tests.{by-test}
use Rattle.fields.specs.Bytes.{Text, is_initial, is_inner, all, is_name, front}
use Rattle.fields.specs.Bytes.Laws.{initial-inner}
use Rattle.fields.specs.Bytes.Runs.{stops, front-stops}
use Rattle.model.specs.{Fault.name_from, Fault.is, declared.rule.Mark.TheVariants.Plain, Tree.leaf, Tree.marked}
use Rattle.model.specs.Accept.Length.{name-some}
use Rattle.model.specs.Syntax.{Count, unwritten, between, onward, count_text, Spelling, node_text, Spells}
use Rattle.model.specs.Syntax.{Machine.run, Machine.start, Machine.result}
use Rattle.model.proofs.SyntaxComplete.{complete}
use Rattle.canonical.specs.Tidy.{from_zero, tidy_count, tidy_atom}
use Rattle.canonical.specs.Writer.{Put.set-behind}
use Rattle.canonical.specs.Writer.Place.{behind_count, atom_end, zero_at, kept_end, piece_at, leaf_in, atom_at, Free, AtomAt}
use Rattle.canonical.specs.Writer.Place.Ends.{AtomEnds, KeptEnds, zero-by, kept_by, piece-by, piece-short}
use Rattle.canonical.specs.Writer.Place.Counts.{count-end, same, zero-count, is_one, one-count, tidy_one, tidy-text}

pub name-inner : (n : Text) → T (is_name n) → T (all is_inner n)
name-inner [] h = absurd h
name-inner (b ∷ n) h =
    let q = and_yes (is_initial b) (all is_inner n) h in
    yes_and (is_inner b) (all is_inner n) (initial-inner b q.0) q.1

free-stops : (w : Text) → Free w → T (stops is_inner w)
free-stops [] g = tt
free-stops (b ∷ w) g = rw g.0 tt

count-stops : (c : Count) (w : Text) → Free w → T (stops is_inner (count_text c ++ w))
count-stops unwritten w g = free-stops w g
count-stops (between m n) w g = tt
count-stops (onward m) w g = tt

cond-append : (b : Bool) (n u w : Text) → cond b (n ++ u) (n ++ w) ≡ n ++ cond b u w
cond-append true n u w = refl
cond-append false n u w = refl

-- tests of places behind n
ltb-behind : (n l : ℕ) → ltb n (n + l) ≡ ltb 0 l
ltb-behind n l = same (ltb n (n + l)) (ltb 0 l) (omega (arith, ltb-true, lt-ltb)) (omega (arith, ltb-true, lt-ltb))

eqb-behind : (n l k : ℕ) → eqb (n + l) (n + k) ≡ eqb l k
eqb-behind n l k = same (eqb (n + l) (n + k)) (eqb l k) (omega (arith, eqb-true, eq-eqb)) (omega (arith, eqb-true, eq-eqb))

abbrev name_end : ℕ → Spelling → ℕ
name_end p a = p + length a.name

abbrev count_end : ℕ → Spelling → ℕ
count_end p a = name_end p a + length (count_text a.count)

module _ {x : Text} {p : ℕ} {a : Spelling} (h : AtomAt x p a) where
  parted : drop p x ≡ a.name ++ (count_text a.count ++ h.rest)
  parted = h.splits ∙ append_assoc a.name (count_text a.count) h.rest

  pub at_name : name_from x p ≡ a.name
  at_name =
      ap (front is_inner) parted
      ∙ front-stops is_inner a.name (count_text a.count ++ h.rest) (name-inner a.name h.formed.0) (count-stops a.count h.rest h.free)

  -- what stands behind the name
  behind : drop (name_end p a) x ≡ count_text a.count ++ h.rest
  behind = sym (drop-drop (length a.name) p x) ∙ ap (drop (length a.name)) parted ∙ drop-append_seam a.name (count_text a.count ++ h.rest)

  byte : (j : ℕ) → get_or x (name_end p a + j) 0 ≡ get_or (count_text a.count ++ h.rest) j 0
  byte j = sym (get_or-drop (name_end p a) x j 0) ∙ ap (λ y. get_or y j 0) behind

  ends : AtomEnds x p (name_end p a) (count_end p a)
  ends =
      record {
        name_is = sym (ap (λ y. p + length y) at_name);
        count_is = count-end x (name_end p a) h.rest a.count h.formed.1 h.free behind;
      }

  pub at_end : atom_end x p ≡ p + length (node_text (leaf a))
  at_end = ap (behind_count x) (sym ends.name_is) ∙ sym ends.count_is ∙ rw length-append (omega arith)

  pub atom-inside : p < length x
  atom-inside = omega (arith, name-some a.name h.formed.0, length-drop p x, simp length-append at (ap length parted))

  -- the atom's own bytes
  whole : (n : ℕ) → n ≡ length (node_text (leaf a)) → take n (drop p x) ≡ node_text (leaf a)
  whole n e = ap (take n) h.splits ∙ take_at (node_text (leaf a)) h.rest n (sym e)

  pub at-atom : atom_at x p ≡ a
  unfolding atom_at
  at-atom =
      let s : Spells (node_text (leaf a)) (marked Plain (leaf a)) = record { formed = h.formed; spelt = append-nil (node_text (leaf a)) } in
      ap (λ y. leaf_in (result (run start y))) (whole (atom_end x p - p) (omega (arith, at_end))) ∙ ap leaf_in (complete s)

  -- the tests of the count
  zero_test : ltb (name_end p a) (count_end p a) && is x (code "0") (name_end p a + 1) ≡ from_zero a.count
  zero_test =
      rw (byte 1, ltb-behind (name_end p a) (length (count_text a.count))) (zero-count a.count h.formed.1 h.rest)

  pub at_zero : zero_at x p ≡ from_zero a.count
  at_zero = zero-by ends ∙ zero_test

  one-test : eqb (count_end p a) (name_end p a + 6)
      && leb (get_or x (name_end p a + 1) 0) (code "1") && is x (code "1") (name_end p a + 4) ≡ is_one a.count
  one-test =
      rw (byte 1, byte 4, eqb-behind (name_end p a) (length (count_text a.count)) 6) (one-count a.count h.formed.1 h.rest)

  kept : kept_end x p ≡ cond (is_one a.count) (name_end p a) (count_end p a)
  kept = kept_by ends ∙ ap (λ b. cond b (name_end p a) (count_end p a)) one-test

  -- the count left out, and the count kept
  piece-bare : is_one a.count ≡ true → piece_at x p ≡ a.name ++ count_text (tidy_count a.count)
  piece-bare e =
      let k : KeptEnds x p (name_end p a) (name_end p a) = record { name_is = ends.name_is; kept_is = sym (kept ∙ rw e) } in
      let n : length a.name ≡ name_end p a - p = omega arith in
      piece-short k (omega (arith, atom-inside)) (omega arith)
      ∙ ap (take (name_end p a - p)) parted ∙ take_at a.name (count_text a.count ++ h.rest) (name_end p a - p) n
      ∙ rw (tidy_one a.count e) (sym (append-nil a.name))

  piece-whole : is_one a.count ≡ false → piece_at x p ≡ a.name ++ count_text (tidy_count a.count)
  piece-whole e =
      let k : KeptEnds x p (name_end p a) (count_end p a) = record { name_is = ends.name_is; kept_is = sym (kept ∙ rw e) } in
      let i : name_end p a + 1 - p ≡ length a.name + 1 = omega arith in
      let w = whole (count_end p a - p) (rw length-append (omega arith)) in
      piece-by k
      ∙ rw (zero_test, w, i, set-behind a.name (count_text a.count) 1 (code "1"), tidy-text a.count h.formed.1 e)
      (cond-append (from_zero a.count) a.name _ _)

  pub at_piece : piece_at x p ≡ node_text (leaf (tidy_atom a))
  at_piece = by-test (is_one a.count) piece-bare piece-whole
