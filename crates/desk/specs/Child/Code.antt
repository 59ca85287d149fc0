-- What the code finds on the way to a child.
use mathlib.Core.{Bool.false, Bool.cond, Bool.◌&&◌}
use Rattle.std.proofs.Math.Path.{◌≡◌, refl}
use Rattle.std.proofs.Common.{sym, ap, ◌∙◌, length-drop, length-take}
use mathlib.Core.List.{List, [], ◌∷◌, head-eq_of_cons-eq, tail-eq_of_cons-eq}
use Prim.Native.Nat.{ℕ, zero, suc, ◌+◌, ◌-◌, ◌≤◌, ◌<◌}
use native.Mathlib.{Numerals.add-one, Omega.arith}
use lib.{Dec.T, Dec.eqb, Dec.leb, Dec.ltb, Seq.drop-cons}
use Rattle.std.proofs.Math.ListN.{length}
use Rattle.std.specs.Prelude.{take, drop, get_or, Result, Ok, Err}
use mir.Mem.{Loc}
use borrow.Author.Tests.{ne_eqb, eqb-false, leb-true, lt-leb, ltb-true, ltb-false}
use Rattle.fields.specs.{Tests.by-test, Bytes.Text, Limits.max_row, Limits.max_file, Limits.max_atoms, declared.fault.CueFault.CueFault}
use Rattle.fields.specs.{Children.all_names, Children.children_of}
use Rattle.fields.specs.declared.fault.CueFault.TheVariants.{LongFile, NoName, ManyChildren, NoChild}
use Rattle.fields.specs.Split.{tab, split, part, part_end, more}
use Rattle.fields.specs.Split.{Laws.part_at, Laws.end-within}
use Rattle.model.specs.{Syntax.Syntax, Syntax.written_names, Syntax.number_in}
use Rattle.judge.specs.Answer.{answer, answered}
use Rattle.model.proofs.FaultAnswered.{name-inside}
use Rattle.model.specs.Fault.{Answer, Answers, refused, accepted, name_at, name_from, places}
use Rattle.judge.specs.{declared.reading.NamePlace.NamePlace, declared.reading.Reading.Reading, Reading.Laws.names_are, Reading.Search.name-fits}
use Rattle.judge.proofs.ReplyChildrenLaws.{children-some}
use Rattle.judge.specs.declared.fault.Misread.{Misread}
use Rattle.judge.specs.Reading.{name_place, no_place, names_of, reading_by, reading, parts_of}
use Rattle.judge.specs.Reply.{result_of, children_in, child, Reply, children_refused, good, asked_by, children_by}
use Rattle.desk.specs.{Desk.reply_number, Desk.Laws.written-few, Child.Names.names-many, Child.Names.place_in, Child.Laws.name-here}
use Rattle.judge.specs.declared.fault.TextFault.{TheVariants.Model, TheVariants.Children}
use Rattle.desk.specs.Child.{of_model, of_children, child_name, start_in, part_by, part_in, found, child_part, child_refusal, Hands}

-- what the code finds of the children
abbrev asked_count : Result ℕ CueFault → ℕ → Result (Unit {0}) CueFault
asked_count (Ok n) k = cond (leb 1 k && leb k n) (Ok tt) (Err NoChild)
asked_count (Err f) k = Err f

abbrev pub asked_of : Text → ℕ → Result (Unit {0}) CueFault
asked_of c k = cond (ltb max_file (length c)) (Err LongFile) (cond (eqb (length c) 0) (Err NoChild) (asked_count (children_of (split tab c)) k))

-- what is made of it, and of fields that are asked for the same
abbrev fields_give : {A : Type 0} → List Text → ℕ → A → Reply A
fields_give cs k v =
    cond (all_names cs) (cond (leb (length cs) max_row) (asked_by (child k) (length cs) v) (children_refused ManyChildren)) (children_refused NoName)

abbrev asked_give : {A : Type 0} → Result (Unit {0}) CueFault → A → Reply A
asked_give (Ok u) v = good v
asked_give (Err f) v = children_refused f

module _ (c : Text) (k : ℕ) where
  kids-asked : {A : Type 0} (v : A) → children_by (child k) c v ≡ asked_give (asked_of c k) v
  kids-asked {A} v = by-test (ltb max_file (length c)) (λ e. rw e) (λ e. rw e (go c))
    where
      counted : (cs : List Text) → fields_give cs k v ≡ asked_give (asked_count (children_of cs) k) v
      counted cs =
          by-test (all_names cs)
          (λ n. by-test (leb (length cs) max_row)
          (λ l. by-test (leb 1 k && leb k (length cs)) (λ t. rw (n, l, t)) (λ t. rw (n, l, t)))
          (λ l. rw (n, l)))
          (λ n. rw n)

      go : (y : Text) → fields_give (children_in y) k v ≡ asked_give (cond (eqb (length y) 0) (Err NoChild) (asked_count (children_of (split tab y)) k)) v
      go [] = by-test (leb 1 k) (λ e. rw (e, lt-leb k 0 (omega (arith, leb-true 1 k e)))) (λ e. rw e)
      go (b ∷ y) = let e : eqb (length (b ∷ y)) 0 ≡ false = ne_eqb (length (b ∷ y)) 0 (λ z. omega arith) in rw e (counted (split tab (b ∷ y)))

  -- a child that is asked for is there
  pub asked-within : asked_of c k ≡ Ok tt → (1 ≤ k) × (k ≤ length (split tab c)) × (length c ≤ max_file) × (length c ≡ 0 → ⊥)
  asked-within e =
      by-test (ltb max_file (length c))
      (λ t. let z : Err LongFile ≡ Ok tt = rw t at e in absurd cc)
      (λ t. by-test (eqb (length c) 0)
      (λ u. let z : Err NoChild ≡ Ok tt = rw (t, u) at e in absurd cc)
      (λ u. let w = there (split tab c) (rw (t, u) at e) in (w.0, w.1, ltb-false max_file (length c) t, eqb-false (length c) 0 u)))
    where
      there : (cs : List Text) → asked_count (children_of cs) k ≡ Ok tt → (1 ≤ k) × (k ≤ length cs)
      there cs d =
          by-test (all_names cs)
          (λ a. by-test (leb (length cs) max_row)
          (λ b. by-test (leb 1 k)
          (λ p. by-test (leb k (length cs)) (λ q. (leb-true 1 k p, leb-true k (length cs) q))
          (λ q. let z : Err NoChild ≡ Ok tt = rw (a, b, p, q) at d in absurd cc))
          (λ p. let z : Err NoChild ≡ Ok tt = rw (a, b, p) at d in absurd cc))
          (λ b. let z : Err ManyChildren ≡ Ok tt = rw (a, b) at d in absurd cc))
          (λ a. let z : Err NoName ≡ Ok tt = rw a at d in absurd cc)

-- A walk over the children stands where child i begins, counted from 0.
pub record ChildReached (c : Text) (i at : ℕ) : Type 0 where
  pub at_is : at ≡ start_in (split tab c) i
  pub within : at ≤ length c
  pub left : split tab (drop at c) ≡ drop i (split tab c)

pub reached-first : (c : Text) → ChildReached c 0 0
reached-first c = record { at_is = go (split tab c); within = omega arith; left = refl }
  where
    go : (l : List Text) → 0 ≡ start_in l 0
    go [] = refl
    go (p ∷ l) = refl

start-next : (l : List Text) (i : ℕ) → i < length l → start_in l (suc i) ≡ start_in l i + suc (length (get_or l i []))
start-next [] i h = absurd (omega arith)
start-next (p ∷ l) zero h = go l
  where
    go : (l : List Text) → suc (length p) + start_in l 0 ≡ 0 + suc (length p)
    go [] = omega arith
    go (q ∷ l) = omega arith
start-next (p ∷ l) (suc i) h = omega (arith, start-next l i (omega arith))

-- child i, from `at` to `end`
pub record ChildEnds (c : Text) (i at end : ℕ) : Type 0 where
  pub bounds : (at ≤ end) × (end ≤ length c)
  pub name_is : take (end - at) (drop at c) ≡ get_or (split tab c) i []
  pub long : end - at ≡ length (get_or (split tab c) i [])

module _ {c : Text} {i at : ℕ} (r : ChildReached c i at) (h : i < length (split tab c)) where
  here-is : (part c at (part_end c tab at) ≡ get_or (split tab c) i []) × (more c tab (part_end c tab at) ≡ drop (suc i) (split tab c))
  here-is =
      let g = sym (part_at c tab at r.within) ∙ r.left ∙ drop-cons (split tab c) i [] h in
      (head-eq_of_cons-eq g, tail-eq_of_cons-eq g)

  pub reached-end : {e : ℕ} → e ≡ part_end c tab at → ChildEnds c i at e
  reached-end {e} k =
      let name : take (e - at) (drop at c) ≡ get_or (split tab c) i [] = rw k here-is.0 in
      let b : (at ≤ e) × (e ≤ length c) = (omega (arith, k), rw k (end-within c tab at r.within)) in
      record {
        bounds = b;
        name_is = name;
        long = sym (ap length (sym name) ∙ length-take (e - at) (drop at c) ∙ omega (arith, length-drop at c, b.0, b.1));
      }

  pub reached-next : {e j : ℕ} → j ≡ i + 1 → j < length (split tab c) → e ≡ part_end c tab at → ChildReached c j (e + 1)
  reached-next {e} n l k =
      let b = reached-end k in
      let m = here-is.1 in
      by-test (ltb e (length c))
      (λ t. record {
        at_is = rw (n, add-one i) (omega (arith, start-next (split tab c) i h, r.at_is, b.long, b.bounds));
        within = omega (arith, ltb-true e (length c) t);
        left = rw (n, add-one e, add-one i) (rw (← k, t) at m);
      })
      (λ t. let z : [] ≡ drop (suc i) (split tab c) = rw (← k, t) at m in
      absurd (omega (arith, length-drop (suc i) (split tab c), ap length z)))

-- What is handed on of the children text, which stands at this place: the part of child k.
pub record HandsField (c : Text) (k : ℕ) (children : Loc) (bytes : Text) (place : Loc) : Type 0 where
  pub asked : asked_of c k ≡ Ok tt
  pub text_is : place.0 ≡ children.0
  pub start_is : place.1 ≡ children.1 + start_in (children_in c) (k - 1)
  pub name_is : bytes ≡ child_name c k
  pub bytes_are : bytes ≡ take (length (child_name c k)) (drop (start_in (children_in c) (k - 1)) c)

module _ (c : Text) (k : ℕ) {at end : ℕ} (a : asked_of c k ≡ Ok tt) (r : ChildReached c (k - 1) at) (e : end ≡ part_end c tab at) where
  field_ends : ChildEnds c (k - 1) at end
  field_ends = let w = asked-within c k a in reached-end r (omega (arith, w.0, w.1)) e

  pub field_bounds : (at ≤ end) × (end ≤ length c)
  field_bounds = field_ends.bounds

  pub hands_field : (children : Loc) → HandsField c k children (take (end - at) (drop at c)) (children.0, at + children.1)
  hands_field children =
      let s = children-some c (asked-within c k a).3 in
      let b = field_ends in
      record {
        asked = a;
        text_is = refl;
        start_is = let e : at ≡ start_in (children_in c) (k - 1) = rw s r.at_is in omega (arith, e);
        name_is = rw s b.name_is;
        bytes_are = rw (s, ← r.at_is, ← b.long);
      }

-- a part by its end is the part by its length
pub part-sized : (x : Text) (s n : ℕ) → take (s + n - s) (drop s x) ≡ take n (drop s x)
part-sized x s n = let e : s + n - s ≡ n = omega arith in ap (λ j. take j (drop s x)) e

-- of a name of the model
part-own : (m c : Text) (k n : ℕ) → (n ≡ 0 → ⊥) → part_by m c k n ≡ of_model (get_or (places m (length m)) (n - 1) 0) (length (child_name c k))
part-own m c k zero z = absurd (z refl)
part-own m c k (suc n) z = let e : suc n - 1 ≡ n = omega arith in rw e

-- what is read of the model text is what is meant
module _ (m : Text) {x : Reading} (e : x ≡ reading m) where
  pub read-refused : (c : Text) (k : ℕ) (u : Misread) → x.outcome ≡ Err u → result_of (found m c k) ≡ Err (Model u.fault)
  unfolding found
  read-refused c k u = rw e (go (answer m) refl)
    where
      go : (a : Answer) → answer m ≡ a → (reading_by m a).outcome ≡ Err u → result_of (found m c k) ≡ Err (Model u.fault)
      go (refused g q) d o = let z : g ≡ u.fault = cc in rw (d, z)
      go (accepted t) d o = absurd (cc)

  module _ (o : x.outcome ≡ Ok tt) where
    read-tree : (t : Syntax) × (answer m ≡ accepted t) × (x.names ≡ names_of m)
    read-tree = rw e (go (answer m) refl (rw e at o))
      where
        go : (a : Answer) → answer m ≡ a → (reading_by m a).outcome ≡ Ok tt → (t : Syntax) × (answer m ≡ accepted t) × ((reading_by m a).names ≡ names_of m)
        go (refused f p) d o = absurd (cc)
        go (accepted t) d o = (t, d, refl)

    abbrev tree : Syntax
    tree = read-tree.0

    answers : Answers m (accepted tree)
    answers = rw read-tree.1 at (answered m)

    found-asked : (c : Text) (k : ℕ) → found m c k ≡ asked_give (asked_of c k) (part_in m c k tree)
    unfolding found
    found-asked c k = rw read-tree.1 (kids-asked c k (part_in m c k tree))

    pub read-missing : (c : Text) (k : ℕ) (f : CueFault) → asked_of c k ≡ Err f → result_of (found m c k) ≡ Err (Children f)
    read-missing c k f a = rw (found-asked c k, a)

-- the model text was read, and the child has this number in it
module _ (m : Text) {c : Text} {k : ℕ} {x : Reading} (e : x ≡ reading m) (o : x.outcome ≡ Ok tt)
    {name : Text} {place children : Loc} (h : HandsField c k children name place) {n : ℕ} (g : n ≡ number_in (parts_of m x.names) name) where
  number-is : number_in (written_names (tree m e o)) (child_name c k) ≡ n
  number-is = rw ((read-tree m e o).2, h.name_is, names_are m (tree m e o) (answers m e o)) at (sym g)

  found-part : found m c k ≡ good (part_by m c k n)
  found-part = found-asked m e o c k ∙ rw (h.asked, number-is)

  pub none-refused : child_refusal m c k ≡ 0
  none-refused = ap (reply_number (λ p. 0)) found-part

  pub hands-foreign : (model : Loc) → n ≡ 0 → Hands m c k model children name place
  hands-foreign model z =
      let d : child_part m c k ≡ of_children (start_in (children_in c) (k - 1)) (length (child_name c k)) = rw (found-part, z) in
      record { text_is = rw d h.text_is; start_is = rw d h.start_is; bytes_are = rw d h.bytes_are }

  -- a name of the model
  module _ (z : n ≡ 0 → ⊥) where
    abbrev begins : ℕ
    begins = get_or (places m (length m)) (n - 1) 0

    own-named : (n - 1 < length (written_names (tree m e o))) × T (name_at m begins) × (name_from m begins ≡ child_name c k)
    own-named = name-here m c k (tree m e o) (answers m e o) (n - 1) (number-is ∙ omega arith)

    pub own-few : n - 1 < max_atoms
    own-few = omega (arith, own-named.0, written-few m (tree m e o) (answers m e o))

    abbrev own : NamePlace
    own = get_or x.names.places (n - 1) no_place

    own-is : own ≡ name_place m begins
    own-is = rw (read-tree m e o).2 (place_in m (n - 1) (omega (arith, own-named.0, names-many m (tree m e o) (answers m e o))))

    pub own-inside : own.start + own.len ≤ length m
    own-inside = rw own-is (name-fits m begins (omega (arith, name-inside m begins own-named.1)))

    pub hands-own : (model : Loc) → Hands m c k model children (take (own.start + own.len - own.start) (drop own.start m)) (model.0, own.start + model.1)
    hands-own model =
        let start : own.start ≡ begins = ap (λ (p : NamePlace). p.start) own-is in
        let long : own.len ≡ length (child_name c k) = rw (own-is, own-named.2) in
        let d : child_part m c k ≡ of_model own.start own.len = rw (found-part, part-own m c k n z, start, long) in
        record { text_is = rw d refl; start_is = rw d (omega arith); bytes_are = rw d (part-sized m own.start own.len) }
