-- What a fault says of the verdict: a row with one is dead, and a row without one has only names of the type, none more often than its upper count.
use mathlib.Core.{Path.◌≡◌, Path.refl, Path.sym, Path.ap, Path.◌∙◌, Logic.◌↔◌, Logic.by_cases, List.List, List.[], List.◌∷◌}
use Rattle.std.specs.Prelude.{ℕ, zero, suc, ◌+◌, ◌<◌, ◌≤◌, Bool, true, false, not, ◌≢◌, None}
use Rattle.std.proofs.Common.{true≢false}
use Rattle.std.proofs.Math.Bool.{and-eq-true_iff, and-false, or-true}
use native.Mathlib.{Decide.dec_lt, Omega.arith}
use lib.{Dec.leb, Dec.eqb, ListN.length, ListN.take, ListN.drop, ListN.get_or, ListN.length-append, ListN.take-append-drop, Seq.take-suc, Seq.take_all}
use borrow.Author.Tests.{leb-true, leb-false, le-leb, lt-leb, eq-eqb, ne_eqb}
use Rattle.fields.specs.{Tests.by-test, Tests.tells-not, Least.NoneStands}
use Rattle.model.specs.{declared.rule.Upper.Upper, declared.rule.Mark.Mark, declared.rule.Kind.Kind, declared.rule.Node.Node, declared.rule.Rule.Rule}
use Rattle.model.specs.{declared.verdict.Verdict.TheVariants.Dead, Word.Word, Word.Names, Word.only, Word.keep, Word.count, Word.touched, Word.either}
use Rattle.model.specs.{Verdict.verdict, Verdict.Says}
use Rattle.model.proofs.{WordLaws.only-is, WordSpan.count-more, WordProjection.keep_append, VerdictLaws.verdict-is}
use Rattle.model.specs.{Rule.used, Rule.names, Rule.rule_type}
use Rattle.model.specs.{Rule.Means}
use Rattle.model.proofs.CheckExact.{readable-is, means-type, means-conflict-free}
use Rattle.model.specs.{Rule.Names.names-model, Check.readable, Model.Types.type-symbols}
use Rattle.model.proofs.CheckExact.{readable-formed, rule-type}
use Rattle.model.specs.declared.rule.Upper.TheVariants.{Number, Unbounded}
use Rattle.model.specs.declared.rule.Mark.TheVariants.{Plain, Optional, Nonempty}
use Rattle.model.specs.declared.rule.Kind.TheVariants.{Atom, Group}
use Rattle.model.specs.Types.{Operator, sequence, choice, interleaving, Ty, ε, atom, join, nonempty, symbols}
use Rattle.model.specs.Membership.{under, joined, begun, done, alive, over?, holds?, extends?}
use Rattle.model.specs.Model.{counted_type, operator, joined_from, joined_type, marked_type, type_by, after, eval_step, eval}
use Rattle.judge.specs.{Row.upto, Row.Upto, Row.Laws.upto-tells, Row.Laws.upto-at, Row.Attribute.CountsWithin, FirstFault.with_upper}
use Rattle.judge.specs.{FirstFault.upper_counts, FirstFault.allowed, FirstFault.CountsAre}
use Rattle.judge.specs.{FirstFault.FaultAt, FirstFault.is_fault, FirstFault.first_fault}
use Rattle.judge.proofs.FirstFaultLaws.{first-exactly, count-with}
use Rattle.judge.proofs.FirstFaultLaws.{fault-tells, fault-place}

-- types whose upper counts f gives
module _ (f : ℕ → Upper) where
  abbrev AllBy : List Ty → Type 0
  AllBy [] = Unit {0}
  AllBy (A ∷ l) = CountsAre f A × AllBy l

  take_by : (n : ℕ) (l : List Ty) → AllBy l → AllBy (take n l)
  take_by zero l h = tt
  take_by (suc n) [] h = tt
  take_by (suc n) (A ∷ l) h = (h.0, take_by n l h.1)

  drop-by : (n : ℕ) (l : List Ty) → AllBy l → AllBy (drop n l)
  drop-by zero l h = h
  drop-by (suc n) [] h = tt
  drop-by (suc n) (A ∷ l) h = drop-by n l h.1

  first_by : (l : List Ty) → AllBy l → CountsAre f (get_or l 0 ε)
  first_by [] h = tt
  first_by (A ∷ l) h = h.0

  joined_by-is : (o : Operator) (A : Ty) (l : List Ty) → CountsAre f A → AllBy l → CountsAre f (joined_from o A l)
  joined_by-is o A [] a h = a
  joined_by-is o A (B ∷ l) a h = joined_by-is o (join o A B) l (a, h.0) h.1

  group-by : (o : Operator) (l : List Ty) → AllBy l → CountsAre f (joined_type o l)
  group-by o [] h = tt
  group-by o (A ∷ l) h = joined_by-is o A l h.0 h.1

  counted-by : (a m : ℕ) (n : Upper) → f a ≡ n → CountsAre f (counted_type a m n)
  counted-by a zero n e = (tt, e)
  counted-by a (suc m) n e = e

  marked_by-is : (m : Mark) (A : Ty) → CountsAre f A → CountsAre f (marked_type m A)
  marked_by-is Plain A h = h
  marked_by-is Optional A h = (tt, h)
  marked_by-is Nonempty A h = h

  -- f gives the upper counts us for the names from k on
  abbrev Gives : ℕ → List Upper → Type 0
  Gives k us = (j n : ℕ) → j < length us → n ≡ k + j → f n ≡ get_or us j (Number 0)

  node_by : (κ : Kind) (m : Mark) (k : ℕ) (us : List Upper) (l : List Ty) → Gives k (with_upper κ us) → (Gives (after κ k) us → AllBy l)
      → AllBy (eval_step type_by κ m k l)
  node_by (Atom lo hi) m k us l g r = (
    marked_by-is m (counted_type k lo hi) (counted-by k lo hi (g 0 k (omega arith) (omega arith))),
    r (λ j n h e. g (suc j) n (omega arith) (omega arith)),
  )
  node_by (Group s n) m k us l g r = (
    marked_by-is m (joined_type (operator s) (take n l)) (group-by (operator s) (take n l) (take_by n l (r g))),
    drop-by n l (r g),
  )

  eval-by : (l : List Node) (k : ℕ) → Gives k (upper_counts l) → AllBy (eval type_by l k)
  eval-by [] k g = tt
  eval-by (x ∷ l) k g =
      node_by x.kind x.mark k (upper_counts l) (eval type_by l (after x.kind k)) g (eval-by l (after x.kind k))

  -- where no name stands too often, no atom's does
  within_by : (A : Ty) (w : Word) → CountsAre f A → ((a : ℕ) → under (count a w) (f a) ≡ true) → CountsWithin A w
  within_by ε w h u = tt
  within_by (atom a m n) w h u = rw h at (u a)
  within_by (join o A B) w h u = (within_by A w h.0 u, within_by B w h.1 u)
  within_by (nonempty A) w h u = within_by A w h u

-- a name that stands in the row touches a type that has it
counted-touched : (p : Names) (x : ℕ) → p x ≡ true → (w : Word) → (count x w ≢ 0) → touched p w ≡ true
unfolding touched keep
counted-touched p x e [] h = absurd (h refl)
counted-touched p x e (y ∷ w) h =
    by-test (only x y)
    (λ d. rw (only-is x y d, e))
    (λ d. rw (counted-touched p x e w (rw d at h)) (or-true (p y)))

under_none : (n : Upper) → under 0 n ≡ true
under_none (Number n) = le-leb 0 n (omega arith)
under_none Unbounded = refl

under_more : (n : Upper) (j k : ℕ) → j ≤ k → under j n ≡ false → under k n ≡ false
under_more (Number n) j k h e = lt-leb k n (omega (arith, leb-false j n e))
under_more Unbounded j k h e = e

-- a name that stands too often: the type can be made neither done nor longer
module _ (f : ℕ → Upper) (w : Word) (x : ℕ) (over : under (count x w) (f x) ≡ false) where
  some : count x w ≡ 0 → ⊥
  some e = true≢false (sym (under_none (f x)) ∙ ap (λ c. under c (f x)) (sym e) ∙ over)

  -- of a join, where it is a name of the first member, and where it is one of the second
  first-joined : (o : Operator) (b t y : Bool) → joined o b true t false y ≡ false
  first-joined sequence b t y = and-false b
  first-joined choice b t y = rw (and-false (not t))
  first-joined interleaving b t y = refl

  first-begun : (o : Operator) (b t y : Bool) → begun o b true t false false y ≡ false
  first-begun sequence b t y = rw (and-false (not t)) (and-false b)
  first-begun choice b t y = rw (and-false (not t))
  first-begun interleaving b t y = refl

  second-joined : (o : Operator) (b s x : Bool) → joined o b s true x false ≡ false
  second-joined sequence b s x = rw (and-false x) (and-false b)
  second-joined choice b s x = and-false (not s)
  second-joined interleaving b s x = and-false x

  second-begun : (o : Operator) (b s x x' : Bool) → begun o b s true x x' false ≡ false
  second-begun sequence b s x x' = rw (and-false x) (and-false b)
  second-begun choice b s x x' = and-false (not s)
  second-begun interleaving b s x x' = and-false x'

  excess : (A : Ty) → CountsAre f A → symbols A x ≡ true → (done A w ≡ false) × (alive A w ≡ false)
  unfolding done alive either
  excess ε h e = absurd (true≢false (sym e))
  excess (atom a m n) h e =
      let d : under (count a w) n ≡ false = rw (only-is a x e, h) at over in (rw (d, and-false), d)
  excess (join o A B) h e =
      by-test (symbols A x)
      (λ d. let (a, b) = excess A h.0 d in
      let t = counted-touched (symbols A) x d w some in
      (rw (t, a) (first-joined o _ _ _), rw (t, a, b) (first-begun o _ _ _)))
      (λ d. let (a, b) = excess B h.1 (rw d at e) in
      let t = counted-touched (symbols B) x (rw d at e) w some in
      (rw (t, a) (second-joined o _ _ _), rw (t, b) (second-begun o _ _ _ _)))
  excess (nonempty A) h e = let (a, b) = excess A h e in (rw (a, and-false), b)

-- no number is foreign just if 0 is none of them
over-known : (p : Names) (m : ℕ) → ((x : ℕ) → (p x ≡ true) ↔ ((1 ≤ x) × (x ≤ m))) → (w : Word) → upto m w ≡ true
    → over? p w ≡ eqb (count 0 w) 0
unfolding over? keep only
over-known p m f [] h = refl
over-known p m f (x ∷ w) h =
    let (a, b) = (and-eq-true_iff (leb x m) (upto m w)).0 h in
    by_cases (dec_lt 0 x)
    (λ l. rw ((f x).1 (l, leb-true x m a), ne_eqb x 0 (λ e. omega arith)) (over-known p m f w b))
    (λ l. let n : p x ≡ false = by-test (p x) (λ e. absurd (omega (arith, (f x).0 e))) (λ e. e) in
    rw (n, eq-eqb x 0 (omega arith)) (sym (ne_eqb (suc (count 0 w)) 0 (λ e. omega arith))))

count-take : (x i : ℕ) (w : Word) → count x (take i w) ≤ count x w
count-take x i w =
    let e : count x (take i w) + count x (drop i w) ≡ count x w =
    sym (length-append (keep (only x) (take i w)) (keep (only x) (drop i w)))
    ∙ ap length (sym (keep_append (only x) (take i w) (drop i w)) ∙ ap (keep (only x)) (take-append-drop i w)) in
    omega arith

module _ (us : List Upper) (w : Word) where
  -- where no child is at fault, no name stands too often
  module _ (sound : NoneStands (FaultAt us w)) (a : ℕ) where
    few-first : (i : ℕ) → i ≤ length w → under (count a (take i w)) (allowed us a) ≡ true
    unfolding is_fault keep
    few-first zero h = under_none (allowed us a)
    few-first (suc i) h =
        let x = get_or w i 0 in
        let e : under (count x (take (suc i) w)) (allowed us x) ≡ true =
        by-test (under (count x (take (suc i) w)) (allowed us x)) (λ d. d)
        (λ d. absurd (sound i ((fault-tells us w i h).0 ((tells-not (under (count x (take (suc i) w)) (allowed us x))).1 d)))) in
        rw (take-suc w i 0 h, count-more a (take i w) x)
        (by-test (only a x)
        (λ d. rw d (rw (count-with w i h, only-is a x d) at e))
        (λ d. rw d (few-first i (omega arith))))

    few : under (count a w) (allowed us a) ≡ true
    few = rw (take_all (length w) w (omega arith)) at (few-first (length w) (omega arith))

  -- a child at fault stands too often in the whole row too
  many : {p : ℕ} → FaultAt us w p → under (count (get_or w p 0) w) (allowed us (get_or w p 0)) ≡ false
  unfolding is_fault
  many {p} f =
      let x = get_or w p 0 in
      under_more (allowed us x) (count x (take (suc p) w)) (count x w) (count-take x (suc p) w)
      ((tells-not (under (count x (take (suc p) w)) (allowed us x))).0 ((fault-tells us w p (fault-place us w f)).1 f))

-- a type with these upper counts and the names 1 to n, and a row of numbers up to n
module _ (us : List Upper) (A : Ty) (n : ℕ) (by : CountsAre (allowed us) A) (named : (x : ℕ) → (symbols A x ≡ true) ↔ ((1 ≤ x) × (x ≤ n)))
    (w : Word) (u : upto n w ≡ true) where
  sound-row : NoneStands (FaultAt us w) → (over? (symbols A) w ≡ true) × CountsWithin A w
  sound-row h = (
    over-known (symbols A) n named w u ∙ eq-eqb (count 0 w) 0 (omega (arith, leb-true (count 0 w) 0 (few us w h 0))),
    within_by (allowed us) A w by (few us w h),
  )

  faulty-row : {p : ℕ} → FaultAt us w p → verdict A w ≡ Dead
  unfolding verdict holds? extends?
  faulty-row {p} f =
      let x = get_or w p 0 in
      by_cases (dec_lt 0 x)
      (λ l. let e = excess (allowed us) w x (many us w f) A by ((named x).1 (l, upto-at n w u p (fault-place us w f))) in rw (e.0, e.1, and-false))
      (λ l. let z : x ≡ 0 = omega arith in
      let m : leb (count 0 w) 0 ≡ false = rw z at (many us w f) in
      rw (over-known (symbols A) n named w u, ne_eqb (count 0 w) 0 (λ d. omega (arith, leb-false (count 0 w) 0 m))))

rule-counts : (r : Rule) → CountsAre (allowed (upper_counts (used r))) (rule_type r)
unfolding rule_type
rule-counts r =
    first_by (allowed (upper_counts (used r))) (eval type_by (used r) 1)
    (eval-by (allowed (upper_counts (used r))) (used r) 1 (λ j n h d. let i : n ≡ suc j = omega arith in rw i))

pub meant-counts : {r : Rule} {A : Ty} → Means r A → CountsAre (allowed (upper_counts (used r))) A
meant-counts {r} m = rw (means-type m) (rule-counts r)

-- of a rule that some text reads into
module _ (r : Rule) (e : readable r ≡ true) where
  rule-named : (x : ℕ) → (symbols (rule_type r) x ≡ true) ↔ ((1 ≤ x) × (x ≤ names r))
  rule-named x =
      let v = readable-formed r e in
      let t = v.model in
      rw (v.rule_is, rule-type t, names-model t) (type-symbols t v.formed x)

  module _ (w : Word) (u : upto (names r) w ≡ true) where
    abbrev counts : List Upper
    counts = upper_counts (used r)

    pub sound-rule : first_fault counts w ≡ None → (over? (symbols (rule_type r)) w ≡ true) × CountsWithin (rule_type r) w
    sound-rule d = sound-row counts (rule_type r) (names r) (rule-counts r) rule-named w u ((first-exactly counts w None).0 d)

    pub faulty-rule : {p : ℕ} → FaultAt counts w p → verdict (rule_type r) w ≡ Dead
    faulty-rule = faulty-row counts (rule_type r) (names r) (rule-counts r) rule-named w u

-- by the type that the rule means
pub fault-kills : {r : Rule} {A : Ty} {w : Word} {p : ℕ} → Means r A → Upto (names r) w → FaultAt (upper_counts (used r)) w p → Says A w Dead
fault-kills {r} {A} {w} m u f =
    let e = (readable-is r).1 (m.text, m.reads) in
    (verdict-is A (means-conflict-free m) w Dead).0 (rw (means-type m) (faulty-rule r e w ((upto-tells (names r) w).1 u) f))
