-- There is one first fault or none, and one answer, and the functions compute them.
use mathlib.Core.{Path.◌≡◌, Path.refl, Path.ap, Logic.◌↔◌, Logic.by_cases, List.List}
use Rattle.std.specs.Prelude.{ℕ, zero, suc, ◌+◌, ◌<◌, ◌≤◌, Bool, true, false, length, take, slice_index, Option, Some, None, Result, Ok, Err}
use native.Mathlib.{Decide.dec_lt, Omega.arith}
use Rattle.std.proofs.Common.{take-suc}
use Rattle.fields.specs.{Bytes.Text, Tests.by-test, Tests.Tells, Tests.untold, Tests.fails, Tests.tells-not, Least.Laws.exactly}
use Rattle.model.specs.{declared.rule.Upper.Upper, declared.rule.Upper.TheVariants.Number, declared.rule.Rule.Rule, Word.Word, Word.count}
use Rattle.model.specs.{Types.Under, Membership.under, Model.model_of}
use Rattle.model.proofs.{WordSpan.count-more, WordLaws.only_self, MembershipLaws.under-tells}
use Rattle.model.specs.{Model.encode, Rule.used, Rule.rule_type, Verdict.verdict}
use Rattle.judge.specs.declared.fault.JudgeFault.{JudgeFault}
use Rattle.judge.specs.{Row.Judges, Row.by_meaning, Row.judged}
use Rattle.judge.specs.{Row.judged_if, Row.row_tested, Row.Laws.judged-judges, Row.Laws.judged-is, Row.Laws.test-passed, Reply.Reply, Reply.row}
use Rattle.judge.specs.{Reply.row_in, Reply.Laws.replies-exactly}
use Rattle.judge.specs.FirstFault.{upper_counts, allowed, FaultAt, foreign, one_too_many, FirstFaultIs, JudgesFault, not_searched, by_counts}
use Rattle.judge.specs.FirstFault.{ChildrenFaultStands, is_fault, first_where, first_fault, searched_if, fault_judged, children_fault}

-- the first of some places
module _ (f : ℕ → Bool) where
  -- of the n places from i on, a is the first that passes the test, or none does
  abbrev FirstFrom : ℕ → ℕ → Option ℕ → Type 0
  FirstFrom i n (Some p) = (i ≤ p) × (p < i + n) × (f p ≡ true) × ((q : ℕ) → i ≤ q → q < p → f q ≡ false)
  FirstFrom i n None = (q : ℕ) → i ≤ q → q < i + n → f q ≡ false

  pub first-where : (i n : ℕ) → FirstFrom i n (first_where f i n)
  first-where i zero = λ q a b. absurd (omega arith)
  first-where i (suc n) =
      by-test (f i)
      (λ e. rw e (omega arith, omega arith, e, λ q a b. absurd (omega arith)))
      (λ e. rw e (go e (first_where f (suc i) n) (first-where (suc i) n)))
    where
      at : f i ≡ false → (q : ℕ) → i ≤ q → (suc i ≤ q → f q ≡ false) → f q ≡ false
      at e q a k = by_cases (dec_lt i q) k (λ l. let d : q ≡ i = omega arith in rw d e)

      go : f i ≡ false → (a : Option ℕ) → FirstFrom (suc i) n a → FirstFrom i (suc n) a
      go e (Some p) (a, b, d, k) = (omega arith, omega arith, d, λ q g h. at e q g (λ l. k q l h))
      go e None k = λ q g h. at e q g (λ l. k q l (omega arith))

-- the child at place p is counted behind those before it
pub count-with : (w : Word) (p : ℕ) → p < length w → count (slice_index w p) (take (suc p) w) ≡ suc (count (slice_index w p) (take p w))
count-with w p h = rw (take-suc w p 0 h, count-more (slice_index w p) (take p w) (slice_index w p), only_self (slice_index w p))

-- the test of a place tells whether its child is at fault
module _ (us : List Upper) (w : Word) (p : ℕ) (h : p < length w) where
  abbrev many : ℕ
  many = count (slice_index w p) (take (suc p) w)

  abbrev most : Upper
  most = allowed us (slice_index w p)

  -- a foreign child is one more than none
  too_many : FaultAt us w p → ¬ Under many most
  too_many (foreign i e) = λ u. let a : most ≡ Number 0 = ap (allowed us) e in omega (arith, rw (count-with w p h, a) at u)
  too_many (one_too_many i k) = k

  pub fault-tells : Tells (is_fault us w p) (FaultAt us w p)
  unfolding is_fault
  fault-tells = (
    λ e. one_too_many h (untold (under many most) (under-tells many most) ((tells-not (under many most)).0 e)),
    λ k. (tells-not (under many most)).1 (fails (under many most) (under-tells many most) (too_many k)),
  )

module _ (us : List Upper) (w : Word) where
  pub fault-place : {p : ℕ} → FaultAt us w p → p < length w
  fault-place (foreign h e) = h
  fault-place (one_too_many h k) = h

  no-fault : (q : ℕ) → (q < length w → is_fault us w q ≡ false) → ¬ FaultAt us w q
  no-fault q e f = let h = fault-place f in untold (is_fault us w q) (fault-tells us w q h) (e h) f

  first_is : FirstFaultIs us w (first_fault us w)
  unfolding first_fault
  first_is = go (first_where (is_fault us w) 0 (length w)) (first-where (is_fault us w) 0 (length w))
    where
      go : (a : Option ℕ) → FirstFrom (is_fault us w) 0 (length w) a → FirstFaultIs us w a
      go (Some p) (a, b, d, k) = (
        (fault-tells us w p (omega arith)).0 d,
        λ q f. by_cases (dec_lt q p) (λ l. absurd (no-fault q (λ i. k q (omega arith) l) f)) (λ l. omega arith),
      )
      go None k = λ q f. no-fault q (λ i. k q (omega arith) (omega arith)) f

  first-once : (a b : Option ℕ) → FirstFaultIs us w a → FirstFaultIs us w b → a ≡ b
  first-once (Some p) (Some q) h k = ap Some (omega (arith, h.1 q k.0, k.1 p h.0))
  first-once (Some p) None h k = absurd (k p h.0)
  first-once None (Some q) h k = absurd (h q k.0)
  first-once None None h k = refl

  pub first-exactly : (a : Option ℕ) → (first_fault us w ≡ a) ↔ FirstFaultIs us w a
  first-exactly = exactly (FirstFaultIs us w) first-once (first_fault us w) first_is

-- by a rule, and by texts
module _ (r : Rule) (w : Word) where
  abbrev counts : List Upper
  counts = upper_counts (used r)

  searched : (t : Result ℕ JudgeFault) → Judges r w (judged_if (verdict (rule_type r) w) t) → JudgesFault r w (searched_if (first_fault counts w) t)
  searched (Ok n) (by_meaning m l u s) = by_counts (m.text, m.reads) l u ((first-exactly counts w (first_fault counts w)).0 refl)
  searched (Err f) h = not_searched h

  refused-alike : (t : Result ℕ JudgeFault) (f : JudgeFault) → Err f ≡ judged_if (verdict (rule_type r) w) t → searched_if (first_fault counts w) t ≡ Err f
  refused-alike (Ok n) f e = let z : ◌≡◌ {A = ℕ} 0 1 = cc in absurd (omega arith)
  refused-alike (Err g) f e = let d : f ≡ g = cc in cc

  pub searched-found : {n : ℕ} → row_tested r w ≡ Ok n → Ok (first_fault counts w) ≡ fault_judged r w
  unfolding fault_judged
  searched-found e = rw e

  pub searched-refused : {f : JudgeFault} → row_tested r w ≡ Err f → Err f ≡ fault_judged r w
  unfolding fault_judged
  searched-refused e = rw e

  searched-is : {a : Result (Option ℕ) JudgeFault} → JudgesFault r w a → fault_judged r w ≡ a
  unfolding fault_judged judged
  searched-is (not_searched {f} h) = refused-alike (row_tested r w) f (judged-is r w h)
  searched-is (by_counts {a} i l u h) =
      rw (test-passed r w i l u) (ap Ok ((first-exactly counts w a).1 h))

  pub searches-exactly : (a : Result (Option ℕ) JudgeFault) → (fault_judged r w ≡ a) ↔ JudgesFault r w a
  unfolding fault_judged judged
  searches-exactly a = (λ e. rw e at (searched (row_tested r w) (judged-judges r w)), searched-is)

pub fault-replies-exactly : (m c : Text) (r : Reply (Option ℕ)) → (children_fault m c ≡ r) ↔ ChildrenFaultStands m c r
unfolding children_fault
fault-replies-exactly m c =
    replies-exactly row (λ t. first_fault (upper_counts (encode (model_of t))) (row_in t c))
    (λ t a. FirstFaultIs (upper_counts (encode (model_of t))) (row_in t c) a) m c
    (λ t h g a. first-exactly (upper_counts (encode (model_of t))) (row_in t c) a)
