-- The children of a row, one by one: none that is passed is at fault, and they are seen.
use mathlib.Core.{Path.◌≡◌, Path.refl, Path.sym, Path.◌∙◌, List.List, List.[], List.◌∷◌, List.◌++◌}
use Rattle.std.specs.Prelude.{ℕ, suc, ◌+◌, ◌-◌, ◌<◌, ◌≤◌, cond, length, take, nat_lt, slice_index, slice_index_or, slice_set, Option, Some, None}
use Rattle.std.proofs.Common.{true≢false, length-set, get_or-set_same, get_or-set_other, take_all, length-take-le}
use native.Mathlib.{Numerals.add-one, Omega.arith}
use Rattle.std.proofs.Math.Seq.{take-suc}
use borrow.Author.Tests.{lt-ltb, le-ltb}
use Rattle.fields.specs.{Limits.max_atoms, Tests.by-test}
use Rattle.model.specs.declared.rule.Upper.{Upper}
use Rattle.model.specs.Word.{Word, only}
use Rattle.model.proofs.WordLaws.{only-is, only_self}
use Rattle.judge.specs.FirstFault.{is_fault, first_where, first_fault}
use Rattle.judge.proofs.FirstFaultLaws.{count-with}
use Rattle.judge.specs.Row.Tally.{one_left, noted_word, Seeing, RowTallied, RowPassed}
use Rattle.judge.specs.Row.Tally.Words.{seen-whole, full_is, seen_more, seen_other}

module _ {us : List Upper} {w : Word} {s : List ℕ} (t : Seeing us w s) where
  -- a child more
  pub seeing-more : (x v : ℕ) → x ≤ max_atoms → length w < 65535 → one_left ≤ slice_index s x → v ≡ noted_word (slice_index s x) (length w)
      → Seeing us (w ++ (x ∷ [])) (slice_set s x v)
  seeing-more x v g h l e =
      let r : x < length s = omega (arith, t.room) in
      record {
        room = rw length-set t.room;
        word_is = λ k i. by-test (only k x)
            (λ f. rw (← only-is k x f, get_or-set_same s x v 0 r) (e ∙ rw (t.word_is x g) (seen_more us w x h (rw (t.word_is x g) at l))))
            (λ f. rw (get_or-set_other s x k v 0 (λ q. true≢false (sym (only_self x) ∙ (rw q at f)))) (t.word_is k i ∙ sym (seen_other us w x h k f)));
      }

pub fault-told : {us : List Upper} {w : Word} {s : List ℕ} {r a : Option ℕ} → RowTallied us w s r → r ≡ a → first_fault us w ≡ a
fault-told t e = sym t.fault_is ∙ e

-- in a row of no children there is none
pub none_told : {us : List Upper} {s : List ℕ} → Seeing us [] s → RowTallied us [] s None
unfolding first_fault
none_told {us} t = record { fault_is = refl; tallied = λ _ k n. rw (t.word_is k n) (seen-whole us [] k (omega arith)) }

-- where a child is at fault, nothing is told
pub row_told : {us : List Upper} {w : Word} {i : ℕ} {s : List ℕ} → first_fault us w ≡ Some i → RowTallied us w s (Some i)
row_told e = record { fault_is = sym e; tallied = λ d. let z : ◌≡◌ {A = ℕ} 0 1 = cc in absurd (omega arith) }

pub row-starts : {us : List Upper} (w : Word) {s : List ℕ} → Seeing us [] s → RowPassed us w 0 s
unfolding first_fault
row-starts w t = record { rest_is = let e : length w - 0 ≡ length w = omega arith in rw e; seeing = t }

module _ {us : List Upper} {w : Word} {i : ℕ} {s : List ℕ} (p : RowPassed us w i s) where
  -- the next child, by its number
  module _ (h : i < length w) (short : i < 65535) {x : ℕ} (e : x ≡ slice_index w i) (n : x ≤ max_atoms) where
    passed : length (take i w) ≡ i
    passed = length-take-le i w (omega arith)

    rest-next : first_fault us w ≡ cond (is_fault us w i) (Some i) (first_where (is_fault us w) (suc i) (length w - suc i))
    rest-next = let d : length w - i ≡ suc (length w - suc i) = omega arith in p.rest_is ∙ rw d

    full-tells : nat_lt (slice_index s x) one_left ≡ is_fault us w i
    unfolding is_fault passed
    full-tells =
        rw (p.seeing.word_is x n, full_is us (take i w) x (omega (arith, passed)), e, count-with w i h)

    pub row-stops : slice_index_or s x 0 < one_left → first_fault us w ≡ Some i
    unfolding rest-next full-tells
    row-stops l = rest-next ∙ rw (sym full-tells ∙ lt-ltb (slice_index s x) one_left l)

    pub row_goes : {v : ℕ} → one_left ≤ slice_index s x → v ≡ noted_word (slice_index s x) i → RowPassed us w (i + 1) (slice_set s x v)
    unfolding rest-next full-tells passed
    row_goes {v} l d =
        record {
          rest_is = rw add-one (rest-next ∙ rw (sym full-tells ∙ le-ltb (slice_index s x) one_left l));
          seeing = rw (add-one, take-suc w i 0 h, ← e) (seeing-more p.seeing x v n (omega (arith, passed)) l (rw passed d));
        }

  -- there are no more
  pub row_ends : length w ≤ i → length w < 65535 → RowTallied us w s None
  row_ends h short =
      let e : length w - i ≡ 0 = omega arith in
      record {
        fault_is = sym (p.rest_is ∙ rw e);
        tallied = λ _ k n. rw (p.seeing.word_is k n, take_all i w h) (seen-whole us w k short);
      }
