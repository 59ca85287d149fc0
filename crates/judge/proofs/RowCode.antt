-- What is known of a row where it is judged: by its tests, of its rule when that is packed, and by the tally.
use mathlib.Core.{Path.◌≡◌, Path.refl, Path.sym, Path.ap, Path.◌∙◌, Bool.true, List.List, List.[], List.map}
use Rattle.std.specs.Prelude.{ℕ, ◌≤◌, Some, None, Result, Ok, Err}
use Rattle.std.proofs.Common.{arith, leb-true}
use lib.{Dec.leb, ListN.length, ListN.take, ListN.get_or}
use Rattle.judge.specs.declared.packed.Sizes.{Sizes}
use Rattle.judge.specs.{Reading.Buffer.Stores, Packed.node_in, Packed.rule_in, Packed.seen_in, Row.upto, Row.row_tested, Row.judged}
use Rattle.judge.specs.{Row.Attribute.seen, Row.Tally.seen_of, Row.Tally.limits_in, Row.Tally.Limits.limits-seeing}
use Rattle.judge.specs.Row.{Laws.upto-more, Tally.Seeing}
use Rattle.judge.specs.{FirstFault.upper_counts, FirstFault.first_fault}
use Rattle.judge.proofs.{FirstFaultLaws.first-exactly, FirstFaultMeaning.sound-rule}
use Rattle.judge.specs.{Row.Attribute.CountsWithin}
use Rattle.judge.proofs.FirstFaultMeaning.{faulty-rule}
use Rattle.judge.specs.{Row.Tally.Tallied, Row.Pass.seen_verdict, Row.Pass.verdict-seen, Row.Pass.Judgeable, declared.fault.JudgeFault.JudgeFault}
use Rattle.model.specs.{declared.rule.Rule.Rule, declared.rule.Node.Node, declared.verdict.Verdict.TheVariants.Dead, Word.Word, Types.symbols}
use Rattle.model.specs.Membership.{over?}
use Rattle.model.specs.{Verdict.verdict, Tree.atoms, Tree.nodes, Model.Laws.length-encode, Model.atoms_in, Rule.names, Rule.rule_with, Rule.rule_type}
use Rattle.model.specs.{Rule.used}
use Rattle.model.specs.{Rule.Laws.used-with, Rule.Laws.used-is, Rule.Names.names-model, Check.readable}
use Rattle.model.proofs.CheckExact.{readable-formed}
use Rattle.fields.specs.{Tests.by-test, Limits.max_atoms, Limits.max_nodes, Limits.max_row}

-- the limits that the passes ask for
pub readable-within : (r : Rule) → readable r ≡ true → (r.len ≤ max_nodes) × (names r ≤ max_atoms)
readable-within r e =
    let w = readable-formed r e in
    let l : r.len ≡ nodes w.model = ap (λ s. s.len) w.rule_is ∙ length-encode w.model in
    let n : names r ≡ atoms w.model = ap names w.rule_is ∙ names-model w.model in
    (omega (arith, w.few_nodes), omega (arith, w.few_atoms))

-- its unused places hold nothing else
pub readable-with : (r : Rule) → readable r ≡ true → r ≡ rule_with (used r)
readable-with r e = let w = readable-formed r e in rw w.rule_is (ap rule_with (sym (used-is w.model)))

-- what the tests of 40, 41 and 43 tell
pub record Passes (r : Rule) (w : Word) (n : ℕ) : Type 0 where
  pub good : readable r ≡ true
  pub short : length w ≤ max_row
  pub named : upto n w ≡ true
  pub names_are : n ≡ names r
  pub answer : judged r w ≡ Ok (verdict (rule_type r) w)

abbrev pub TestTells : Rule → Word → Result ℕ JudgeFault → Type 0
TestTells r w (Ok n) = Passes r w n
TestTells r w (Err f) = judged r w ≡ Err f

test-tells : (r : Rule) (w : Word) → TestTells r w (row_tested r w)
unfolding judged row_tested
test-tells r w =
    by-test (readable r)
    (λ a. by-test (leb (length w) max_row)
    (λ b. by-test (upto (names r) w)
    (λ c. rw (a, b, c) record { good = a; short = leb-true (length w) max_row b; named = c; names_are = refl; answer = rw (a, b, c) })
    (λ c. rw (a, b, c) (rw (a, b, c))))
    (λ b. rw (a, b) (rw (a, b))))
    (λ a. rw a (rw a))

pub tested : (r : Rule) (w : Word) {t : Result ℕ JudgeFault} → row_tested r w ≡ t → TestTells r w t
tested r w e = rw e at (test-tells r w)

-- packed, it is still the same rule
module _ {r : Rule} {w : Word} {n : ℕ} (p : Passes r w n) (words : List ℕ) (h : Stores node_in max_nodes (limits_in (used r)) words r.len (used r)) where
  pub packed-is : rule_in words r.len ≡ r
  packed-is = rw h.held (sym (readable-with r p.good))

  -- what is asked where the row is judged by it
  pub packed-passes : Judgeable words (record { nodes = r.len; children = length w; names = n }) w
  packed-passes = record {
    sized = record {
      few = h.few;
      whole = omega (arith, h.whole);
      names_are = rw h.held p.names_are;
      few_names = omega (arith, p.names_are, (readable-within r p.good).1);
    };
    children_are = refl;
    limits = rw h.held h.behind;
    good = rw packed-is p.good;
    short = p.short;
    named = p.named;
  }

-- what the first pass asks, of the nodes that the words hold
module _ {words : List ℕ} {r : Sizes} {w : Word} (p : Judgeable words r w) where
  pub searchable : (length w ≤ max_row) × (upto max_atoms w ≡ true)
  searchable = (p.short, upto-more r.names max_atoms w p.sized.few_names p.named)

  pub counts-known : Seeing (upper_counts (map node_in (take r.nodes words))) [] (seen_in words)
  counts-known = rw p.limits (limits-seeing (map node_in (take r.nodes words)) (omega (arith, p.sized.few_names, p.sized.names_are)))

-- the first pass has counted each name of a readable rule
pub names-tallied : (r : Rule) → readable r ≡ true → (w : Word) (s : List ℕ) → Tallied w s
    → (k : ℕ) → k ≤ names r → seen_of (length w) (get_or s k 0) ≡ seen w k
names-tallied r e w s g k h = g k (omega (arith, (readable-within r e).1))

-- The row of the rule of these nodes: what the passes tell of it.
module _ (l : List Node) (e : readable (rule_with l) ≡ true) (w : Word) {m : ℕ} (f : m ≡ atoms_in l) (h : upto m w ≡ true) where
  named : upto (names (rule_with l)) w ≡ true
  named = rw (used-with l, ← f) h

  -- where the first has found a fault, the row is dead
  pub verdict-stopped : {p : ℕ} → first_fault (upper_counts l) w ≡ Some p → verdict (rule_type (rule_with l)) w ≡ Dead
  verdict-stopped {p} d =
      faulty-rule (rule_with l) e w named {p = p} (rw (used-with l) ((first-exactly (upper_counts l) w (Some p)).0 d).0)

  module _ (d : first_fault (upper_counts l) w ≡ None) where
    -- no name is foreign, and none stands too often
    pub row-sound : (over? (symbols (rule_type (rule_with l))) w ≡ true) × CountsWithin (rule_type (rule_with l)) w
    row-sound = sound-rule (rule_with l) e w named (rw (used-with l) d)

    -- and the second tells the verdict, with what the first has counted
    pub verdict-tallied : (s : List ℕ) → Tallied w s
        → seen_verdict (rule_with l) (length w) (λ k. seen_of (length w) (get_or s k 0)) ≡ verdict (rule_type (rule_with l)) w
    verdict-tallied s g =
        verdict-seen (rule_with l) e w row-sound.0 row-sound.1 (λ k. seen_of (length w) (get_or s k 0)) (names-tallied (rule_with l) e w s g)
