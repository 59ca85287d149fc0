-- What is known of a sheet that was read: each line has a model that is accepted.
use mathlib.Core.{Path.◌≡◌, Path.refl, Path.ap, Path.sym, Path.◌∙◌, Option.Option, Option.none, Option.some, List.List, List.[], List.◌∷◌, List.◌++◌}
use Rattle.std.specs.Prelude.{Result, Ok, Err, ℕ, zero, suc, ◌<◌}
use Rattle.std.proofs.Common.{arith}
use lib.{Dec.leb, Dec.ltb, ListN.length, ListN.get_or}
use Rattle.fields.specs.{Limits.max_file, Tests.by-test, Bytes.Text, Bytes.same_text, Bytes.Laws.same_text-is, Split.lines, Split.behind}
use Rattle.model.specs.{Syntax.Syntax, Fault.Answer, Fault.Answers, Fault.refused, Fault.accepted}
use Rattle.judge.specs.Answer.{answer, answered}
use Rattle.fields.specs.declared.fault.AtLine.{AtLine}
use Rattle.sheet.specs.{declared.sheet.SheetFault.SheetFault, declared.sheet.SheetRead.SheetRead, AtLine.at_line}
use Rattle.sheet.proofs.SheetLaws.{fault-none}
use Rattle.sheet.specs.declared.sheet.SheetFault.TheVariants.{LongFile, Unended, ManyRules}
use Rattle.sheet.specs.Sheet.{max_rules, kind, model, model_fault, line_fault, by_fault, sheet_lines, sheet_outcome, sheet_by, sheet_read}

-- a text is accepted, and t is the tree that it spells
abbrev pub Accepted : Text → Type 0
Accepted x = (t : Syntax) × Answers x (accepted t)

answer-accepted : (x : Text) → model_fault (answer x) ≡ none → Accepted x
answer-accepted x e = go (answer x) (answered x) e
  where
    go : (a : Answer) → Answers x a → model_fault a ≡ none → Accepted x
    go (refused f p) h e = cc e
    go (accepted t) h e = (t, h)

pub not-read : {C : Type 0} (f : SheetFault) (n : ℕ) → ◌≡◌ {A = Result Unit (AtLine SheetFault)} (Err (at_line f n)) (Ok tt) → C
not-read f n e = cc e

all-accepted : (n : ℕ) (ks ls : List Text) → sheet_lines n ks ls ≡ Ok tt → (i : ℕ) → i < length ls → Accepted (model (get_or ls i []))
all-accepted n ks [] e i h = absurd (omega arith)
all-accepted n ks (l ∷ ls) e i h =
    by-test (leb max_rules n)
    (λ t. not-read ManyRules (suc n) (rw t at e))
    (λ t. go (line_fault ks l) refl (all-accepted (suc n) (ks ++ (kind l ∷ [])) ls) (rw t at e) i h)
  where
    go : (f : Option SheetFault) → line_fault ks l ≡ f
        → (sheet_lines (suc n) (ks ++ (kind l ∷ [])) ls ≡ Ok tt → (j : ℕ) → j < length ls → Accepted (model (get_or ls j [])))
        → by_fault f (sheet_lines (suc n) (ks ++ (kind l ∷ [])) ls) (λ g. Err (at_line g (suc n))) ≡ Ok tt
        → (i : ℕ) → i < suc (length ls) → Accepted (model (get_or (l ∷ ls) i []))
    go none q r k zero o = answer-accepted (model l) (fault-none ks l q)
    go none q r k (suc i) o = r k i (omega arith)
    go (some f) q r k i o = not-read f (suc n) k

pub lines-read : (s : Text) → sheet_outcome s ≡ Ok tt → (behind s ≡ []) × (sheet_lines 0 [] (lines s) ≡ Ok tt)
lines-read s e =
    by-test (ltb max_file (length s))
    (λ a. not-read LongFile 0 (rw a at e))
    (λ a. by-test (same_text (behind s) [])
    (λ b. ((same_text-is (behind s) []).0 b, rw (a, b) at e))
    (λ b. not-read Unended 0 (rw (a, b) at e)))

pub line-accepted : (s : Text) → sheet_outcome s ≡ Ok tt → (i : ℕ) → i < length (lines s) → Accepted (model (get_or (lines s) i []))
line-accepted s e = all-accepted 0 [] (lines s) (lines-read s e).1

pub outcome-is : (x : Text) → (sheet_read x).outcome ≡ sheet_outcome x
outcome-is x = go (sheet_outcome x)
  where
    go : (o : Result Unit (AtLine SheetFault)) → (sheet_by x o).outcome ≡ o
    go (Ok _) = refl
    go (Err f) = refl

-- what a reading's outcome tells of the text
pub outcome-told : (x : Text) {r : SheetRead} {o : Result Unit (AtLine SheetFault)} → r ≡ sheet_read x → r.outcome ≡ o → sheet_outcome x ≡ o
outcome-told x e k = sym (outcome-is x) ∙ sym (ap (λ r. r.outcome) e) ∙ k
