-- A listing says of each cue just what the meaning of its model says.
use mathlib.Core.{Path.◌≡◌, Path.refl, Path.sym, Path.ap, Path.◌∙◌, Logic.◌↔◌, List.List, List.[], List.map}
use Prim.Native.Nat.{ℕ, zero, suc, ◌<◌}
use native.Mathlib.{Nat.sub-zero, Numerals.add-one, Omega.arith}
use Rattle.std.specs.Prelude.{None, Ok, length, get_or}
use Rattle.std.proofs.Math.ListN.{length-map, get_or-map}
use Rattle.fields.specs.{Bytes.Text, Split.lines, Split.field}
use Rattle.model.specs.{Syntax.Syntax, Syntax.written_names, Syntax.number_in, Syntax.Number.from_found, Syntax.Number.from-none, Fault.Answers, Fault.accepted}
use Rattle.model.specs.{Model.model_of, Model.type_of, Model.Types.type-conflict-free, Verdict.verdict}
use Rattle.model.proofs.AcceptLaws.{accepted-counts}
use Rattle.judge.specs.Answer.{answer-is}
use Rattle.model.proofs.VerdictLaws.{verdict-says, verdict-is}
use Rattle.judge.specs.{Named.row_of, Reading.Laws.number-of-name}
use Rattle.sheet.specs.{declared.sheet.SheetFault.TheVariants.Repeated}
use Rattle.sheet.specs.{Cues.children, Sheet.kind, Sheet.model, Sheet.sheet_outcome}
use Rattle.sheet.proofs.{SheetGood.line-accepted, RefusalLaws.sheet-is}
use Rattle.lister.specs.{Listing.Said, Listing.word_of, Listing.said_at, Listing.said, Said.CueSaid, Said.lacking}
use Rattle.lister.specs.{Said.by_a_line}

module _ (s : Text) (e : sheet_outcome s ≡ Ok tt) where
  abbrev ls : List Text
  ls = lines s

  -- no two lines have one kind: 25
  kinds-apart : (i j : ℕ) → i < j → j < length (map kind ls) → ¬ get_or (map kind ls) i [] ≡ get_or (map kind ls) j []
  kinds-apart i j h k q =
      let same = sym (get_or-map kind ls i []) ∙ q ∙ get_or-map kind ls j [] in
      (sheet-is s (Ok tt)).0 e Repeated (suc j) ((omega arith, omega (arith, k, length-map ls kind)), (suc i, omega arith, omega arith, same))

  module _ (l : Text) where
    -- what the sheet's line of that kind says
    line-says : (k : ℕ) → k < length ls → kind (get_or ls k []) ≡ field 2 l → (t : Syntax) → Answers (model (get_or ls k [])) (accepted t)
        → said ls l ≡ word_of (verdict (type_of (model_of t)) (row_of (written_names t) (children l)))
    unfolding kinds-apart
    line-says k h q t a =
        let n : number_in (map kind ls) (field 2 l) ≡ suc k =
        ap (number_in (map kind ls)) (sym (get_or-map kind ls k [] ∙ q)) ∙ number-of-name (map kind ls) k (rw length-map h) kinds-apart ∙ add-one k in
        rw (n, ← answer-is (model (get_or ls k [])) (accepted t) a)

    by_number : (m : ℕ) → number_in (map kind ls) (field 2 l) ≡ m → CueSaid ls l (said_at ls m (children l))
    by_number zero q = lacking (λ k o p. from-none 0 (map kind ls) (field 2 l) k q (rw length-map o) (get_or-map kind ls k [] ∙ p))
    by_number (suc k) q =
        let f = from_found 0 (map kind ls) (field 2 l) k q in
        let o : k < length ls = omega (arith, f.1, length-map ls kind) in
        let p : kind (get_or ls k []) ≡ field 2 l = sym (get_or-map kind ls k []) ∙ ap (λ n. get_or (map kind ls) n []) (sym (sub-zero k)) ∙ f.2 in
        let (t, a) = line-accepted s e k o in
        let m = model (get_or ls k []) in
        let A = type_of (model_of t) in
        let w = row_of (written_names t) (children l) in
        rw (← answer-is m (accepted t) a)
        (by_a_line k o p t a (verdict A w) (verdict-says A (type-conflict-free (model_of t) (accepted-counts m t a)) w))

    no_line : (m : ℕ) → number_in (map kind ls) (field 2 l) ≡ m → ((k : ℕ) → k < length ls → ¬ kind (get_or ls k []) ≡ field 2 l)
        → said_at ls m (children l) ≡ None
    no_line zero q n = refl
    no_line (suc k) q n =
        let f = from_found 0 (map kind ls) (field 2 l) k q in
        absurd (n k (omega (arith, f.1, length-map ls kind)) (sym (get_or-map kind ls k []) ∙ ap (λ n. get_or (map kind ls) n []) (sym (sub-zero k)) ∙ f.2))

    said-once : (a : Said) → CueSaid ls l a → said ls l ≡ a
    unfolding line-says no_line
    said-once a (lacking n) = no_line (number_in (map kind ls) (field 2 l)) refl n
    said-once a (by_a_line k o p t h v d) =
        let free = type-conflict-free (model_of t) (accepted-counts (model (get_or ls k [])) t h) in
        line-says k o p t h ∙ ap word_of ((verdict-is (type_of (model_of t)) free (row_of (written_names t) (children l)) v).1 d)

    pub cue-is : (a : Said) → (said ls l ≡ a) ↔ CueSaid ls l a
    unfolding by_number said-once
    cue-is a = (λ q. rw q at (by_number (number_in (map kind ls) (field 2 l)) refl), said-once a)
