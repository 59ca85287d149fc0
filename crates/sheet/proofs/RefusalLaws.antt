-- A sheet and a cue list are refused exactly as the table says.
use mathlib.Core.{Logic.◌↔◌, Logic.◌⊎◌, Logic.inl, Logic.inr, Logic.by_cases, Option.Option}
use Rattle.std.specs.Prelude.{Result, Ok, Err}
use Rattle.std.specs.Prelude.{◌≡◌, refl, true, cond, not, ◌&&◌, ◌||◌, List, [], ◌∷◌, ◌++◌, map, ℕ, zero, suc, ◌+◌, ◌-◌, ◌≤◌, ◌<◌, leb, eqb, length}
use Rattle.std.specs.Prelude.{take, drop, get_or}
use Rattle.std.proofs.Common.{sym, ap, ap₂, subst, ◌∙◌, take-suc, drop-cons, length-take-le, get_or-take, leb-true, le-leb, eqb-true, eq-eqb}
use Rattle.std.proofs.Math.Bool.{and-eq-true_iff}
use Rattle.std.proofs.lemmas.Bool.{false≢true, eqb-false, not-true, not-false}
use Rattle.std.proofs.lemmas.List.{map-append, length-map}
use Prim.Native.Char.{code}
use native.Mathlib.{Decide.dec_lt, Omega.arith}
use Rattle.std.proofs.Math.ListN.{get_or-map}
use Rattle.std.proofs.Math.Seq.{drop-length}
use Rattle.fields.specs.{declared.fault.CueFault.CueFault, Bytes.Laws.same_text-is, Limits.max_row, Split.lines, Split.fields, Split.field, Children.cue_number}
use Rattle.fields.specs.{Children.short_name, Children.all_names}
use Rattle.fields.specs.declared.fault.CueFault.TheVariants.{LongFile as LongList, Unended as UnendedList, BadFields as BadCue, BadNumber, NotAbove, NoName}
use Rattle.fields.specs.declared.fault.CueFault.TheVariants.{ManyChildren, NoChild}
use Rattle.fields.specs.Tests.{Tells, tells-not, tells-or}
use Rattle.fields.specs.Bytes.{Text, bytes, is_digit, all, value, same_text}
use Rattle.fields.specs.Least.Laws.{exactly, first_alone, first-once, Cleared, try}
use Rattle.model.specs.{declared.fault.ModelFault.ModelFault, Accept.Length.value_grows}
use Rattle.judge.specs.Answer.{answer, answered}
use Rattle.model.specs.{Fault.Answer, Fault.Answers, Fault.refused, Fault.accepted}
use Rattle.model.proofs.FaultAnswered.{answers-once}
use Rattle.judge.specs.Reply.Laws.{cue-injective}
use Rattle.fields.specs.declared.fault.AtLine.{AtLine}
use Rattle.sheet.specs.{declared.sheet.SheetFault.SheetFault, AtLine.at_line}
use Rattle.sheet.specs.declared.sheet.SheetFault.TheVariants.{LongFile, Unended, ManyRules, BadFields, NoKind, Repeated, Model}
use Rattle.sheet.specs.Cues.{is_cue_number, children, by_line, cue_lines, cues_read}
use Rattle.sheet.specs.Sheet.{max_rules, kind, model, among, model_fault, by_fault, sheet_lines, sheet_outcome}
use Rattle.sheet.specs.Refusal.{Line, line, Earlier, SheetStands, sheet_rank, SheetAnswers, number_of, CueStands, CuesAnswers}
use Rattle.sheet.specs.Refusal.Order.{tells-no, tells-lt, tells-other, beside, long-tells, feed-tells, Place, FileTable, next-line, walk, whole}

here : (x : Text) (n : ℕ) → n < length (lines x) → Line x (suc n)
here x n h = (omega arith, omega arith)

-- k is one of the texts
abbrev Has : Text → List Text → Type 0
Has k ks = (j : ℕ) × (j < length ks) × (get_or ks j [] ≡ k)

tells-among : (ks : List Text) (k : Text) → Tells (among ks k) (Has k ks)
tells-among [] k = (λ e. absurd (false≢true e), λ h. absurd (omega arith))
tells-among (y ∷ ks) k =
    let t = tells-or (same_text y k) (among ks k) (same_text-is y k) (tells-among ks k) in
    (λ e. there (t.0 e), λ h. t.1 (back h))
  where
    there : (y ≡ k) ⊎ Has k ks → Has k (y ∷ ks)
    there (inl e) = (0, omega arith, e)
    there (inr (j, h, e)) = (suc j, omega arith, e)

    back : Has k (y ∷ ks) → (y ≡ k) ⊎ Has k ks
    back (zero, h, e) = inl e
    back (suc j, h, e) = inr (j, omega arith, e)

-- a fault of the sheet's own, which has a rank below 26, is known by its rank
own_fault : ℕ → SheetFault
own_fault n = cond (eqb n 20) LongFile (cond (eqb n 21) Unended (cond (eqb n 22) ManyRules (cond (eqb n 23) BadFields (cond (eqb n 24) NoKind Repeated))))

own-fault : (f : SheetFault) → sheet_rank f < 26 → own_fault (sheet_rank f) ≡ f
unfolding own_fault
own-fault LongFile h = refl
own-fault Unended h = refl
own-fault ManyRules h = refl
own-fault BadFields h = refl
own-fault NoKind h = refl
own-fault Repeated h = refl
own-fault (Model f) h = absurd (omega arith)

own : (f : SheetFault) → sheet_rank f < 26 → (g : SheetFault) → sheet_rank f ≡ sheet_rank g → f ≡ g
own f h g e = sym (own-fault f h) ∙ ap own_fault e ∙ own-fault g (omega arith)

of-model : (f : SheetFault) → 26 ≤ sheet_rank f → (g : ModelFault) × (f ≡ Model g)
of-model LongFile h = absurd (omega arith)
of-model Unended h = absurd (omega arith)
of-model ManyRules h = absurd (omega arith)
of-model BadFields h = absurd (omega arith)
of-model NoKind h = absurd (omega arith)
of-model Repeated h = absurd (omega arith)
of-model (Model f) h = (f, refl)

-- no two that stand at one line have one rank, since a text has one answer
module _ (x : Text) (n : ℕ) where
  model-fault : (g : SheetFault) → SheetStands x g n → 26 ≤ sheet_rank g
      → (f : ModelFault) × (p : ℕ) × (g ≡ Model f) × Answers (model (line x n)) (refused f p)
  model-fault g s k =
      let (f, e) = of-model g k in
      let (i, (p, a)) = subst (λ g. SheetStands x g n) e s in
      (f, p, e, a)

  one-model : (f g : SheetFault) → SheetStands x f n → SheetStands x g n → 26 ≤ sheet_rank f → 26 ≤ sheet_rank g → f ≡ g
  one-model f g s t h k =
      let (a, p, d, u) = model-fault f s h in
      let (b, q, e, v) = model-fault g t k in
      let z : a ≡ b = cc (answers-once (model (line x n)) (refused a p) (refused b q) u v) in
      d ∙ ap Model z ∙ sym e

  one_rank : (f g : SheetFault) → SheetStands x f n → SheetStands x g n → sheet_rank f ≡ sheet_rank g → f ≡ g
  one_rank f g s t e = by_cases (dec_lt (sheet_rank f) 26) (λ h. own f h g e) (λ h. one-model f g s t (omega arith) (omega arith))

sheet-place : (x : Text) (f : SheetFault) (n : ℕ) → SheetStands x f n → Place x 20 n (sheet_rank f)
sheet-place x LongFile n h = inl (h.0, omega arith, omega arith)
sheet-place x Unended n h = inl (h.0, omega arith, omega arith)
sheet-place x ManyRules n h = inr (h.0, omega arith)
sheet-place x BadFields n h = inr (h.0, omega arith)
sheet-place x NoKind n h = inr (h.0, omega arith)
sheet-place x Repeated n h = inr (h.0, omega arith)
sheet-place x (Model f) n h = inr (h.0, omega arith)

abbrev of_sheet : (x : Text) → FileTable x SheetFault
of_sheet x = record { faults = record { rank = sheet_rank; Stands = SheetStands x }; base = 20; place = sheet-place x }

module _ (x : Text) where
  abbrev kinds : ℕ → List Text
  kinds n = map kind (take n (lines x))

  module _ (n : ℕ) (h : n < length (lines x)) where
    abbrev this : Text
    this = line x (suc n)

    many-tells : Cleared (of_sheet x).faults (suc n) 22 → Tells (leb max_rules n) (SheetStands x ManyRules (suc n))
    many-tells t = (λ e. (here x n h, go (leb-true max_rules n e) (dec_lt max_rules n)), λ k. le-leb max_rules n (omega (arith, k.1)))
      where
        late : max_rules < n → ¬ ((suc n < 65) ⊎ ((suc n ≡ 65) × (22 ≤ 22)))
        late d (inl a) = omega arith
        late d (inr a) = omega arith

        go : max_rules ≤ n → Dec (max_rules < n) → suc n ≡ max_rules + 1
        go i (yes d) = absurd (late d (t ManyRules 65 ((omega arith, omega arith), refl)))
        go i (no d) = omega arith

    rule-tells : Tells (not (eqb (length (fields this)) 3) || not (same_text (field 0 this) (bytes "rule"))) (SheetStands x BadFields (suc n))
    rule-tells =
        let three = tells-no (eqb (length (fields this)) 3) (eqb-true (length (fields this)) 3, eq-eqb (length (fields this)) 3) in
        beside _ (here x n h) (tells-or _ _ three (tells-other (field 0 this) (bytes "rule")))

    kinds-tell : Tells (among (kinds n) (kind this)) (Earlier x (suc n))
    kinds-tell = let t = tells-among (kinds n) (kind this) in (λ e. there (t.0 e), λ k. t.1 (back k))
      where
        is : (j : ℕ) → j < n → get_or (kinds n) j [] ≡ kind (get_or (lines x) j [])
        is j i = get_or-map kind (take n (lines x)) j [] ∙ ap kind (get_or-take n (lines x) j [] i)

        size : length (kinds n) ≡ n
        size = length-map (take n (lines x)) kind ∙ length-take-le n (lines x) (omega arith)

        there : Has (kind this) (kinds n) → Earlier x (suc n)
        there (j, i, e) = let o : j < n = omega (arith, size) in (suc j, omega arith, omega arith, sym (is j o) ∙ e)

        back : Earlier x (suc n) → Has (kind this) (kinds n)
        back (zero, i, o, e) = absurd (omega arith)
        back (suc j, i, o, e) = (j, omega (arith, size), is j (omega arith) ∙ e)

    model-answers : (o : Result Unit (AtLine SheetFault))
        → (Cleared (of_sheet x).faults (suc (suc n)) 22 → SheetAnswers x o) → Cleared (of_sheet x).faults (suc n) 26
        → (a : Answer) → Answers (model this) a → SheetAnswers x (by_fault (model_fault a) o (λ f. Err (at_line f (suc n))))
    model-answers o next t (refused f p) a = ((here x n h, (p, a)), t)
    model-answers o next t (accepted u) a = next (next-line (of_sheet x) (suc n) 26 no_more t)
      where
        no_more : (g : SheetFault) → SheetStands x g (suc n) → ¬ (26 ≤ sheet_rank g)
        no_more g s k =
            let (i, q, e, b) = model-fault x (suc n) g s k in
            let z : ◌≡◌ {A = ℕ} 0 1 = cc (answers-once (model this) (accepted u) (refused i q) a b) in
            omega arith

  -- what is said behind n lines
  abbrev sheet_from : ℕ → Result Unit (AtLine SheetFault)
  sheet_from n = sheet_lines n (kinds n) (drop n (lines x))

  sheet-step : (n : ℕ) → n < length (lines x) → (Cleared (of_sheet x).faults (suc (suc n)) 22 → SheetAnswers x (sheet_from (suc n)))
      → Cleared (of_sheet x).faults (suc n) 22 → SheetAnswers x (sheet_from n)
  sheet-step n h next t =
      let T = (of_sheet x).faults in
      let l = line x (suc n) in
      let o = sheet_lines (suc n) (kinds n ++ (kind l ∷ [])) (drop (suc n) (lines x)) in
      let P : Option SheetFault → Type 0 = λ m. SheetAnswers x (by_fault m o (λ f. Err (at_line f (suc n)))) in
      let more : kinds (suc n) ≡ kinds n ++ (kind l ∷ []) = ap (map kind) (take-suc (lines x) n [] h) ∙ map-append kind (take n (lines x)) (l ∷ []) in
      rw (drop-cons (lines x) n [] h) (
      try T (SheetAnswers x) ManyRules (suc n) (leb max_rules n) _ _ (own ManyRules (omega arith)) (many-tells n h t) (λ k. k)
      (λ _. try T P BadFields (suc n) _ _ _ (own BadFields (omega arith)) (rule-tells n h) (λ k. k)
      (λ _. try T P NoKind (suc n) _ _ _ (own NoKind (omega arith)) (beside _ (here x n h) (tells-not (short_name (kind l)))) (λ k. k)
      (λ _. try T P Repeated (suc n) _ _ _ (own Repeated (omega arith)) (beside _ (here x n h) (kinds-tell n h)) (λ k. k)
      (λ _ k. model-answers n h o (rw more at next) k (answer (model l)) (answered (model l)))))) t)

  sheet-answers : SheetAnswers x (sheet_outcome x)
  sheet-answers =
      whole (of_sheet x) (SheetAnswers x) LongFile Unended _ _ _ (own LongFile (omega arith)) (own Unended (omega arith)) refl refl
      (long-tells x) (feed-tells x) (λ k. k) (λ k. k)
      (walk (of_sheet x) (SheetAnswers x) sheet_from sheet-step (λ k. rw (drop-length (lines x)) k))

  sheet-once : (a b : Result Unit (AtLine SheetFault)) → SheetAnswers x a → SheetAnswers x b → a ≡ b
  sheet-once (Ok _) (Ok _) h k = refl
  sheet-once (Ok _) (Err e) h k = absurd (h e.fault e.line k.0)
  sheet-once (Err e) (Ok _) h k = absurd (k e.fault e.line h.0)
  sheet-once (Err d) (Err e) h k =
      let (f, n) = first_alone sheet_rank (λ f g n. one_rank x n f g) d.fault e.fault d.line e.line h k in ap₂ (λ f n. Err (at_line f n)) f n

  pub sheet-is : (o : Result Unit (AtLine SheetFault)) → (sheet_outcome x ≡ o) ↔ SheetAnswers x o
  sheet-is = exactly (SheetAnswers x) sheet-once (sheet_outcome x) sheet-answers

-- where a fault of a cue list stands, and none is 37
cue-known : (x : Text) (f : CueFault) (n : ℕ) → CueStands x f n → Place x 30 n (cue_number f) × (cue_number f < 37)
cue-known x LongList n h = (inl (h.0, omega arith, omega arith), omega arith)
cue-known x UnendedList n h = (inl (h.0, omega arith, omega arith), omega arith)
cue-known x BadCue n h = (inr (h.0, omega arith), omega arith)
cue-known x BadNumber n h = (inr (h.0, omega arith), omega arith)
cue-known x NotAbove n h = (inr (h.0, omega arith), omega arith)
cue-known x NoName n h = (inr (h.0, omega arith), omega arith)
cue-known x ManyChildren n h = (inr (h.0, omega arith), omega arith)
cue-known x NoChild n h = absurd h

abbrev of_cues : (x : Text) → FileTable x CueFault
of_cues x = record { faults = record { rank = cue_number; Stands = CueStands x }; base = 30; place = λ f n h. (cue-known x f n h).0 }

number-positive : (y : Text) → is_cue_number y ≡ true → 1 ≤ value y
number-positive [] e = absurd (false≢true e)
number-positive (b ∷ y) e =
    let first = not (eqb b (code "0")) in
    let h = (and-eq-true_iff (leb 1 (length (b ∷ y))) (leb (length (b ∷ y)) 5 && (first && all is_digit (b ∷ y)))).0 e in
    let i = (and-eq-true_iff (leb (length (b ∷ y)) 5) (first && all is_digit (b ∷ y))).0 h.1 in
    let j = (and-eq-true_iff first (all is_digit (b ∷ y))).0 i.1 in
    let d = (and-eq-true_iff (is_digit b) (all is_digit y)).0 j.1 in
    let k = leb-true (code "0") b ((and-eq-true_iff (leb (code "0") b) (leb b (code "9"))).0 d.0).0 in
    let v : 0 + (b - code "0") ≤ value (b ∷ y) = value_grows (0 + (b - code "0")) y in
    omega (arith, k, eqb-false b (code "0") (not-true (eqb b (code "0")) j.0), v)

module _ (x : Text) where
  above-tells : (n : ℕ) (l : Text) → 1 ≤ number_of l
      → Tells (leb (number_of l) (number_of (line x n))) ((1 < suc n) × (number_of l ≤ number_of (line x (suc n - 1))))
  above-tells zero l p = (λ e. absurd (omega (arith, leb-true (number_of l) 0 e)), λ k. absurd (omega arith))
  above-tells (suc n) l p =
      let e : suc (suc n) - 1 ≡ suc n = omega arith in
      rw e (λ t. (omega arith, leb-true _ _ t), λ k. le-leb _ _ k.1)

  -- what is said behind n lines
  abbrev cues_from : ℕ → Result ℕ (AtLine CueFault)
  cues_from n = cue_lines n (number_of (line x n)) (drop n (lines x))

  cues-step : (n : ℕ) → n < length (lines x) → (Cleared (of_cues x).faults (suc (suc n)) 32 → CuesAnswers x (cues_from (suc n)))
      → Cleared (of_cues x).faults (suc n) 32 → CuesAnswers x (cues_from n)
  cues-step n h next t =
      let T = (of_cues x).faults in
      let l = line x (suc n) in
      let at = here x n h in
      let word = tells-or _ _ (tells-lt (length (fields l)) 3) (tells-other (field 0 l) (bytes "cue")) in
      let P : Result ℕ CueFault → Type 0 = λ c. CuesAnswers x (by_line c (λ q. cue_lines (suc n) q (drop (suc n) (lines x))) (λ f. Err (at_line f (suc n)))) in
      rw (drop-cons (lines x) n [] h) (
      try T P BadCue (suc n) _ _ _ (cue-injective BadCue) (beside _ at word) (λ k. k)
      (λ _. try T P BadNumber (suc n) _ _ _ (cue-injective BadNumber) (beside _ at (tells-not (is_cue_number (field 1 l)))) (λ k. k)
      (λ e. try T P NotAbove (suc n) _ _ _ (cue-injective NotAbove) (beside _ at (above-tells n l (number-positive (field 1 l) (not-false _ e)))) (λ k. k)
      (λ _. try T P NoName (suc n) _ _ _ (cue-injective NoName) (beside _ at (tells-not (all_names (field 2 l ∷ children l)))) (λ k. k)
      (λ _. try T P ManyChildren (suc n) _ _ _ (cue-injective ManyChildren) (beside _ at (tells-lt max_row (length (children l)))) (λ k. k)
      (λ _ k. next (next-line (of_cues x) (suc n) 37 (λ g s i. omega (arith, i, (cue-known x g (suc n) s).1)) k)))))) t)

  cues-answers : CuesAnswers x (cues_read x)
  cues-answers =
      whole (of_cues x) (CuesAnswers x) LongList UnendedList _ _ _ (cue-injective LongList) (cue-injective UnendedList) refl refl
      (long-tells x) (feed-tells x) (λ k. k) (λ k. k)
      (walk (of_cues x) (CuesAnswers x) cues_from cues-step (λ k. rw (drop-length (lines x)) (k, refl)))

  cues-once : (a b : Result ℕ (AtLine CueFault)) → CuesAnswers x a → CuesAnswers x b → a ≡ b
  cues-once (Ok n) (Ok m) h k = ap Ok (h.1 ∙ sym k.1)
  cues-once (Ok n) (Err e) h k = absurd (h.0 e.fault e.line k.0)
  cues-once (Err e) (Ok m) h k = absurd (k.0 e.fault e.line h.0)
  cues-once (Err d) (Err e) h k =
      let (f, n) = first-once cue_number cue-injective d.fault e.fault d.line e.line h k in ap₂ (λ f n. Err (at_line f n)) f n

  pub cues-is : (r : Result ℕ (AtLine CueFault)) → (cues_read x ≡ r) ↔ CuesAnswers x r
  cues-is = exactly (CuesAnswers x) cues-once (cues_read x) cues-answers
