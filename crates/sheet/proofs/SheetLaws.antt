-- How the lines of a sheet are read.
use mathlib.Core.{Path.◌≡◌, Path.refl, Path.ap, Path.sym, Path.◌∙◌, Bool.true, Bool.false, Bool.not, Bool.◌||◌, Option.Option, Option.none}
use mathlib.Core.{Option.some, List.List, List.[], List.◌∷◌}
use Rattle.std.specs.Prelude.{Result, Ok, Err, ℕ, zero, suc, ◌+◌, ◌-◌, ◌≤◌, ◌<◌, length, take, drop}
use Rattle.std.proofs.Common.{arith, length-take, length-drop, ltb-true, ltb-false, lt-ltb, eqb-true, eq-eqb, ne_eqb}
use lib.{Dec.ltb, Dec.eqb, Dec.eqb-suc-zero, Seq.take-nil, Seq.drop-nil, Seq.take-take, Seq.drop-drop}
use Rattle.std.proofs.lemmas.Bool.{not-true, not-false}
use Rattle.fields.specs.{Limits.max_file, Tests.by-test, Bytes.Text, Bytes.bytes, Bytes.same_text, Bytes.Laws.same_text-is, declared.split.Heads.Heads}
use Rattle.fields.specs.{Split.Laws.split-count, Heads.heads_of, Children.short_name}
use Rattle.fields.specs.Split.{tab, split, fields, field, part}
use Rattle.fields.specs.Heads.Laws.{fields-few, fields-enough, Three, more-none}
use Rattle.judge.specs.{declared.reading.NamePlace.NamePlace, declared.reading.Names.Names, declared.reading.Reading.Reading}
use Rattle.judge.specs.declared.fault.Misread.{Misread}
use Rattle.judge.specs.Reading.{reading_by, reading, part_at, parts_of}
use Rattle.model.specs.{Syntax.number_from, Syntax.number_in, Fault.Answer, Fault.refused, Fault.accepted}
use Rattle.judge.specs.Answer.{answer}
use Rattle.sheet.specs.{declared.sheet.SheetFault.SheetFault, declared.sheet.LineRead.LineRead}
use Rattle.sheet.specs.{declared.sheet.Entry.Entry}
use Rattle.sheet.specs.declared.sheet.SheetFault.TheVariants.{BadFields, NoKind, Repeated, Model}
use Rattle.sheet.specs.Sheet.{kind, model, among, model_fault, line_fault, kind_place, model_place, entry_of}
use Rattle.sheet.specs.Sheet.Line.{line_checked, line_read}

-- a kind has a number among the earlier ones if it is one of them
among-from : (ks : List Text) (x : Text) (k : ℕ) → eqb (number_from (suc k) ks x) 0 ≡ not (among ks x)
among-from [] x k = refl
among-from (y ∷ ks) x k = by-test (same_text y x) (λ e. rw e (eqb-suc-zero k)) (λ e. rw e (among-from ks x (suc k)))

among_none : (ks : List Text) (x : Text) (n : ℕ) → n ≡ number_in ks x → n ≡ 0 → among ks x ≡ false
among_none ks x n e z = not-true (among ks x) (sym (among-from ks x 0) ∙ eq-eqb (number_in ks x) 0 (sym e ∙ z))

among-some : (ks : List Text) (x : Text) (n : ℕ) → n ≡ number_in ks x → (n ≡ 0 → ⊥) → among ks x ≡ true
among-some ks x n e z = not-false (among ks x) (sym (among-from ks x 0) ∙ ne_eqb (number_in ks x) 0 (λ f. z (e ∙ f)))

-- a line has three fields if its third ends it
module _ (l : Text) (h : Heads) (t : Three l h) where
  three-or-more : 3 ≤ length (fields l)
  three-or-more = ltb-false (length (fields l)) 3 t.enough

  just-three : h.third ≡ length l → eqb (length (fields l)) 3 ≡ true
  just-three e =
      let z : drop 3 (fields l) ≡ [] = t.behind_is ∙ more-none l h.third (omega arith) in
      eq-eqb (length (fields l)) 3 (omega (arith, three-or-more, length-drop 3 (fields l), ap length z))

  over-three : (h.third ≡ length l → ⊥) → eqb (length (fields l)) 3 ≡ false
  over-three n =
      let k : h.third < length l = omega (arith, t.ascending) in
      let e : drop 3 (fields l) ≡ split tab (drop (suc h.third) l) = t.behind_is ∙ rw (lt-ltb h.third (length l) k) in
      ne_eqb (length (fields l)) 3 (λ f. omega (arith, f, length-drop 3 (fields l), ap length e, split-count tab (drop (suc h.third) l)))

under-three : (l : Text) → ltb (length (fields l)) 3 ≡ true → eqb (length (fields l)) 3 ≡ false
under-three l t = ne_eqb (length (fields l)) 3 (λ e. omega (arith, e, ltb-true (length (fields l)) 3 t))

-- a line of three fields, `rule` first
pub record RuleLine (l : Text) (h : Heads) : Type 0 where
  pub three : Three l h
  pub last : h.third ≡ length l
  pub word : same_text (part l 0 h.first) (bytes "rule") ≡ true

-- what is said of a line, test by test
module _ (ks : List Text) where
  pub checked-few : (l : Text) {h : Heads} → h ≡ heads_of l → length l ≤ h.second → Err BadFields ≡ line_checked ks l
  checked-few l {h} e k = rw (under-three l (fields-few l h e k))

  module _ {l : Text} {h : Heads} where
    pub checked-many : Three l h → (h.third ≡ length l → ⊥) → Err BadFields ≡ line_checked ks l
    checked-many t n = rw (over-three l h t n)

    pub checked-word : Three l h → h.third ≡ length l → same_text (part l 0 h.first) (bytes "rule") ≡ false → Err BadFields ≡ line_checked ks l
    checked-word t e w = rw (just-three l h t e, t.first_is, w)

    module _ (r : RuleLine l h) where
      t : Three l h
      t = r.three

      abbrev k : Text
      k = part l (h.first + 1) h.second

      three : eqb (length (fields l)) 3 ≡ true
      three = just-three l h t r.last

      pub checked-name : short_name k ≡ false → Err NoKind ≡ line_checked ks l
      checked-name n = rw (three, t.first_is, r.word, t.second_is, n)

      module _ (n : short_name k ≡ true) {m : ℕ} (e : m ≡ number_in ks k) where
        pub checked-again : (m ≡ 0 → ⊥) → Err Repeated ≡ line_checked ks l
        checked-again z = rw (three, t.first_is, r.word, t.second_is, n, among-some ks k m e z)

        pub checked-good : m ≡ 0 → Ok tt ≡ line_checked ks l
        checked-good z = rw (three, t.first_is, r.word, t.second_is, n, among_none ks k m e z)

abbrev by_checked : Result Unit SheetFault → Option SheetFault → Option SheetFault
by_checked (Ok _) m = m
by_checked (Err f) m = some f

-- what a reading's outcome is to a sheet
abbrev misread_fault : Result Unit Misread → Option SheetFault
misread_fault (Ok _) = none
misread_fault (Err m) = some (Model m.fault)

-- a line is at fault by its check, and behind that by its model
module _ (ks : List Text) (l : Text) where
  fault-by : line_fault ks l ≡ by_checked (line_checked ks l) (model_fault (answer (model l)))
  fault-by =
      by-test (not (eqb (length (fields l)) 3) || not (same_text (field 0 l) (bytes "rule")))
      (λ e. rw e)
      (λ e. by-test (short_name (kind l)) (λ f. by-test (among ks (kind l)) (λ g. rw (e, f, g)) (λ g. rw (e, f, g))) (λ f. rw (e, f)))

  line-bad : (f : SheetFault) → line_checked ks l ≡ Err f → line_fault ks l ≡ some f
  line-bad f e = rw (fault-by, e)

  outcome-fault : (a : Answer) → model_fault a ≡ misread_fault (reading_by (model l) a).outcome
  outcome-fault (refused f p) = refl
  outcome-fault (accepted t) = refl

  module _ (g : line_checked ks l ≡ Ok tt) where
    line-none : (reading (model l)).outcome ≡ Ok tt → line_fault ks l ≡ none
    line-none e = rw (fault-by, g, outcome-fault (answer (model l)), e)

    line-model : (m : Misread) → (reading (model l)).outcome ≡ Err m → line_fault ks l ≡ some (Model m.fault)
    line-model m e = rw (fault-by, g, outcome-fault (answer (model l)), e)

    good-word : (eqb (length (fields l)) 3 ≡ true) × (same_text (field 0 l) (bytes "rule") ≡ true)
    good-word =
        by-test (eqb (length (fields l)) 3)
        (λ e. by-test (same_text (field 0 l) (bytes "rule")) (λ w. (e, w)) (λ w. bad (rw (e, w))))
        (λ e. bad (rw e))
      where
        bad : {C : Type 0} → Err BadFields ≡ line_checked ks l → C
        bad e = cc (e, g)

pub part-size : (x : Text) (at end : ℕ) → end ≤ length x → length (part x at end) ≡ end - at
part-size x at end h = rw (length-take, length-drop) (omega arith)

-- where the fields of a good line stand
module _ (ks : List Text) (l : Text) (h : Heads) (e : h ≡ heads_of l) (g : line_checked ks l ≡ Ok tt) where
  good-three : Three l h
  good-three = fields-enough l h e (omega (arith, eqb-true (length (fields l)) 3 (good-word ks l g).0))

  line-sizes : (h.first ≡ 4) × (h.first < h.second) × (h.second < h.third) × (h.third ≤ length l)
  line-sizes =
      let t = good-three in
      let w : part l 0 h.first ≡ bytes "rule" = sym t.first_is ∙ (same_text-is (field 0 l) (bytes "rule")).0 (good-word ks l g).1 in
      let n : length (part l 0 h.first) ≡ 4 = ap length w in
      (omega (arith, n, part-size l 0 h.first (omega (arith, t.ascending)), t.ascending), t.ascending.0, t.ascending.1, t.ascending.2)

  kind-long : length (kind l) ≡ h.second - (h.first + 1)
  kind-long = ap length good-three.second_is ∙ part-size l (h.first + 1) h.second (omega (arith, good-three.ascending))

  model-long : length (model l) ≡ h.third - (h.second + 1)
  model-long = ap length good-three.third_is ∙ part-size l (h.second + 1) h.third (omega (arith, good-three.ascending))

  line-kind : (at : ℕ)
      → ◌≡◌ {A = NamePlace} (record { start = at + (h.first + 1); len = h.second - (h.first + 1) }) (kind_place (record { start = at; line = l }))
  line-kind at =
      let s = line-sizes in
      let k = kind-long in
      let a : at + (h.first + 1) ≡ at + 5 = omega arith in
      rw (k, a)

  line-entry : (at : ℕ) (m : Reading) (p : NamePlace) → m ≡ reading (part l (h.second + 1) h.third)
      → p ≡ record { start = at + (h.second + 1); len = h.third - (h.second + 1) }
      → ◌≡◌ {A = Entry} (record { model = p; rule = m.rule; names = m.names }) (entry_of (record { start = at; line = l }))
  line-entry at m p r i =
      let t = good-three in
      let s = line-sizes in
      let k = kind-long in
      let j = model-long in
      let a : at + (6 + length (kind l)) ≡ at + (h.second + 1) = omega arith in
      let q : m ≡ reading (model l) = r ∙ ap reading (sym t.third_is) in
      rw (q, i, j, a)

  outcome-is : (m : Reading) → m ≡ reading (part l (h.second + 1) h.third) → (reading (model l)).outcome ≡ m.outcome
  outcome-is m r = ap (λ y. (reading y).outcome) good-three.third_is ∙ sym (ap (λ q. q.outcome) r)

-- and that they fit
pub heads-fit : (x : Text) (kinds : Names) {at end : ℕ} → (at ≤ end) × (end ≤ length x) × (length x ≤ max_file)
    → {h : Heads} → h ≡ heads_of (part x at end) → line_checked (parts_of x kinds) (part x at end) ≡ Ok tt
    → (h.first + 1 ≤ h.second) × (h.second + 1 ≤ h.third) × (h.third ≤ length (part x at end)) × (at + h.third ≤ max_file)
heads-fit x kinds {at} {end} p {h} e g =
    let s = line-sizes (parts_of x kinds) (part x at end) h e g in
    let n = part-size x at end p.1 in
    (omega (arith, s.1), omega (arith, s.2), s.3, omega (arith, n, s.3, p))

-- what a line is read into: its check is bad, its model is bad, or it is good
module _ (x : Text) (kinds : Names) (at end : ℕ) where
  pub check-refused : {f : SheetFault} → line_checked (parts_of x kinds) (part x at end) ≡ Err f → Err f ≡ line_read x kinds at end
  check-refused {f} e = rw (line-bad (parts_of x kinds) (part x at end) f e)

  module _ {h : Heads} (i : h ≡ heads_of (part x at end)) (g : line_checked (parts_of x kinds) (part x at end) ≡ Ok tt)
      {m : Reading} (e : m ≡ reading (part (part x at end) (h.second + 1) h.third)) where
    pub refused_model : {r : Misread} → m.outcome ≡ Err r → Err (Model r.fault) ≡ line_read x kinds at end
    refused_model {r} o =
        let ks = parts_of x kinds in
        let l = part x at end in
        rw (line-model ks l g r (outcome-is ks l h i g m e ∙ o))

    pub model-read : {k p : NamePlace} → k ≡ record { start = at + (h.first + 1); len = h.second - (h.first + 1) }
        → p ≡ record { start = at + (h.second + 1); len = h.third - (h.second + 1) } → m.outcome ≡ Ok tt
        → ◌≡◌ {A = Result LineRead SheetFault} (Ok (record { kind = k; entry = record { model = p; rule = m.rule; names = m.names } }))
        (line_read x kinds at end)
    model-read {k} {p} a b o =
        let ks = parts_of x kinds in
        let l = part x at end in
        rw (line-none ks l g (outcome-is ks l h i g m e ∙ o), a ∙ line-kind ks l h i g at, line-entry ks l h i g at m p e b)

-- a line in which nothing is wrong passed its check
pub checked-line : (ks : List Text) (l : Text) → line_fault ks l ≡ none → line_checked ks l ≡ Ok tt
checked-line ks l e = go (line_checked ks l) refl
  where
    go : (c : Result Unit SheetFault) → line_checked ks l ≡ c → c ≡ Ok tt
    go (Ok _) q = refl
    go (Err f) q = let z = sym (line-bad ks l f q) ∙ e in cc z

drop-taken : (a m : ℕ) (y : Text) → drop a (take m y) ≡ take (m - a) (drop a y)
drop-taken zero m y = let e : m ≡ m - 0 = omega arith in ap (λ k. take k y) e
drop-taken (suc a) zero y = let e : 0 - suc a ≡ 0 = omega arith in rw (e, drop-nil {A = ℕ} (suc a))
drop-taken (suc a) (suc m) [] = rw (take-nil (suc m - suc a))
drop-taken (suc a) (suc m) (b ∷ y) = let e : suc m - suc a ≡ m - a = omega arith in rw e (drop-taken a m y)

-- a part of a part
part-part : (x : Text) (at end a b : ℕ) → b ≤ end - at → part (part x at end) a b ≡ take (b - a) (drop (at + a) x)
part-part x at end a b h =
    ap (take (b - a)) (drop-taken a (end - at) (drop at x))
    ∙ take-take (b - a) ((end - at) - a) (drop a (drop at x)) (omega arith)
    ∙ ap (take (b - a)) (drop-drop a at x)

-- the kind stands at its place
pub line-kind-is : (x : Text) (at end : ℕ) → at ≤ end → end ≤ length x → (ks : List Text) → line_fault ks (part x at end) ≡ none
    → part_at x (kind_place (record { start = at; line = part x at end })) ≡ kind (part x at end)
line-kind-is x at end o h ks e =
    let l = part x at end in
    let g = checked-line ks l e in
    let s = line-sizes ks l (heads_of l) refl g in
    let t = good-three ks l (heads_of l) refl g in
    let z = part-size x at end h in
    let k = kind-long ks l (heads_of l) refl g in
    let a : at + 5 ≡ at + ((heads_of l).first + 1) = omega arith in
    rw (k, a) (sym (t.second_is ∙ part-part x at end ((heads_of l).first + 1) (heads_of l).second (omega arith)))

-- the model stands at its place
pub line-model-is : (x : Text) (at end : ℕ) → at ≤ end → end ≤ length x → (ks : List Text) → line_fault ks (part x at end) ≡ none
    → (part_at x (model_place (record { start = at; line = part x at end })) ≡ model (part x at end))
    × ((model_place (record { start = at; line = part x at end })).start + (model_place (record { start = at; line = part x at end })).len ≤ length x)
line-model-is x at end o h ks e =
    let l = part x at end in
    let g = checked-line ks l e in
    let s = line-sizes ks l (heads_of l) refl g in
    let t = good-three ks l (heads_of l) refl g in
    let z = part-size x at end h in
    let k = kind-long ks l (heads_of l) refl g in
    let j = model-long ks l (heads_of l) refl g in
    let a : at + (6 + length (kind l)) ≡ at + ((heads_of l).second + 1) = omega arith in
    (rw (j, a) (sym (t.third_is ∙ part-part x at end ((heads_of l).second + 1) (heads_of l).third (omega arith))), omega arith)

-- a line in which nothing is wrong has a model in which nothing is wrong
pub fault-none : (ks : List Text) (l : Text) → line_fault ks l ≡ none → model_fault (answer (model l)) ≡ none
fault-none ks l e = go (line_checked ks l) (sym (fault-by ks l) ∙ e)
  where
    go : (c : Result Unit SheetFault) → by_checked c (model_fault (answer (model l))) ≡ none → model_fault (answer (model l)) ≡ none
    go (Ok _) q = q
    go (Err f) q = cc q
