-- A walk over the lines of a sheet: what is read so far.
use mathlib.Core.{Path.◌≡◌, Path.refl, Path.ap, Path.ap₂, Path.sym, Path.◌∙◌, Logic.by_cases, Option.Option, Option.none, Option.some}
use Rattle.std.specs.Prelude.{Ok, Err}
use mathlib.Core.List.{List, [], ◌∷◌, ◌++◌, map, map-append, head-eq_of_cons-eq, tail-eq_of_cons-eq}
use Prim.Native.Nat.{ℕ, suc, ◌+◌, ◌-◌, ◌≤◌, ◌<◌}
use native.Mathlib.{Decide.dec_lt, Omega.arith, Numerals.add-one}
use Rattle.std.proofs.Math.ListN.{length, take, set, replicate, length-append, length-map}
use Rattle.std.specs.Prelude.{drop, get_or}
use Rattle.std.proofs.lemmas.List.{length-replicate}
use Rattle.std.proofs.Common.{take-suc, drop-cons, length-drop, get_or-set_other}
use Rattle.std.proofs.Math.Seq.{take_all, take_at, drop-length, get_or-set_same}
use borrow.Author.Tests.{le-leb, lt-leb}
use Rattle.judge.specs.declared.reading.Names.{Names}
use Rattle.judge.specs.Reading.{no_place, names_with, part_at, parts_of}
use Rattle.judge.specs.Reading.Filled.{filled, fill-length, fill-turn, names-filled}
use Rattle.fields.specs.Bytes.{Text}
use Rattle.fields.specs.Split.{line_feed, lines, behind, part, part_end}
use Rattle.fields.specs.Split.Laws.{Stand, Next, stand-start, stand-stop, stand-next, end-bounds}
use Rattle.sheet.specs.{declared.sheet.SheetFault.SheetFault, declared.sheet.SheetFault.TheVariants.ManyRules, declared.sheet.LineRead.LineRead}
use Rattle.sheet.specs.{declared.sheet.Entry.Entry, declared.sheet.Sheet.Sheet, declared.sheet.SheetRead.SheetRead}
use Rattle.fields.specs.declared.fault.AtLine.{AtLine}
use Rattle.sheet.specs.AtLine.{at_line, numbered}
use Rattle.sheet.proofs.Left.{left_at}
use Rattle.sheet.proofs.Numbered.{numbered-ok, numbered-err}
use Rattle.sheet.specs.Sheet.{max_rules, kind, line_fault, sheet_lines, Placed, placed_from, kind_place, entry_of, no_entry, sheet_with, sheet_by}
use Rattle.sheet.proofs.SheetLaws.{line-kind-is, line-model-is, part-size}
use Rattle.sheet.specs.Sheet.Line.{unless, placed_read, line_read, EntryGood, Loaded}

-- what the loop holds before line n, which begins at `at`
pub record Gone (x : Text) (kinds : Names) (entries : List Entry) (n at : ℕ) : Type 0 where
  pub stand : Stand x n at
  pub few : n ≤ max_rules
  pub below : n ≤ at
  pub places_are : kinds.places ≡ filled kind_place no_place (placed_from 0 (lines x)) 64 n
  pub count_is : kinds.len ≡ n
  pub entries_are : entries ≡ filled entry_of no_entry (placed_from 0 (lines x)) 64 n
  pub ahead : drop n (placed_from 0 (lines x)) ≡ placed_from at (drop n (lines x))
  pub kinds_are : map (part_at x) (map kind_place (take n (placed_from 0 (lines x)))) ≡ map kind (take n (lines x))
  pub entries_good : (k : ℕ) (d : Entry) → k < n → EntryGood x (get_or entries k d) (get_or (lines x) k [])
  pub answer : sheet_lines 0 [] (lines x) ≡ sheet_lines n (map kind (take n (lines x))) (drop n (lines x))

-- stands for a line behind the last
abbrev pub nowhere : Placed
nowhere = record { start = 0; line = [] }

pub placed-length : (p : ℕ) (ls : List Text) → length (placed_from p ls) ≡ length ls
placed-length p [] = refl
placed-length p (l ∷ ls) = ap suc (placed-length (p + suc (length l)) ls)

pub gone-start : {x : Text} {s : Sheet} → s ≡ sheet_with [] → behind x ≡ [] → Gone x s.kinds s.entries 0 0
gone-start {x} e b =
    record {
      stand = stand-start x b;
      few = omega arith;
      below = omega arith;
      places_are = ap (λ r. r.kinds.places) e;
      count_is = ap (λ r. r.kinds.len) e;
      entries_are = ap (λ r. r.entries) e;
      ahead = refl;
      kinds_are = refl;
      entries_good = λ k d h. absurd (omega arith);
      answer = refl;
    }

-- what a line is read into tells what is wrong with it
unless-ok : {A : Type 0} (f : Option SheetFault) (a : A) {b : A} → Ok b ≡ unless f a → (f ≡ none) × (b ≡ a)
unless-ok none a e = (refl, cc e)
unless-ok (some f) a e = cc e

unless-err : {A : Type 0} (f : Option SheetFault) (a : A) {g : SheetFault} → Err g ≡ unless f a → f ≡ some g
unless-err none a e = cc e
unless-err (some f) a {g} e = let z : g ≡ f = cc e in ap some (sym z)

-- the entry of a good line
entry-good : (x : Text) (at end : ℕ) → at ≤ end → end ≤ length x → (ks : List Text) → line_fault ks (part x at end) ≡ none
    → EntryGood x (entry_of (record { start = at; line = part x at end })) (part x at end)
entry-good x at end o h ks e = let m = line-model-is x at end o h ks e in record { inside = m.1; model_is = m.0 }

module _ {x : Text} {kinds : Names} {entries : List Entry} {n at : ℕ} (w : Gone x kinds entries n at) where
  ps : List Placed
  ps = placed_from 0 (lines x)

  parts_are : parts_of x kinds ≡ map kind (take n (lines x))
  unfolding ps
  parts_are =
      let k : n ≤ length ps = omega (arith, placed-length 0 (lines x), w.stand.count) in
      let t : take kinds.len kinds.places ≡ map kind_place (take n ps) =
      ap₂ take w.count_is w.places_are ∙ take_at (map kind_place (take n ps)) (replicate (64 - n) no_place) n (fill-length kind_place no_place ps n k) in
      ap (map (part_at x)) t ∙ w.kinds_are

  -- the next line is the part up to the next line feed
  pub gone-line : {left ks : List Text} {l : Text} → left ≡ drop n (lines x) → left ≡ l ∷ ks
      → (at < length x) × (at + length l ≡ part_end x line_feed at) × (ks ≡ drop (n + 1) (lines x))
  gone-line {left} {ks} {l} e d =
      let (k, q, r) = left_at (lines x) n (sym e ∙ d) in
      by_cases (dec_lt at (length x))
      (λ h.
      let v = stand-next x n at w.stand (part_end x line_feed at) h refl in
      let b = end-bounds x line_feed at (part_end x line_feed at) (omega arith) refl in
      (h, omega (arith, b, part-size x at (part_end x line_feed at) b.1, ap length (sym v.line_is ∙ q)), sym r))
      (λ h. absurd (omega (arith, k, stand-stop x n at w.stand (omega arith))))

  pub gone-stop : {left : List Text} → left ≡ drop n (lines x) → left ≡ [] → length x ≤ at
  gone-stop e d =
      by_cases (dec_lt at (length x))
      (λ h. let v = stand-next x n at w.stand (part_end x line_feed at) h refl in
      absurd (omega (arith, v.counted, length-drop n (lines x), ap length (sym e ∙ d))))
      (λ h. omega arith)

  -- a 65th line
  pub gone-many : n ≡ 64 → at < length x → sheet_by [] (Err (at_line ManyRules (n + 1))) ≡ sheet_by x (sheet_lines 0 [] (lines x))
  gone-many e h =
      let v = stand-next x n at w.stand (part_end x line_feed at) h refl in
      let a : sheet_lines 0 [] (lines x) ≡ Err (at_line ManyRules (n + 1)) =
      w.answer ∙ rw (drop-cons (lines x) n [] v.counted, le-leb max_rules n (omega arith), add-one) in
      ap (sheet_by x) (sym a)

  module _ (o : n < 64) (h : at < length x) {end : ℕ} (e : end ≡ part_end x line_feed at) where
    v : Next x n at end
    v = stand-next x n at w.stand end h e

    read_is : line_read x kinds at end
        ≡ unless (line_fault (map kind (take n (lines x))) (part x at end)) (placed_read (record { start = at; line = part x at end }))
    read_is = ap (λ ks. unless (line_fault ks (part x at end)) (placed_read (record { start = at; line = part x at end }))) parts_are

    pub gone-bad : {f : AtLine SheetFault} → numbered (n + 1) (line_read x kinds at end) ≡ Err f → sheet_by [] (Err f) ≡ sheet_by x (sheet_lines 0 [] (lines x))
    gone-bad {f} b =
        let (q, m) = numbered-err (n + 1) (line_read x kinds at end) b in
        let z = unless-err (line_fault (map kind (take n (lines x))) (part x at end)) _ (sym q ∙ read_is) in
        let k : sheet_lines 0 [] (lines x) ≡ Err (at_line f.fault (n + 1)) =
        w.answer ∙ rw (drop-cons (lines x) n [] v.counted, lt-leb max_rules n o, v.line_is, z, add-one) in
        let a : sheet_lines 0 [] (lines x) ≡ Err f = k ∙ ap (λ j. Err (at_line f.fault j)) m in
        ap (sheet_by x) (sym a)

    module _ {r : LineRead} (g : numbered (n + 1) (line_read x kinds at end) ≡ Ok r) where
      good : (line_fault (map kind (take n (lines x))) (part x at end) ≡ none) × (r ≡ placed_read (record { start = at; line = part x at end }))
      good = unless-ok (line_fault (map kind (take n (lines x))) (part x at end)) _ (sym (numbered-ok (n + 1) (line_read x kinds at end) g) ∙ read_is)

      here : drop n ps ≡ record { start = at; line = part x at end } ∷ placed_from (end + 1) (drop (suc n) (lines x))
      unfolding ps
      here =
          let b = end-bounds x line_feed at end (omega arith) e in
          let s : at + suc (length (part x at end)) ≡ end + 1 = omega (arith, part-size x at end b.1) in
          w.ahead ∙ ap (placed_from at) (drop-cons (lines x) n [] v.counted) ∙ rw (v.line_is, s)

      inside : n < length ps
      unfolding ps
      inside = omega (arith, placed-length 0 (lines x), v.counted)

      at_n : get_or ps n nowhere ≡ record { start = at; line = part x at end }
      at_n = head-eq_of_cons-eq (sym (drop-cons ps n nowhere inside) ∙ here)

      one_more : take (n + 1) ps ≡ take n ps ++ (record { start = at; line = part x at end } ∷ [])
      one_more = rw add-one (take-suc ps n nowhere inside ∙ ap (λ p. take n ps ++ (p ∷ [])) at_n)

      line-more : map kind (take (n + 1) (lines x)) ≡ map kind (take n (lines x)) ++ (kind (part x at end) ∷ [])
      line-more = rw (add-one, take-suc (lines x) n [] v.counted, map-append, v.line_is)

      long : n < length entries
      unfolding ps
      long = rw (w.entries_are, length-append, fill-length entry_of no_entry ps n (omega (arith, inside)), length-replicate) (omega arith)

      pub gone-next : Gone x (record { places = set kinds.places n r.kind; len = n + 1 }) (set entries n r.entry) (n + 1) (end + 1)
      unfolding ps
      gone-next =
          let z = good.0 in
          let b = end-bounds x line_feed at end (omega arith) e in
          let c = ap (λ ks. line_fault ks (part x at end)) parts_are ∙ z in
          let q = line-kind-is x at end b.0 b.1 (parts_of x kinds) c in
          let k = ap (λ r. r.kind) good.1 in
          let m = ap (λ r. r.entry) good.1 in
          record {
            stand = v.stand;
            few = omega arith;
            below = omega (arith, w.below, b);
            places_are = ap₂ (λ l k. set l n k) w.places_are (k ∙ ap kind_place (sym at_n)) ∙ fill-turn kind_place no_place ps 64 n nowhere o inside;
            count_is = refl;
            entries_are = ap₂ (λ l k. set l n k) w.entries_are (m ∙ ap entry_of (sym at_n)) ∙ fill-turn entry_of no_entry ps 64 n nowhere o inside;
            ahead = rw (add-one n) (tail-eq_of_cons-eq (sym (drop-cons ps n nowhere inside) ∙ here));
            entries_good = λ k d h. by_cases (dec_lt k n)
                (λ o'. rw (get_or-set_other entries n k r.entry d (λ q. omega (arith, q))) (w.entries_good k d o'))
                (λ o'. let q : k ≡ n = omega arith in
                rw (q, get_or-set_same entries n r.entry d long, v.line_is, m) (entry-good x at end b.0 b.1 (parts_of x kinds) c));
            kinds_are = rw (one_more, map-append, map-append, line-more, w.kinds_are, q);
            answer = w.answer ∙ rw (drop-cons (lines x) n [] v.counted, lt-leb max_rules n o, v.line_is, z, line-more, add-one);
          }

  pub gone-loaded : length x ≤ at → Loaded x (record { kinds = kinds; entries = entries })
  gone-loaded h =
      let c = stand-stop x n at w.stand h in
      record {
        few = omega (arith, w.few);
        kinds_are = parts_are ∙ ap (map kind) (take_all n (lines x) (omega arith));
        entries_good = λ k d o. w.entries_good k d (omega arith);
      }

  abbrev read : SheetRead
  read = record { outcome = Ok tt; sheet = record { kinds = kinds; entries = entries } }

  pub gone-end : length x ≤ at → read ≡ sheet_by x (sheet_lines 0 [] (lines x))
  unfolding ps
  gone-end h =
      let c = stand-stop x n at w.stand h in
      let m : n ≡ length ps = c ∙ sym (placed-length 0 (lines x)) in
      let t : take n ps ≡ ps = take_all n ps (omega arith) in
      let a : sheet_lines 0 [] (lines x) ≡ Ok tt = w.answer ∙ rw (c, drop-length (lines x)) in
      let l : length (map kind_place ps) ≡ n = length-map ps kind_place ∙ sym m in
      let p : kinds.places ≡ map kind_place ps ++ replicate (64 - n) no_place =
      w.places_are ∙ ap (λ q. map kind_place q ++ replicate (64 - n) no_place) t in
      let k : kinds ≡ names_with (map kind_place ps) =
      ap (λ j. record { places = kinds.places; len = j }) w.count_is ∙ names-filled (map kind_place ps) kinds.places n l p in
      let f : entries ≡ map entry_of ps ++ replicate (max_rules - length ps) no_entry =
      w.entries_are ∙ ap₂ (λ q j. map entry_of q ++ replicate (64 - j) no_entry) t m in
      rw (a, k, f)
