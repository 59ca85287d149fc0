-- The first three fields of a line, by where each ends.
use mathlib.Core.{Path.◌≡◌, Path.ap, Path.sym, Path.◌∙◌, Bool.true, Bool.false, List.[], List.◌∷◌}
use Rattle.std.specs.Prelude.{ℕ, suc, ◌+◌, ◌≤◌, ◌<◌, min}
use native.Mathlib.{Omega.arith, Numerals.add-one}
use lib.{Dec.ltb, ListN.length, ListN.drop, ListN.get_or}
use Rattle.std.proofs.Common.{ltb-true, ltb-false, lt-ltb, le-ltb}
use Rattle.fields.specs.{Tests.by-test, Bytes.Text, declared.split.Heads.Heads, Split.Laws.part_at, Split.Laws.end-bounds, Heads.field_behind}
use Rattle.fields.specs.{Heads.heads_of, Heads.Ascending}
use Rattle.fields.specs.Split.{tab, split, fields, field, part, part_end, more}

module _ (l : Text) where
  -- the fields behind a tab: one, and those behind it
  pub more-is : (e : ℕ) → e < length l → more l tab e ≡ part l (suc e) (field_behind l e) ∷ more l tab (field_behind l e)
  more-is e h = rw (lt-ltb e (length l) h) (part_at l tab (suc e) h)

  pub more-none : (e : ℕ) → length l ≤ e → more l tab e ≡ []
  more-none e h = rw (le-ltb e (length l) h)

-- what the ends of the first three fields tell of a line that has them
pub record Three (l : Text) (h : Heads) : Type 0 where
  pub enough : ltb (length (fields l)) 3 ≡ false
  pub ascending : (h.first < h.second) × (h.second < h.third) × (h.third ≤ length l)
  pub first_is : field 0 l ≡ part l 0 h.first
  pub second_is : field 1 l ≡ part l (h.first + 1) h.second
  pub third_is : field 2 l ≡ part l (h.second + 1) h.third
  pub rest_is : field 2 l ∷ drop 3 (fields l) ≡ split tab (drop (h.second + 1) l)
  pub behind_is : drop 3 (fields l) ≡ more l tab h.third

module _ (l : Text) where
  first_part : (a : ℕ) → a ≡ part_end l tab 0 → fields l ≡ part l 0 a ∷ more l tab a
  first_part a p = rw p (part_at l tab 0 (omega arith))

  next-part : (a b : ℕ) → a < length l → b ≡ field_behind l a → more l tab a ≡ part l (suc a) b ∷ more l tab b
  next-part a b h q = rw q (more-is l a h)

  behind-none : (a b : ℕ) → length l ≤ a → b ≡ field_behind l a → b ≡ a
  behind-none a b h q = q ∙ rw (le-ltb a (length l) h)

  behind-after : (a b : ℕ) → a < length l → b ≡ field_behind l a → (a < b) × (b ≤ length l)
  behind-after a b h q =
      let e : b ≡ part_end l tab (suc a) = q ∙ rw (lt-ltb a (length l) h) in
      let k = end-bounds l tab (suc a) b h e in
      (omega arith, k.1)

  behind-bounds : (a b : ℕ) → a ≤ length l → b ≡ field_behind l a → (min (a + 1) (length l) ≤ b) × (b ≤ length l)
  behind-bounds a b h q =
      by-test (ltb a (length l))
      (λ t. let k = behind-after a b (ltb-true a (length l) t) q in (omega arith, k.1))
      (λ t. let k = behind-none a b (ltb-false a (length l) t) q in (omega (arith, ltb-false a (length l) t), omega arith))

  -- the bounds of what `heads_of` gives
  pub heads-ascend : (a b d : ℕ) → a ≡ part_end l tab 0 → b ≡ field_behind l a → d ≡ field_behind l b
      → Ascending l (record { first = a; second = b; third = d })
  heads-ascend a b d p q r =
      let i = behind-bounds a b (end-bounds l tab 0 a (omega arith) p).1 q in
      let j = behind-bounds b d i.1 r in
      record { second_behind = i.0; third_behind = j.0; third_within = j.1 }

  two : (a b : ℕ) → a ≡ part_end l tab 0 → b ≡ field_behind l a → a < length l → fields l ≡ part l 0 a ∷ (part l (suc a) b ∷ more l tab b)
  two a b p q h = first_part a p ∙ ap (λ r. part l 0 a ∷ r) (next-part a b h q)

  few : (a b : ℕ) → a ≡ part_end l tab 0 → b ≡ field_behind l a → length l ≤ b → ltb (length (fields l)) 3 ≡ true
  few a b p q h =
      by-test (ltb a (length l))
      (λ t. rw (two a b p q (ltb-true a (length l) t), more-none l b h))
      (λ t. rw (first_part a p, more-none l a (ltb-false a (length l) t)))

  pub fields-few : (h : Heads) → h ≡ heads_of l → length l ≤ h.second → ltb (length (fields l)) 3 ≡ true
  fields-few h e k = few h.first h.second (ap (λ r. r.first) e) (ap (λ r. r.second) e ∙ ap (field_behind l) (sym (ap (λ r. r.first) e))) k

  module _ (a b d : ℕ) (p : a ≡ part_end l tab 0) (q : b ≡ field_behind l a) (r : d ≡ field_behind l b) (k : b < length l) where
    inside : a < length l
    inside =
        by-test (ltb a (length l))
        (λ t. ltb-true a (length l) t)
        (λ t. let n = ltb-false a (length l) t in let c = behind-none a b n q in absurd (omega arith))

    three : fields l ≡ part l 0 a ∷ (part l (suc a) b ∷ (part l (suc b) d ∷ more l tab d))
    three = two a b p q inside ∙ ap (λ s. part l 0 a ∷ (part l (suc a) b ∷ s)) (next-part b d k r)

    rest : more l tab b ≡ split tab (drop (suc b) l)
    rest = rw (lt-ltb b (length l) k)

    threes : Three l (record { first = a; second = b; third = d })
    threes =
        let n = length (more l tab d) in
        let e : length (fields l) ≡ suc (suc (suc n)) = ap length three in
        let i = behind-after a b inside q in
        let j = behind-after b d k r in
        record {
          enough = rw e (le-ltb (suc (suc (suc n))) 3 (omega arith));
          ascending = (i.0, j.0, j.1);
          first_is = ap (λ f. get_or f 0 []) three;
          second_is = rw add-one (ap (λ f. get_or f 1 []) three);
          third_is = rw add-one (ap (λ f. get_or f 2 []) three);
          rest_is = rw add-one (ap (λ f. get_or f 2 [] ∷ drop 3 f) three ∙ sym (next-part b d k r) ∙ rest);
          behind_is = ap (drop 3) three;
        }

  pub fields-three : (h : Heads) → h ≡ heads_of l → h.second < length l → Three l h
  fields-three h e k =
      let p = ap (λ r. r.first) e in
      let q = ap (λ r. r.second) e in
      threes h.first h.second h.third p (q ∙ ap (field_behind l) (sym p)) (ap (λ r. r.third) e ∙ ap (field_behind l) (sym q)) k

  -- by how many fields there are
  pub fields-enough : (h : Heads) → h ≡ heads_of l → 3 ≤ length (fields l) → Three l h
  fields-enough h e k =
      by-test (ltb h.second (length l))
      (λ t. fields-three h e (ltb-true h.second (length l) t))
      (λ t. let f = fields-few h e (ltb-false h.second (length l) t) in absurd (omega (arith, ltb-true (length (fields l)) 3 f)))
