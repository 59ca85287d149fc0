-- Members are put into a list of places one by one.
use mathlib.Core.{Path.◌≡◌, Path.refl, Path.sym, Path.ap, Path.◌∙◌, Logic.◌⊎◌, Logic.inl, Logic.inr, Logic.by_cases}
use mathlib.Core.{Bool.true, Bool.false, List.List, List.[], List.◌∷◌, List.◌++◌, List.map, List.map-append}
use Rattle.std.specs.Prelude.{ℕ, suc, ◌+◌, ◌-◌, ◌≤◌, ◌<◌, length, take, drop, get_or, set}
use native.Mathlib.{Omega.arith, Decide.dec_lt}
use Rattle.std.specs.List.{copy_within}
use Rattle.std.proofs.Common.{length-append, length-drop, take_at, drop_at}
use Rattle.std.proofs.Common.{length-take, length-set, drop_of_length-le, take-append-drop, drop-cons, drop-set-lt, take-take, get_or-set_same}
use Rattle.std.proofs.Common.{get_or-set_other, get_or-take, get_or-drop}
use Rattle.std.proofs.lemmas.List.{drop-append-le, take-append-le, take-set-le}
use Rattle.std.proofs.Math.Seq.{take-set-lt}
use Rattle.fields.specs.{Bytes.Text, Stack.slice_back, Stack.slice_is}
use Rattle.model.specs.{Tree.Members, Tree.none, Tree.◌▹◌, Syntax.Spelling, Syntax.Syntax}
use Rattle.canonical.specs.declared.head.Head.{Head}
use Rattle.canonical.specs.Order.{not_after, smallest_name, insert}
use Rattle.canonical.specs.Writer.{Stack.turned, Lists.tree_at, Lists.trees_listed, Lists.Inserted}

module _ {A : Type 0} (l : List A) where
  part_none : (s k : ℕ) → k ≤ s → drop s (take k l) ≡ []
  part_none s k h = drop_of_length-le (take k l) {i = s} (rw length-take (omega arith))

  pub nothing-behind : (k : ℕ) → drop k (take k l) ≡ []
  nothing-behind k = part_none k k (omega arith)

  part-set : (k n : ℕ) (v : A) → k < n → k < length l → drop k (take n (set l k v)) ≡ v ∷ drop (suc k) (take n l)
  part-set k n v h i =
      let e : k < length (take n l) = rw length-take (omega arith) in
      rw (take-set-lt n l k v h, drop-cons (set (take n l) k v) k v (rw length-set e), get_or-set_same (take n l) k v v e)
      (ap (λ (r : List A). v ∷ r) (drop-set-lt (suc k) (take n l) k v (omega arith)))

  part-split : (s k n : ℕ) → s ≤ k → k ≤ n → s ≤ length l → drop s (take n l) ≡ drop s (take k l) ++ drop k (take n l)
  part-split s k n h i j =
      let e : s ≤ length (take k (take n l)) = rw (length-take, length-take) (omega arith) in
      ap (drop s) (sym (take-append-drop k (take n l))) ∙ drop-append-le s (take k (take n l)) (drop k (take n l)) e
      ∙ ap (λ (r : List A). drop s r ++ drop k (take n l)) (take-take k n l i)

pub turned-append : (l r : List Syntax) (ts : Members Spelling) → turned (l ++ r) ts ≡ turned r (turned l ts)
turned-append [] r ts = refl
turned-append (t ∷ l) r ts = turned-append l r (t ▹ ts)

-- those of the places start to end that are behind k have moved up by one
pub record Moved (old new : List ℕ) (start end k : ℕ) : Type 0 where
  pub inside : (start ≤ k) × (k ≤ end) × (end < length old)
  pub list_length : length new ≡ length old
  pub below : take k new ≡ take k old
  pub above : drop (suc k) (take (suc end) new) ≡ drop k (take end old)

pub moved_none : (list : List ℕ) (start end : ℕ) → start ≤ end → end < length list → Moved list list start end end
moved_none list start end h i =
    record { inside = (h, omega arith, i); list_length = refl; below = refl; above = nothing-behind list (suc end) ∙ sym (nothing-behind list end) }

pub moved-on : {old new : List ℕ} {start end k : ℕ} → start ≤ k → k ≤ end → end < length old → length new ≡ length old
    → new ≡ copy_within old k end (k + 1) → Moved old new start end k
moved-on {old} {new} {start} {end} {k} h i j l e =
    let a = take (k + 1) old in
    let b = take (end - k) (drop k old) in
    let c = drop (k + 1 + (end - k)) old in
    let la : length a ≡ suc k = length-take (k + 1) old ∙ omega arith in
    let lb : length (a ++ b) ≡ suc end = rw (length-append, length-take, length-take, length-drop) (omega arith) in
    record {
      inside = (h, i, j);
      list_length = l;
      below = ap (take k) e ∙ take-append-le k (a ++ b) c (omega arith) ∙ take-append-le k a b (omega arith) ∙ take-take k (k + 1) old (omega arith);
      above =
          ap (λ (r : List ℕ). drop (suc k) (take (suc end) r)) e ∙ ap (drop (suc k)) (take_at (a ++ b) c (suc end) lb)
          ∙ drop_at a b (suc k) la ∙ sym (slice_is k end old);
    }

module _ {old new : List ℕ} {start end k : ℕ} (c : Moved old new start end k) where
  fewer-below : (n : ℕ) → n ≤ k → take n new ≡ take n old
  fewer-below n h = sym (take-take n k new h) ∙ ap (take n) c.below ∙ take-take n k old h

  same-below : (j : ℕ) → j < k → get_or new j 0 ≡ get_or old j 0
  same-below j h = sym (get_or-take k new j 0 h) ∙ ap (λ l. get_or l j 0) c.below ∙ get_or-take k old j 0 h

  -- one more is put at k
  module _ (m : ℕ) where
    put-parts : drop start (take (suc end) (set new k m)) ≡ drop start (take k old) ++ m ∷ drop k (take end old)
    put-parts =
        rw (
          part-split (set new k m) start k (suc end) (omega arith) (omega arith) (rw length-set (omega arith)),
          take-set-le k new k m (omega arith),
          c.below,
          part-set new k (suc end) m (omega arith) (omega arith),
          c.above,
        )

    pub put-before : take start (set new k m) ≡ take start old
    put-before = take-set-le start new k m (omega arith) ∙ fewer-below start (omega arith)

    same_above : (j : ℕ) → k < j → j < suc end → get_or (set new k m) j 0 ≡ get_or old (j - 1) 0
    same_above j h i =
        let r = j - suc k in
        let e : suc k + r ≡ j = omega arith in
        let f : k + r ≡ j - 1 = omega arith in
        let g = ap (λ (l : List ℕ). get_or l r 0) c.above in
        let g : get_or (take (suc end) new) j 0 ≡ get_or (take end old) (j - 1) 0 = rw (get_or-drop, get_or-drop, e, f) at g in
        get_or-set_other new k j m 0 (λ q. omega (arith, q)) ∙ sym (get_or-take (suc end) new j 0 i) ∙ g ∙ get_or-take end old (j - 1) 0 (omega arith)

    pub put-each : (j : ℕ) → start ≤ j → j < suc end
        → (get_or (set new k m) j 0 ≡ m) ⊎ ((i : ℕ) × (start ≤ i) × (i < end) × (get_or (set new k m) j 0 ≡ get_or old i 0))
    put-each j h i =
        by_cases (dec_lt j k)
        (λ l. inr (j, h, omega arith, get_or-set_other new k j m 0 (λ q. omega (arith, q)) ∙ same-below j l))
        (λ n. by_cases (dec_lt k j)
        (λ g. inr (j - 1, omega arith, omega arith, same_above j g i))
        (λ o. let e : j ≡ k = omega arith in inl (ap (λ q. get_or (set new k m) q 0) e ∙ get_or-set_same new k m 0 (omega arith))))

-- the trees of a list
module _ (x : Text) (stack : List Head) where
  abbrev trees_at : List ℕ → List Syntax
  trees_at l = map (tree_at x stack) l

  pub listed-less : (list : List ℕ) (start k : ℕ) → start < k → k ≤ length list
      → trees_listed x stack list start k ≡ tree_at x stack (get_or list (k - 1) 0) ▹ trees_listed x stack list start (k - 1)
  listed-less list start k h i =
      rw (
        part-split list start (k - 1) k (omega arith) (omega arith) (omega arith),
        slice_back list k k 0 (omega arith) (omega arith) i,
        nothing-behind list k,
        map-append (tree_at x stack) (drop start (take (k - 1) list)) (get_or list (k - 1) 0 ∷ []),
        turned-append (trees_at (drop start (take (k - 1) list))) (tree_at x stack (get_or list (k - 1) 0) ∷ []) none,
      )

  -- t is after all members from k on
  abbrev pub BehindInserted : List ℕ → ℕ → ℕ → Syntax → ℕ → Type 0
  BehindInserted old start end t k =
      insert t (trees_listed x stack old start end) ≡ turned (trees_at (drop k (take end old))) (insert t (trees_listed x stack old start k))

  module _ (old : List ℕ) (start end : ℕ) (t : Syntax) where
    pub behind-none : BehindInserted old start end t end
    behind-none = rw (nothing-behind old end)

    module _ (k : ℕ) (i : start < k) (h : BehindInserted old start end t k) (l : (k ≤ end) × (end < length old)) where
      pub behind_more : not_after (smallest_name t) (smallest_name (tree_at x stack (get_or old (k - 1) 0))) ≡ false → BehindInserted old start end t (k - 1)
      behind_more e =
          h ∙ ap (λ ts. turned (trees_at (drop k (take end old))) (insert t ts)) (listed-less old start k i (omega arith))
          ∙ rw (e, slice_back old end k 0 (omega arith) l.0 (omega arith))

      pub stops-there : not_after (smallest_name t) (smallest_name (tree_at x stack (get_or old (k - 1) 0))) ≡ true
          → insert t (trees_listed x stack old start k) ≡ t ▹ trees_listed x stack old start k
      stops-there e = rw (listed-less old start k i (omega arith), e)

    pub stops_first : (k : ℕ) → k ≤ start → insert t (trees_listed x stack old start k) ≡ t ▹ trees_listed x stack old start k
    stops_first k h = rw (part_none old start k h)

  pub put-listed : {old new : List ℕ} {start end k : ℕ} (c : Moved old new start end k) (m : ℕ)
      → trees_listed x stack (set new k m) start (suc end) ≡ turned (trees_at (drop k (take end old))) (tree_at x stack m ▹ trees_listed x stack old start k)
  put-listed {old} {new} {start} {end} {k} c m =
      rw (
        put-parts c m,
        map-append (tree_at x stack) (drop start (take k old)) (m ∷ drop k (take end old)),
        turned-append (trees_at (drop start (take k old))) (trees_at (m ∷ drop k (take end old))) none,
      )

  pub inserted : {old new : List ℕ} {start end k m : ℕ} → Moved old new start end k → BehindInserted old start end (tree_at x stack m) k
      → insert (tree_at x stack m) (trees_listed x stack old start k) ≡ tree_at x stack m ▹ trees_listed x stack old start k
      → Inserted x stack old (set new k m) start end m
  inserted {old} {new} {start} {end} {k} {m} c b e =
      record {
        before = put-before c m;
        list_length = rw length-set c.list_length;
        members_are = put-listed c m ∙ sym (b ∙ ap (turned (trees_at (drop k (take end old)))) e);
        each = put-each c m;
      }
