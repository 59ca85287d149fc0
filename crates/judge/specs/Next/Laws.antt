-- There is one list of next names and one reply, and the functions compute them.
use mathlib.Core.{Path.◌≡◌, Path.refl, Path.sym, Path.◌∙◌, Bool.true, Bool.false, Bool.false≢true, Bool.true≢false, List.[], List.◌∷◌}
use mathlib.Core.{List.◌++◌, List.append_assoc, List.append-nil}
use Rattle.std.specs.Prelude.{ℕ, zero, suc, ◌<◌, ◌≤◌, ◌⊎◌, ◌↔◌, Result, Ok, Err}
use Rattle.std.proofs.Math.Logic.{by_cases}
use Rattle.std.proofs.Math.Logic.Iff
use Rattle.std.proofs.Common.{inl, inr, ⊎_elim, leb-true, leb-false, le-leb}
use native.Mathlib.{Decide.dec_le, Omega.arith}
use Rattle.std.proofs.lemmas.Bool.{lt-leb}
use lib.{Dec.leb, ListN.length, ListN.length-append}
use Rattle.fields.specs.{Bytes.Text, Tests.by-test, Tests.Tells, Least.Laws.exactly}
use Rattle.model.specs.{declared.rule.Rule.Rule, declared.verdict.Verdict.Verdict, Word.Word, Word.Names, Word.keep, Types.Ty}
use Rattle.model.proofs.WordProjection.{keep_append}
use Rattle.model.specs.{Types.ConflictFree, Verdict.Says, Verdict.verdict, Syntax.written_names}
use Rattle.model.proofs.VerdictLaws.{verdict-says}
use Rattle.model.specs.{Model.model_of, Model.type_of, Model.Types.type-conflict-free, Rule.names}
use Rattle.model.proofs.AcceptLaws.{accepted-counts}
use Rattle.model.specs.{Rule.rule_type}
use Rattle.model.proofs.CheckExact.{means-type, type-means, means-conflict-free}
use Rattle.model.specs.declared.verdict.Verdict.TheVariants.{Complete, Open, Dead}
use Rattle.judge.specs.{declared.fault.JudgeFault.JudgeFault, Row.Judges, Row.by_meaning, Row.judged}
use Rattle.judge.specs.{Row.Laws.judged-judges, Row.Laws.judged-is, Reply.Reply, Reply.row, Reply.row_in, Reply.Laws.replies-exactly}
use Rattle.judge.specs.Next.{MayCome, RisesFrom, Among, NextNames, is_live, may_come, numbers_to, next_names, NextReply, NextInto, all_listed}
use Rattle.judge.specs.Next.{row_too_short}
use Rattle.judge.specs.Next.{JudgesNext, not_judged, next_by_meaning, ChildrenNextStands, fitted, next_by, next_judged, children_next}

-- lists that rise
rises-above : (m : ℕ) (l : Word) → RisesFrom m l → (x : ℕ) → Among x l → m < x
rises-above m [] h x a = absurd a
rises-above m (y ∷ l) h x (inl e) = omega (arith, h.0)
rises-above m (y ∷ l) h x (inr a) = omega (arith, h.0, rises-above y l h.1 x a)

rises-more : (m : ℕ) (l : Word) (x : ℕ) → RisesFrom m l → m < x → ((y : ℕ) → Among y l → y < x) → RisesFrom m (l ++ (x ∷ []))
rises-more m [] x h k f = (k, tt)
rises-more m (y ∷ l) x h k f = (h.0, rises-more y l x h.1 (f y (inl refl)) (λ z a. f z (inr a)))

-- two of the same numbers are the same
rises-once : (m : ℕ) (l r : Word) → RisesFrom m l → RisesFrom m r → ((x : ℕ) → Among x l ↔ Among x r) → l ≡ r
rises-once m [] [] h k f = refl
rises-once m [] (y ∷ r) h k f = absurd ((f y).1 (inl refl))
rises-once m (x ∷ l) [] h k f = absurd ((f x).0 (inl refl))
rises-once m (x ∷ l) (y ∷ r) h k f =
    let e : x ≡ y = first ((f x).0 (inl refl)) ((f y).1 (inl refl)) in
    let i = rises-once x l r h.1 (rw e k.1) (λ z. (
      λ a. rest z (rises-above x l h.1 z a) y r (sym e) ((f z).0 (inr a)),
      λ a. rest z (rw e (rises-above y r k.1 z a)) x l refl ((f z).1 (inr a)),
    )) in cc
  where
    first : Among x (y ∷ r) → Among y (x ∷ l) → x ≡ y
    first (inl e) b = e
    first (inr a) (inl e) = sym e
    first (inr a) (inr b) = absurd (omega (arith, rises-above y r k.1 x a, rises-above x l h.1 y b))

    rest : (z : ℕ) → x < z → (v : ℕ) (u : Word) → v ≡ x → Among z (v ∷ u) → Among z u
    rest z p v u d (inl e) = absurd (omega arith)
    rest z p v u d (inr a) = a

among-more : (l : Word) (y x : ℕ) → Among x (l ++ (y ∷ [])) ↔ (Among x l ⊎ (x ≡ y))
among-more [] y x = (⊎_elim (λ e. inr e) (λ a. absurd a), ⊎_elim (λ a. absurd a) (λ e. inl e))
among-more (z ∷ l) y x =
    let i = among-more l y x in (
      ⊎_elim (λ e. inl (inl e)) (λ a. ⊎_elim (λ b. inl (inr b)) (λ e. inr e) (i.0 a)),
      ⊎_elim (⊎_elim (λ e. inl e) (λ b. inr (i.1 (inl b)))) (λ e. inr (i.1 (inr e))),
    )

-- those of 1 to n that pass a test
pub kept_more : (p : Names) (n : ℕ) → p (suc n) ≡ true → keep p (numbers_to (suc n)) ≡ keep p (numbers_to n) ++ (suc n ∷ [])
unfolding keep
kept_more p n e = rw (keep_append p (numbers_to n) (suc n ∷ []), e)

pub kept_same : (p : Names) (n : ℕ) → p (suc n) ≡ false → keep p (numbers_to (suc n)) ≡ keep p (numbers_to n)
unfolding keep
kept_same p n e = rw (keep_append p (numbers_to n) (suc n ∷ []), e) (append-nil (keep p (numbers_to n)))

pub record KeptTo (p : Names) (n : ℕ) (l : Word) : Type 0 where
  pub rises : RisesFrom 0 l
  pub exact : (x : ℕ) → Among x l ↔ ((1 ≤ x) × (x ≤ n) × (p x ≡ true))
  pub few : length l ≤ n

module _ (p : Names) (n : ℕ) (l : Word) (k : KeptTo p n l) where
  kept-with : p (suc n) ≡ true → KeptTo p (suc n) (l ++ (suc n ∷ []))
  kept-with e = record {
    rises = rises-more 0 l (suc n) k.rises (omega arith) (λ y a. omega (arith, ((k.exact y).0 a).1));
    exact = λ x. Iff.trans (among-more l (suc n) x) (
      ⊎_elim (λ a. let (h, i, j) = (k.exact x).0 a in (h, omega arith, j)) (λ d. (omega arith, omega arith, rw d e)),
      λ (h, i, j). by_cases (dec_le x n) (λ m. inl ((k.exact x).1 (h, m, j))) (λ m. inr (omega arith)),
    );
    few = omega (arith, k.few, length-append l (suc n ∷ []));
  }

  kept-without : p (suc n) ≡ false → KeptTo p (suc n) l
  kept-without e = record {
    rises = k.rises;
    exact = λ x. (
      λ a. let (h, i, j) = (k.exact x).0 a in (h, omega arith, j),
      λ (h, i, j). by_cases (dec_le x n) (λ m. (k.exact x).1 (h, m, j)) (λ m. let d : x ≡ suc n = omega arith in absurd (true≢false (sym j ∙ rw d e))),
    );
    few = omega (arith, k.few);
  }

pub kept : (p : Names) (n : ℕ) → KeptTo p n (keep p (numbers_to n))
unfolding keep
kept p zero = record { rises = tt; exact = λ x. (λ a. absurd a, λ (h, i, j). absurd (omega arith)); few = omega arith }
kept p (suc n) =
    by-test (p (suc n))
    (λ e. rw (kept_more p n e) (kept-with p n (keep p (numbers_to n)) (kept p n) e))
    (λ e. rw (kept_same p n e) (kept-without p n (keep p (numbers_to n)) (kept p n) e))

-- a test of names that agrees with another on 1 to n keeps the same
pub kept-agreeing : (p q : Names) (n : ℕ) → ((x : ℕ) → 1 ≤ x → x ≤ n → p x ≡ q x) → keep p (numbers_to n) ≡ keep q (numbers_to n)
kept-agreeing p q zero f = unfold keep in refl
kept-agreeing p q (suc n) f =
    let e = f (suc n) (omega arith) (omega arith) in
    let i = kept-agreeing p q n (λ x a b. f x a (omega arith)) in
    by-test (q (suc n))
    (λ d. kept_more p n (e ∙ d) ∙ rw (i, kept_more q n d))
    (λ d. kept_same p n (e ∙ d) ∙ i ∙ sym (kept_same q n d))

live-tells : (A : Ty) (u : Word) (v : Verdict) → Says A u v → Tells (is_live v) (Says A u Complete ⊎ Says A u Open)
live-tells A u Complete s = (λ e. inl s, λ h. refl)
live-tells A u Open s = (λ e. inr s, λ h. refl)
live-tells A u Dead s = (λ e. absurd (false≢true e), ⊎_elim (λ h. absurd (s.0 h)) (λ h. absurd (s.1 h.1)))

module _ (A : Ty) (g : ConflictFree A) (n : ℕ) (w : Word) where
  may-tells : (x : ℕ) → Tells (may_come A w x) (MayCome A w x)
  unfolding may_come
  may-tells x = live-tells A (w ++ (x ∷ [])) (verdict A (w ++ (x ∷ []))) (verdict-says A g (w ++ (x ∷ [])))

  next-listed : NextNames A n w (next_names A n w)
  unfolding next_names
  next-listed =
      let k = kept (may_come A w) n in
      record {
        rises = k.rises;
        listed = λ x. Iff.trans (k.exact x) (λ (h, i, j). (h, i, (may-tells x).0 j), λ (h, i, j). (h, i, (may-tells x).1 j));
      }

  next-once : (l r : Word) → NextNames A n w l → NextNames A n w r → l ≡ r
  next-once l r h k = rises-once 0 l r h.rises k.rises (λ x. Iff.trans (h.listed x) (Iff.symm (k.listed x)))

  pub list-exactly : (l : Word) → (next_names A n w ≡ l) ↔ NextNames A n w l
  list-exactly = exactly (NextNames A n w) next-once (next_names A n w) next-listed

  pub next-few : length (next_names A n w) ≤ n
  unfolding next_names
  next-few = (kept (may_come A w) n).few

  -- into a lent row of k places
  module _ (k : ℕ) where
    fitted-into : NextInto A n w k (fitted k (next_names A n w))
    fitted-into =
        let l = next_names A n w in
        by-test (leb (length l) k)
        (λ e. rw e (all_listed next-listed (leb-true (length l) k e)))
        (λ e. rw e (row_too_short next-listed (leb-false (length l) k e)))

    into-once : {a : NextReply} → NextInto A n w k a → fitted k (next_names A n w) ≡ a
    into-once (all_listed {l} h i) = rw (next-once (next_names A n w) l next-listed h, le-leb (length l) k i)
    into-once (row_too_short {l} h i) = rw (next-once (next_names A n w) l next-listed h, lt-leb (length l) k i)

    pub into-exactly : (a : NextReply) → (fitted k (next_names A n w) ≡ a) ↔ NextInto A n w k a
    into-exactly a = (λ e. rw e at fitted-into, into-once)

-- document 02: from a dead row there are none
pub dead-has-none : {A : Ty} {n : ℕ} {w l : Word} → Says A w Dead → NextNames A n w l → l ≡ []
dead-has-none {l = []} d h = refl
dead-has-none {A} {w = w} {l = x ∷ l} d h = absurd (go ((h.listed x).0 (inl refl)).2)
  where
    go : MayCome A w x → ⊥
    go (inl k) = d.1 (x ∷ [], k)
    go (inr (i, (v, k))) = d.1 (x ∷ v, rw append_assoc at k)

-- by a rule, and by texts
module _ (r : Rule) (w : Word) (k : ℕ) where
  judged-next : (j : Result Verdict JudgeFault) → Judges r w j → JudgesNext r w k (next_by (fitted k (next_names (rule_type r) (names r) w)) j)
  judged-next (Err f) h = not_judged h
  judged-next (Ok v) (by_meaning m l u s) =
      let t = type-means (m.text, m.reads) in
      next_by_meaning t l u ((into-exactly (rule_type r) (means-conflict-free t) (names r) w k _).0 refl)

  next_is : {a : NextReply} → JudgesNext r w k a → next_judged r w k ≡ a
  unfolding next_judged
  next_is (not_judged {f} h) = rw (sym (judged-is r w h))
  next_is (next_by_meaning {A} {a} m l u h) =
      let g = means-conflict-free m in
      let j : judged r w ≡ Ok (verdict A w) = sym (judged-is r w (by_meaning m l u (verdict-says A g w))) in
      rw (j, ← means-type m) ((into-exactly A g (names r) w k a).1 h)

  pub judges-next-exactly : (a : NextReply) → (next_judged r w k ≡ a) ↔ JudgesNext r w k a
  unfolding next_judged
  judges-next-exactly a = (λ e. rw e at (judged-next (judged r w) (judged-judges r w)), next_is)

pub next-replies-exactly : (m c : Text) (k : ℕ) (r : Reply NextReply) → (children_next m c k ≡ r) ↔ ChildrenNextStands m c k r
unfolding children_next
next-replies-exactly m c k =
    replies-exactly row (λ t. fitted k (next_names (type_of (model_of t)) (length (written_names t)) (row_in t c)))
    (λ t a. NextInto (type_of (model_of t)) (length (written_names t)) (row_in t c) k a) m c
    (λ t h g a. into-exactly (type_of (model_of t)) (type-conflict-free (model_of t) (accepted-counts m t h)) (length (written_names t)) (row_in t c) k a)
