-- Lines and fields that are put together are parted there again.
use mathlib.Core.{Path.◌≡◌, Path.refl, Path.ap, Path.◌∙◌, Path.sym, Bool.Bool, Bool.true, Bool.false, Bool.not, List.List, List.[], List.◌∷◌, List.◌++◌}
use Rattle.std.proofs.Common.{append_assoc, append-nil, eq-eqb}
use Rattle.std.specs.Prelude.{ℕ, zero, suc}
use lib.{Dec.T, Dec.eqb, ListN.get_or}
use Rattle.std.proofs.Math.Facts.{and_yes, yes_and}
use Rattle.std.proofs.lemmas.Bool.{not-true}
use Rattle.fields.specs.{Tests.by-test, Bytes.Text, Bytes.all, Bytes.Laws.T_true, Bytes.Laws.apart, Bytes.Runs.all_map, Bytes.Runs.all_append}
use Rattle.fields.specs.Split.Laws.{parted, split-free}
use Rattle.fields.specs.Split.{line_feed, split, joined_by, but_last, last, lines, behind, unlines, other, none_has}

module _ (s : ℕ) where
  free-first : (b : ℕ) (u : Text) → T (all (other s) (b ∷ u)) → (eqb b s ≡ false) × T (all (other s) u)
  free-first b u h =
      let q = and_yes (other s b) (all (other s) u) h in
      (not-true (eqb b s) (T_true (other s b) q.0), q.1)

  split-behind : (u y : Text) → T (all (other s) u) → split s (u ++ (s ∷ y)) ≡ u ∷ split s y
  split-behind [] y h = rw (eq-eqb s s refl)
  split-behind (b ∷ u) y h = let q = free-first b u h in rw (q.0, split-behind u y q.1)

  split-whole : (u : Text) → T (all (other s) u) → split s u ≡ u ∷ []
  split-whole [] h = refl
  split-whole (b ∷ u) h = let q = free-first b u h in rw (q.0, split-whole u q.1)

  pub split-joined : (p : Text) (ps : List Text) → T (none_has s (p ∷ ps)) → split s (joined_by s (p ∷ ps)) ≡ p ∷ ps
  split-joined p [] h = split-whole p (and_yes (all (other s) p) true h).0
  split-joined p (q ∷ ps) h =
      let i = and_yes (all (other s) p) (none_has s (q ∷ ps)) h in
      split-behind p (joined_by s (q ∷ ps)) i.0 ∙ ap (λ r. p ∷ r) (split-joined q ps i.1)

split-unlines : (ls : List Text) → T (none_has line_feed ls) → split line_feed (unlines ls) ≡ ls ++ ([] ∷ [])
split-unlines [] h = refl
split-unlines (l ∷ ls) h =
    let i = and_yes (all (other line_feed) l) (none_has line_feed ls) h in
    ap (split line_feed) (append_assoc l (line_feed ∷ []) (unlines ls)) ∙ split-behind line_feed l (unlines ls) i.0 ∙ ap (λ r. l ∷ r) (split-unlines ls i.1)

pub but-last-snoc : (ps : List Text) (l : Text) → but_last (ps ++ (l ∷ [])) ≡ ps
but-last-snoc [] l = refl
but-last-snoc (p ∷ []) l = refl
but-last-snoc (p ∷ q ∷ ps) l = ap (λ r. p ∷ r) (but-last-snoc (q ∷ ps) l)

pub last_snoc : (ps : List Text) (l : Text) → last (ps ++ (l ∷ [])) ≡ l
last_snoc [] l = refl
last_snoc (p ∷ []) l = refl
last_snoc (p ∷ q ∷ ps) l = last_snoc (q ∷ ps) l

pub lines-unlines : (ls : List Text) → T (none_has line_feed ls) → (lines (unlines ls) ≡ ls) × (behind (unlines ls) ≡ [])
lines-unlines ls h = (ap but_last (split-unlines ls h) ∙ but-last-snoc ls [], ap last (split-unlines ls h) ∙ last_snoc ls [])

pub unlines-snoc : (ls : List Text) (l : Text) → unlines (ls ++ (l ∷ [])) ≡ unlines ls ++ (l ++ (line_feed ∷ []))
unlines-snoc [] l = append-nil (l ++ (line_feed ∷ []))
unlines-snoc (p ∷ ls) l =
    ap (λ r. (p ++ (line_feed ∷ [])) ++ r) (unlines-snoc ls l) ∙ sym (append_assoc (p ++ (line_feed ∷ [])) (unlines ls) (l ++ (line_feed ∷ [])))

-- what lacks a byte: a text whose bytes pass a test that the byte does not, each part of a text that lacks it, one of such parts, such parts and others, and
-- what is put together of them
pub passed-lacks : (f : ℕ → Bool) (t : ℕ) → T (not (f t)) → (x : Text) → T (all f x) → T (all (other t) x)
passed-lacks f t n = all_map f (other t) (λ b h. rw (apart f b t h n) tt)

pub split-lacks : (s t : ℕ) (x : Text) → T (all (other t) x) → T (none_has t (split s x))
split-lacks s t [] h = tt
split-lacks s t (b ∷ x) h =
    let i = and_yes (other t b) (all (other t) x) h in
    let p = parted s x in
    let k = split-lacks s t x i.1 in
    let j = and_yes (all (other t) p.first) (none_has t p.rest) (rw p.is at k) in
    by-test (eqb b s)
    (λ e. rw e k)
    (λ e. rw (e, p.is) (yes_and (all (other t) (b ∷ p.first)) (none_has t p.rest) (yes_and (other t b) (all (other t) p.first) i.0 j.0) j.1))

pub lacks-at : (t : ℕ) (ps : List Text) (i : ℕ) → T (none_has t ps) → T (all (other t) (get_or ps i []))
lacks-at t [] zero h = tt
lacks-at t [] (suc i) h = tt
lacks-at t (p ∷ ps) zero h = (and_yes (all (other t) p) (none_has t ps) h).0
lacks-at t (p ∷ ps) (suc i) h = lacks-at t ps i (and_yes (all (other t) p) (none_has t ps) h).1

pub append-lacks : (t : ℕ) (ps qs : List Text) → T (none_has t ps) → T (none_has t qs) → T (none_has t (ps ++ qs))
append-lacks t [] qs h k = k
append-lacks t (p ∷ ps) qs h k =
    let i = and_yes (all (other t) p) (none_has t ps) h in
    yes_and (all (other t) p) (none_has t (ps ++ qs)) i.0 (append-lacks t ps qs i.1 k)

pub joined-lacks : (s t : ℕ) → T (other t s) → (ps : List Text) → T (none_has t ps) → T (all (other t) (joined_by s ps))
joined-lacks s t d [] h = tt
joined-lacks s t d (p ∷ []) h = (and_yes (all (other t) p) true h).0
joined-lacks s t d (p ∷ q ∷ ps) h =
    let i = and_yes (all (other t) p) (none_has t (q ∷ ps)) h in
    all_append (other t) p (s ∷ joined_by s (q ∷ ps)) i.0 (yes_and (other t s) (all (other t) (joined_by s (q ∷ ps))) d (joined-lacks s t d (q ∷ ps) i.1))

but-last-lacks : (t : ℕ) (ps : List Text) → T (none_has t ps) → T (none_has t (but_last ps))
but-last-lacks t [] h = tt
but-last-lacks t (p ∷ []) h = tt
but-last-lacks t (p ∷ q ∷ ps) h =
    let i = and_yes (all (other t) p) (none_has t (q ∷ ps)) h in
    yes_and (all (other t) p) (none_has t (but_last (q ∷ ps))) i.0 (but-last-lacks t (q ∷ ps) i.1)

pub lines-lack : (x : Text) → T (none_has line_feed (lines x))
lines-lack x = but-last-lacks line_feed (split line_feed x) (rw (split-free line_feed x) tt)
