-- Every row has one answer, and `judged` computes it.
use mathlib.Core.{Path.◌≡◌, Path.refl, Path.sym, Path.ap, Bool.true, Bool.and-eq-true_iff, List.[], List.◌∷◌}
use Rattle.std.specs.Prelude.{ℕ, zero, suc, ◌<◌, ◌≤◌, Result, Ok}
use Rattle.std.proofs.Common.{arith, leb-true, le-leb}
use lib.{Dec.leb, ListN.length, ListN.get_or}
use Rattle.model.specs.{declared.rule.Rule.Rule, Word.Word, Rule.names, Rule.rule_type, Rule.Means}
use Rattle.model.proofs.VerdictLaws.{verdict-says, verdict-is}
use Rattle.model.specs.{Rule.Readable}
use Rattle.model.specs.{Check.readable, declared.verdict.Verdict.Verdict, Types.Ty, Verdict.Says, Rule.Laws.means-once}
use Rattle.model.proofs.CheckExact.{readable-is, type-means, means-type, means-conflict-free}
use Rattle.judge.specs.declared.fault.JudgeFault.{JudgeFault}
use Rattle.judge.specs.Row.{Upto, Judges, row_tested, judged, upto, unreadable, long_row, unknown_name, by_meaning}
use Rattle.fields.specs.Tests.{by-test, Tells, untold, fails, tells-le, tells-and}
use Rattle.fields.specs.Limits.{max_row}

pub upto-tells : (n : ℕ) (w : Word) → Tells (upto n w) (Upto n w)
upto-tells n [] = (λ e. tt, λ h. refl)
upto-tells n (x ∷ w) = tells-and (leb x n) (upto n w) (tells-le x n) (upto-tells n w)

-- numbers up to m
pub upto-at : (m : ℕ) (w : Word) → upto m w ≡ true → (i : ℕ) → i < length w → get_or w i 0 ≤ m
upto-at m [] e i h = absurd (omega arith)
upto-at m (x ∷ w) e zero h = leb-true x m ((and-eq-true_iff (leb x m) (upto m w)).0 e).0
upto-at m (x ∷ w) e (suc i) h = upto-at m w ((and-eq-true_iff (leb x m) (upto m w)).0 e).1 i (omega arith)

pub upto-more : (m n : ℕ) (w : Word) → m ≤ n → upto m w ≡ true → upto n w ≡ true
upto-more m n [] h e = refl
upto-more m n (x ∷ w) h e =
    let (a, b) = (and-eq-true_iff (leb x m) (upto m w)).0 e in
    (and-eq-true_iff (leb x n) (upto n w)).1 (le-leb x n (omega (arith, leb-true x m a)), upto-more m n w h b)

-- a row that is not refused
pub test-passed : (r : Rule) (w : Word) → Readable r → length w ≤ max_row → Upto (names r) w → row_tested r w ≡ Ok (names r)
unfolding row_tested
test-passed r w i l u = rw ((readable-is r).1 i, (tells-le (length w) max_row).1 l, (upto-tells (names r) w).1 u)

pub judged-judges : (r : Rule) (w : Word) → Judges r w (judged r w)
unfolding judged row_tested
judged-judges r w =
    by-test (readable r)
    (λ a. let i = (readable-is r).0 a in
    by-test (leb (length w) max_row)
    (λ b. let j = (tells-le (length w) max_row).0 b in
    by-test (upto (names r) w)
    (λ c. let m = type-means i in
    rw (a, b, c) (by_meaning m j ((upto-tells (names r) w).0 c) (verdict-says (rule_type r) (means-conflict-free m) w)))
    (λ c. rw (a, b, c) (unknown_name i j (untold (upto (names r) w) (upto-tells (names r) w) c))))
    (λ b. let n = untold (leb (length w) max_row) (tells-le (length w) max_row) b in rw (a, b) (long_row i (omega arith))))
    (λ a. rw a (unreadable (untold (readable r) (readable-is r) a)))

-- there is no second one
pub judged-is : (r : Rule) (w : Word) {a : Result Verdict JudgeFault} → Judges r w a → a ≡ judged r w
unfolding judged row_tested
judged-is r w (unreadable h) = rw (fails (readable r) (readable-is r) h)
judged-is r w (long_row i h) =
    rw ((readable-is r).1 i, fails (leb (length w) max_row) (tells-le (length w) max_row) (λ l. omega arith))
judged-is r w (unknown_name i l h) =
    rw ((readable-is r).1 i, (tells-le (length w) max_row).1 l, fails (upto (names r) w) (upto-tells (names r) w) h)
judged-is r w (by_meaning {A} {v} m l u s) =
    rw (test-passed r w (m.text, m.reads) l u)
    (ap Ok (sym ((verdict-is (rule_type r) (rw (means-type m) at (means-conflict-free m)) w v).1 (rw (means-type m) at s))))

-- the verdict on a row that is not refused
pub judged-says : (r : Rule) (w : Word) (v : Verdict) {A : Ty} → Means r A → judged r w ≡ Ok v → Says A w v
judged-says r w v {A} m e = go (rw e at (judged-judges r w))
  where
    go : Judges r w (Ok v) → Says A w v
    go (by_meaning n l u s) = rw (means-once m n) s
