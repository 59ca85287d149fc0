-- What the tests of a session tell.
use mathlib.Core.{Path.◌≡◌, Path.refl, Bool.Bool, Bool.true, Bool.false, List.[], List.◌∷◌}
use Rattle.std.specs.Prelude.{ℕ, Ok, Err}
use Rattle.std.proofs.Common.{eq-eqb, eqb-true}
use lib.{Dec.leb, Dec.eqb, ListN.length, ListN.take, ListN.drop}
use Rattle.judge.specs.{declared.fault.JudgeFault.JudgeFault, Row.Laws.upto-tells, Next.fitted, Next.next_by}
use Rattle.judge.specs.declared.fault.JudgeFault.TheVariants.{Unreadable, BadTrail, ShortRow}
use Rattle.sessions.specs.{declared.session.Session.Session, Refusal.AllFree, Refusal.Intact}
use Rattle.sessions.specs.Session.{Outcome, Trail, free, all_free, intact, check, ◌then◌, checked, names_ahead, outcome, judged_by}
use Rattle.sessions.specs.Session.{asked, listed_by, next_asked}
use Rattle.fields.specs.Tests.{by-test, Tells, tells-le, tells-and, tells-three}
use Rattle.model.specs.{Rule.names, Check.readable}

pub all-free-tells : (t : Trail) → Tells (all_free t) (AllFree t)
all-free-tells [] = (λ e. tt, λ h. refl)
all-free-tells (x ∷ t) = tells-and (eqb x free) (all_free t) (eqb-true x free, eq-eqb x free) (all-free-tells t)

pub intact-tells : (children named : ℕ) (t : Trail) → Tells (intact children named t) (Intact children named t)
unfolding intact
intact-tells k m t = tells-three _ _ _ (tells-le _ _) (upto-tells m (take k t)) (all-free-tells (drop k t))

-- a check is passed where its condition holds, and a row of checks where each is
pub check_done : (b : Bool) (f : JudgeFault) → check b f ≡ Ok tt → b ≡ true
check_done true f e = refl
check_done false f e = cc

pub then-done : (o p : Outcome) → (o then p) ≡ Ok tt → (o ≡ Ok tt) × (p ≡ Ok tt)
then-done (Ok u) p e = (refl, e)
then-done (Err f) p e = cc

pub checked-done : (s : Session) (t : Trail) → checked s t ≡ Ok tt → (readable s.rule ≡ true) × (intact s.children (names s.rule) t ≡ true)
unfolding checked
checked-done s t e =
    let (a, b) = then-done (check (readable s.rule) Unreadable) _ e in
    (check_done (readable s.rule) Unreadable a, check_done (intact s.children (names s.rule) t) BadTrail b)

-- looking ahead is refused where asking is, and else where the list does not fit
pub next-by-asked : (s : Session) (t : Trail) (k : ℕ) → next_asked s t k ≡ next_by (fitted k (names_ahead s t)) (asked s t)
unfolding outcome
next-by-asked s t k = go (checked s t)
  where
    go : (o : Outcome) → listed_by (o then check (leb (length (names_ahead s t)) k) ShortRow) s t ≡ next_by (fitted k (names_ahead s t)) (judged_by o s t)
    go (Ok u) = by-test (leb (length (names_ahead s t)) k) (λ e. rw e) (λ e. rw e)
    go (Err f) = refl
