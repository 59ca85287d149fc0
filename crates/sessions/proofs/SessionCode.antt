-- How the answers of the methods come from what their calls give.
use mathlib.Core.{Path.◌≡◌, Bool.true}
use Rattle.std.specs.Prelude.{ℕ, ◌≤◌, ◌<◌, leb, length, take, Ok}
use native.Mathlib.{Omega.arith}
use Rattle.std.proofs.Common.{length-take}
use borrow.Author.Tests.{le-leb, ltb-true}
use Rattle.judge.specs.{Row.row_tested, Row.judged, Row.upto, Row.Laws.upto-tells, Next.next_judged}
use Rattle.judge.specs.declared.fault.JudgeFault.TheVariants.{UnknownName, NoRoom, NothingToTakeBack}
use Rattle.sessions.specs.Book.{adding, taking_back, room}
use Rattle.model.specs.{Rule.names, Check.readable}
use Rattle.sessions.specs.{declared.session.Session.Session, Session.Laws.intact-tells, Session.Laws.checked-done, Session.Laws.check_done}
use Rattle.sessions.specs.Session.Laws.{then-done, next-by-asked}
use Rattle.sessions.specs.Session.{Trail, intact, check, checked, outcome, asked, next_asked}
use Rattle.fields.specs.{Limits.max_row, Tests.by-test}

-- the children of an intact trail stand within it
pub intact-fits : (k m : ℕ) (t : Trail) → intact k m t ≡ true → k ≤ length t
intact-fits k m t i = let h = ((intact-tells k m t).0 i).0 in omega arith

pub intact_part : (k m : ℕ) (t : Trail) → intact k m t ≡ true → k ≡ length (take k t)
intact_part k m t i = let h = intact-fits k m t i in rw length-take (omega arith)

module _ (s : Session) (t : Trail) where
  -- the same of a call that is not refused
  pub added_fits : (x : ℕ) → outcome (adding x) s t ≡ Ok tt → s.children < length t
  unfolding outcome
  added_fits x e =
      let h = (then-done (check (leb x (names s.rule)) UnknownName) _ (then-done (checked s t) _ e).1).1 in
      let l = ltb-true s.children (room (length t)) (check_done _ NoRoom h) in omega arith

  pub taken_fits : outcome taking_back s t ≡ Ok tt → (0 < s.children) × (s.children ≤ length t)
  unfolding outcome
  taken_fits e =
      let (a, b) = then-done (checked s t) _ e in
      (ltb-true 0 s.children (check_done _ NothingToTakeBack b), intact-fits s.children (names s.rule) t (checked-done s t a).1)

  -- the children of an intact trail are a row that the judge refuses with 40 alone
  module _ (i : intact s.children (names s.rule) t ≡ true) where
    row_fits : length (take s.children t) ≤ max_row
    row_fits =
        let h = ((intact-tells s.children (names s.rule) t).0 i).0 in
        rw length-take (omega arith)

    row_named : upto (names s.rule) (take s.children t) ≡ true
    row_named = (upto-tells (names s.rule) (take s.children t)).1 ((intact-tells s.children (names s.rule) t).0 i).1

    pub asked_filled : judged s.rule (take s.children t) ≡ asked s t
    unfolding outcome checked judged row_tested row_fits row_named
    asked_filled =
        by-test (readable s.rule)
        (λ e. rw (e, i, le-leb (length (take s.children t)) max_row row_fits, row_named))
        (λ e. rw e)

    pub next_filled : (k : ℕ) → next_judged s.rule (take s.children t) k ≡ next_asked s t k
    unfolding next_judged
    next_filled k = rw (asked_filled, next-by-asked s t k)
