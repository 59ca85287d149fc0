-- A call is refused exactly as the table says.
use mathlib.Core.{Path.◌≡◌, Path.refl, Path.sym, Path.ap, Path.◌∙◌, Logic.◌↔◌, Bool.cond}
use Rattle.std.specs.Prelude.{ℕ, ◌≤◌, ◌<◌, Result, Ok, Err}
use Rattle.std.proofs.Common.{arith}
use lib.{Dec.leb, Dec.ltb, Dec.eqb, ListN.length, ListN.take}
use borrow.Author.Tests.{leb-true, leb-false, ltb-true, ltb-false}
use Rattle.judge.specs.{declared.fault.JudgeFault.JudgeFault, Row.judge_number, Next.NextReply, Next.next_listed}
use Rattle.judge.specs.Next.{next_refused}
use Rattle.judge.specs.declared.fault.JudgeFault.TheVariants.{Unreadable, LongRow, BadTrail, UnknownName, NoRoom, NothingToTakeBack, ShortRow}
use Rattle.model.specs.{declared.rule.Rule.Rule, declared.verdict.Verdict.Verdict, Rule.Laws.means-once, Rule.Readable, Rule.names}
use Rattle.model.proofs.VerdictLaws.{says-once, verdict-says}
use Rattle.model.specs.{Rule.rule_type, Check.readable}
use Rattle.model.proofs.CheckExact.{readable-is, type-means, means-conflict-free}
use Rattle.sessions.specs.{declared.session.Session.Session, Session.Laws.intact-tells, Session.Laws.then-done}
use Rattle.sessions.specs.{Session.Laws.checked-done, Book.Laws.rule-lists}
use Rattle.sessions.specs.Book.{Call, opening, adding, taking_back, asking, looking_ahead, room}
use Rattle.sessions.specs.Session.{Outcome, Trail, intact, ◌then◌, checked, names_ahead, outcome, judged_by, asked, listed_by, next_asked}
use Rattle.sessions.specs.Refusal.{Intact, Later, CallStands, no_rule, bad_rule, bad_trail, high_number, full_room, none_added, few_places, Tried}
use Rattle.sessions.specs.Refusal.{Asks, AsksNext}
use Rattle.fields.specs.{Tests.by-test, Tests.untold, Least.NoneStands, Least.Laws.least-once, Least.Laws.exactly}

then-no-more : (o : Outcome) → (o then Ok tt) ≡ o
then-no-more (Ok u) = refl
then-no-more (Err f) = refl

-- a fault is known by its number
numbered : ℕ → JudgeFault
numbered n =
    cond (eqb n 40) Unreadable (cond (eqb n 41) LongRow (cond (eqb n 42) BadTrail (cond (eqb n 43) UnknownName (
    cond (eqb n 44) NoRoom (cond (eqb n 45) NothingToTakeBack ShortRow)))))

numbered_is : (f : JudgeFault) → numbered (judge_number f) ≡ f
unfolding numbered
numbered_is Unreadable = refl
numbered_is LongRow = refl
numbered_is BadTrail = refl
numbered_is UnknownName = refl
numbered_is NoRoom = refl
numbered_is NothingToTakeBack = refl
numbered_is ShortRow = refl

judge-injective : (f g : JudgeFault) → judge_number f ≡ judge_number g → f ≡ g
judge-injective f g e = sym (numbered_is f) ∙ ap numbered e ∙ numbered_is g

module _ (s : Session) (t : Trail) where
  pub tried-once : (q : Call) (o p : Outcome) → Tried s t q o → Tried s t q p → o ≡ p
  tried-once q (Ok u) (Ok v) h k = refl
  tried-once q (Ok u) (Err g) h k = absurd (h g k.0)
  tried-once q (Err f) (Ok v) h k = absurd (k f h.0)
  tried-once q (Err f) (Err g) h k = ap Err (least-once judge_number judge-injective f g h k)

  -- test by test, what still stands has a number from n on
  abbrev Above : Call → ℕ → Type 0
  Above q n = (g : JudgeFault) → CallStands s t q g → n ≤ judge_number g

  above-model : {q : Call} → Above q 40
  above-model g (no_rule h) = omega arith
  above-model g _ = omega arith

  openable : (r : Rule) → Readable r → NoneStands (CallStands s t (opening r))
  openable r k g (no_rule h) = h k
  openable r k g (bad_rule l h) = l
  openable r k g (bad_trail l h) = l

  module _ (r : Readable s.rule) where
    above-trail : {q : Call} → Later q → Above q 42
    above-trail l g (no_rule h) = absurd l
    above-trail l g (bad_rule m h) = absurd (h r)
    above-trail l g _ = omega arith

    module _ (i : Intact s.children (names s.rule) t) where
      above-name : (x : ℕ) → Above (adding x) 43
      above-name x g (bad_rule l h) = absurd (h r)
      above-name x g (bad_trail l h) = absurd (h i)
      above-name x g _ = omega arith

      above-room : (x : ℕ) → x ≤ names s.rule → Above (adding x) 44
      above-room x n g (bad_rule l h) = absurd (h r)
      above-room x n g (bad_trail l h) = absurd (h i)
      above-room x n g (high_number h) = absurd (omega arith)
      above-room x n g (full_room h) = omega arith

      addable : (x : ℕ) → x ≤ names s.rule → s.children < room (length t) → NoneStands (CallStands s t (adding x))
      addable x n m g (bad_rule l h) = absurd (h r)
      addable x n m g (bad_trail l h) = absurd (h i)
      addable x n m g (high_number h) = absurd (omega arith)
      addable x n m g (full_room h) = absurd (omega arith)

      above-children : Above taking_back 45
      above-children g (bad_rule l h) = absurd (h r)
      above-children g (bad_trail l h) = absurd (h i)
      above-children g (none_added h) = omega arith

      takeable : 0 < s.children → NoneStands (CallStands s t taking_back)
      takeable n g (bad_rule l h) = absurd (h r)
      takeable n g (bad_trail l h) = absurd (h i)
      takeable n g (none_added h) = absurd (omega arith)

      askable : NoneStands (CallStands s t asking)
      askable g (bad_rule l h) = absurd (h r)
      askable g (bad_trail l h) = absurd (h i)

      above-list : (k : ℕ) → Above (looking_ahead k) 46
      above-list k g (bad_rule l h) = absurd (h r)
      above-list k g (bad_trail l h) = absurd (h i)
      above-list k g (few_places m h j) = omega arith

      listable : (k : ℕ) → length (names_ahead s t) ≤ k → NoneStands (CallStands s t (looking_ahead k))
      listable k n g (bad_rule l h) = absurd (h r)
      listable k n g (bad_trail l h) = absurd (h i)
      listable k n g (few_places m h j) = absurd (omega (arith, ap length ((rule-lists m).1 h)))

  opening-answers : (r : Rule) → Tried s t (opening r) (outcome (opening r) s t)
  unfolding outcome
  opening-answers r = by-test (readable r)
      (λ e. rw e (openable r ((readable-is r).0 e)))
      (λ e. rw e (no_rule (untold (readable r) (readable-is r) e), above-model))

  -- 40 and 42 come before what else a call tries
  checked-answers : (q : Call) → Later q → (o : Outcome)
      → (Readable s.rule → Intact s.children (names s.rule) t → Tried s t q o) → Tried s t q (checked s t then o)
  unfolding checked
  checked-answers q l o k =
      by-test (readable s.rule)
      (λ e. let r = (readable-is s.rule).0 e in
      by-test (intact s.children (names s.rule) t)
      (λ f. rw (e, f) (k r ((intact-tells s.children (names s.rule) t).0 f)))
      (λ f. rw (e, f) (bad_trail l (untold _ (intact-tells s.children (names s.rule) t) f), above-trail r l)))
      (λ e. rw e (bad_rule l (untold _ (readable-is s.rule) e), above-model))

  pub outcome-answers : (q : Call) → Tried s t q (outcome q s t)
  unfolding outcome
  outcome-answers (opening r) = opening-answers r
  outcome-answers (adding x) = checked-answers (adding x) tt _ (λ r i.
      by-test (leb x (names s.rule))
      (λ e. let n = leb-true x (names s.rule) e in
      by-test (ltb s.children (room (length t)))
      (λ f. rw (e, f) (addable r i x n (ltb-true _ _ f)))
      (λ f. rw (e, f) (full_room (ltb-false _ _ f), above-room r i x n)))
      (λ e. rw e (high_number (leb-false _ _ e), above-name r i x)))
  outcome-answers taking_back = checked-answers taking_back tt _ (λ r i.
      by-test (ltb 0 s.children)
      (λ e. rw e (takeable r i (ltb-true _ _ e)))
      (λ e. let h : s.children ≤ 0 = ltb-false _ _ e in rw e (none_added (omega arith), above-children r i)))
  outcome-answers asking = rw (then-no-more (checked s t)) at (checked-answers asking tt (Ok tt) (λ r i. askable r i))
  outcome-answers (looking_ahead k) = checked-answers (looking_ahead k) tt _ (λ r i.
      by-test (leb (length (names_ahead s t)) k)
      (λ e. rw e (listable r i k (leb-true _ _ e)))
      (λ e. let m = type-means r in rw e (few_places m ((rule-lists m).0 refl) (leb-false _ _ e), above-list r i k)))

  -- a call is refused exactly as the table says
  pub outcome-is : (q : Call) (o : Outcome) → (outcome q s t ≡ o) ↔ Tried s t q o
  outcome-is q = exactly (Tried s t q) (tried-once q) (outcome q s t) (outcome-answers q)

module _ (s : Session) (t : Trail) where
  asks-once : (a b : Result Verdict JudgeFault) → Asks s t a → Asks s t b → a ≡ b
  asks-once (Ok u) (Ok v) (h, (A, m, i)) (k, (B, n, j)) =
      let e = means-once n m in
      ap Ok (says-once A (take s.children t) u v i (rw e at j))
  asks-once (Ok u) (Err g) h k = absurd (h.0 g k.0)
  asks-once (Err f) (Ok v) h k = absurd (k.0 f h.0)
  asks-once (Err f) (Err g) h k = ap Err (least-once judge_number judge-injective f g h k)

  asked-asks : (o : Outcome) → o ≡ outcome asking s t → Asks s t (judged_by o s t)
  unfolding outcome
  asked-asks (Ok u) e =
      let m = type-means ((readable-is s.rule).0 (checked-done s t (sym e)).0) in
      (rw (sym e) at (outcome-answers s t asking), (rule_type s.rule, m, verdict-says (rule_type s.rule) (means-conflict-free m) (take s.children t)))
  asked-asks (Err f) e = rw (sym e) at (outcome-answers s t asking)

  pub asked_is : (a : Result Verdict JudgeFault) → (asked s t ≡ a) ↔ Asks s t a
  asked_is = exactly (Asks s t) asks-once (asked s t) (asked-asks (outcome asking s t) refl)

module _ (s : Session) (t : Trail) (k : ℕ) where
  lists-once : (a b : NextReply) → AsksNext s t k a → AsksNext s t k b → a ≡ b
  lists-once (next_listed u) (next_listed v) (h, (A, m, i)) (g, (B, n, j)) = ap next_listed (sym ((rule-lists m).1 i) ∙ (rule-lists n).1 j)
  lists-once (next_listed u) (next_refused g) h i = absurd (h.0 g i.0)
  lists-once (next_refused f) (next_listed v) h i = absurd (i.0 f h.0)
  lists-once (next_refused f) (next_refused g) h i = ap next_refused (least-once judge_number judge-injective f g h i)

  next-lists : (o : Outcome) → o ≡ outcome (looking_ahead k) s t → AsksNext s t k (listed_by o s t)
  unfolding outcome
  next-lists (Ok u) e =
      let m = type-means ((readable-is s.rule).0 (checked-done s t (then-done (checked s t) _ (sym e)).0).0) in
      (rw (sym e) at (outcome-answers s t (looking_ahead k)), (rule_type s.rule, m, (rule-lists m).0 refl))
  next-lists (Err f) e = rw (sym e) at (outcome-answers s t (looking_ahead k))

  pub next_is : (a : NextReply) → (next_asked s t k ≡ a) ↔ AsksNext s t k a
  next_is = exactly (AsksNext s t k) lists-once (next_asked s t k) (next-lists (outcome (looking_ahead k) s t) refl)
