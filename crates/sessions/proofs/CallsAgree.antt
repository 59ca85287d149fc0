-- Each call does what the book does.
use mathlib.Core.{Path.◌≡◌, Path.refl, Path.sym, Path.ap, Path.◌∙◌, Logic.◌↔◌, Bool.true, List.[], List.◌∷◌, List.◌++◌, List.append_assoc}
use Rattle.std.specs.Prelude.{ℕ, zero, suc, ◌+◌, ◌-◌, ◌≤◌, ◌<◌, drop, set, replicate, Result, Ok}
use native.Mathlib.{Nat.sub-zero, Omega.arith}
use lib.{Dec.leb, Dec.ltb, Seq.take_at, Seq.drop_at, Seq.set_at}
use Rattle.std.proofs.Math.ListN.{length}
use Rattle.std.proofs.Common.{length-append}
use Rattle.std.proofs.lemmas.List.{length-replicate, length_push, nil_from_length}
use borrow.Author.Tests.{leb-true, leb-false, ltb-true, ltb-false}
use Rattle.judge.specs.{declared.fault.JudgeFault.JudgeFault, Row.Upto, Next.NextNames, Next.HandsNext}
use Rattle.model.specs.{declared.rule.Rule.Rule, declared.verdict.Verdict.Verdict, Word.Word, Types.Ty, Verdict.Says, Verdict.verdict}
use Rattle.model.specs.{Rule.Readable, Rule.Means, Rule.names, Rule.rule_type, Check.readable}
use Rattle.model.proofs.VerdictLaws.{verdict-says, verdict-is}
use Rattle.model.proofs.CheckExact.{readable-is, type-means, means-type, means-conflict-free}
use Rattle.sessions.specs.{declared.session.Step.Step, Book.Laws.takes-last, Refusal.AllFree}
use Rattle.sessions.specs.{Session.Laws.intact-tells, Session.Laws.next-by-asked, Book.Laws.rule-lists}
use Rattle.sessions.specs.Calls.{World, world, of_outcome, of_judged, of_next, Plays, by_open, by_add, by_take_back, by_verdict, by_next, shown}
use Rattle.sessions.specs.Book.{Call, opening, adding, taking_back, asking, looking_ahead, CallReply, nothing, refuses, Book, book, room, Enters}
use Rattle.sessions.specs.Book.{not_opened, opens, not_named, no_space, adds, none_to_take, asks, not_listed, lists_next}
use Rattle.sessions.specs.Session.{Trail, free, intact, checked, names_ahead, outcome, call_step, trail_after, asked, Does, Gives, next_asked}
use Rattle.fields.specs.Tests.{by-test, untold}

replicate-free : (n : ℕ) → AllFree (replicate n free)
replicate-free zero = tt
replicate-free (suc n) = (refl, replicate-free n)

-- the trail that shows a word with a symbol more
filled : (n : ℕ) (w : Word) (x : ℕ) → length w < n →
    set (w ++ replicate (n - length w) free) (length w) x ≡ (w ++ (x ∷ [])) ++ replicate (n - length (w ++ (x ∷ []))) free
filled n w x h =
    let e : n - length w ≡ suc (n - (length w + 1)) = omega arith in
    rw (e, length_push w x, set_at w free (replicate (n - (length w + 1)) free) x (length w) refl, append_assoc)

freed : (n : ℕ) (u w : Word) (x : ℕ) → u ≡ w ++ (x ∷ []) → length u ≤ n →
    set (u ++ replicate (n - length u) free) (length u - 1) free ≡ w ++ replicate (n - length w) free
freed n u w x i h =
    let l : length u ≡ length w + 1 = ap length i ∙ length_push w x in
    let e : n - length w ≡ suc (n - (length w + 1)) = omega arith in
    rw (l, i, append_assoc, set_at w x (replicate (n - (length w + 1)) free) free (length w + 1 - 1) (omega arith), e)

upto-append : (m : ℕ) (v w : Word) → Upto m (v ++ w) ↔ (Upto m v × Upto m w)
upto-append m [] w = (λ h. (tt, h), λ h. h.1)
upto-append m (x ∷ v) w =
    (λ h. let i = (upto-append m v w).0 h.1 in ((h.0, i.0), i.1), λ h. (h.0.0, (upto-append m v w).1 (h.0.1, h.1)))

-- a word with symbols has a last one
last : (w : Word) → 0 < length w → (v : Word) × (x : ℕ) × (w ≡ v ++ (x ∷ []))
last [] h = absurd (omega arith)
last (x ∷ []) h = ([], x, refl)
last (x ∷ y ∷ w) h = let i = last (y ∷ w) (omega arith) in (x ∷ i.0, i.1, ap (λ (l : Word). x ∷ l) i.2)

-- what a book in a trail of n places keeps to
pub record Matches (n : ℕ) (b : Book) : Type 0 where
  pub known : Readable b.rule
  pub named : Upto (names b.rule) b.row
  pub fits : length b.row ≤ room n

kept_fresh : (n : ℕ) (r : Rule) → Readable r → Matches n (book r [])
kept_fresh n r h = record { known = h; named = tt; fits = omega arith }

-- what opening, adding and taking back leave
abbrev moved : Call → World → World
moved q u = world (call_step q u.session u.trail).session (trail_after q u.session u.trail)

-- opening shows a fresh book, whatever session and trail there were
opened : (u : World) (r : Rule) → readable r ≡ true → moved (opening r) u ≡ shown (length u.trail) (book r [])
unfolding outcome
opened u r e = rw (e, sub-zero)

-- an opening that was not refused
pub record Opened (u₀ u : World) (r : Rule) : Type 0 where
  pub kept : Matches (length u₀.trail) (book r [])
  pub shows : u ≡ shown (length u₀.trail) (book r [])

pub done-opened : {u₀ u : World} {r : Rule} {a : CallReply} → Plays u₀ (opening r) a u → a ≡ nothing → Opened u₀ u r
unfolding outcome
done-opened {u₀} {r = r} (by_open (d, f)) i = by-test (readable r)
    (λ e. record { kept = kept_fresh (length u₀.trail) r ((readable-is r).0 e); shows = rw (d, f) (opened u₀ r e) })
    (λ e. let z : refuses 40 ≡ nothing = rw (d, e) at i in absurd (cc))

-- opening a rule that some text reads into is not refused
pub readable-opened : {u₀ u : World} {r : Rule} {a : CallReply} → Readable r → Plays u₀ (opening r) a u → a ≡ nothing
unfolding outcome
readable-opened {r = r} h (by_open (d, f)) = rw (d, (readable-is r).1 h)

-- the book does the same as a call that had the reply a and left the world u
abbrev pub Agrees : ℕ → Book → Call → CallReply → World → Type 0
Agrees n b q a u = (c : Book) × Enters n b q a c × (u ≡ shown n c) × Matches n c

module _ (n : ℕ) (b : Book) (k : Matches n b) where
  length-shown : length (shown n b).trail ≡ n
  length-shown =
      let h = k.fits in
      length-append b.row (replicate (n - length b.row) free) ∙ rw length-replicate (omega arith)

  readable-shown : readable b.rule ≡ true
  readable-shown = (readable-is b.rule).1 k.known

  intact-shown : intact (length b.row) (names b.rule) (shown n b).trail ≡ true
  intact-shown =
      (intact-tells (length b.row) (names b.rule) (shown n b).trail).1 (
        rw length-shown k.fits,
        rw (take_at b.row (replicate (n - length b.row) free) (length b.row) refl) k.named,
        rw (drop_at b.row (replicate (n - length b.row) free) (length b.row) refl) (replicate-free (n - length b.row)),
      )

  checked-shown : checked (shown n b).session (shown n b).trail ≡ Ok tt
  unfolding checked
  checked-shown = rw (readable-shown, intact-shown)

  -- a call by what opening, adding and taking back promise
  abbrev Promised : Call → Type 0
  Promised q = Agrees n b q (of_outcome (outcome q (shown n b).session (shown n b).trail)) (moved q (shown n b))

  agrees-opening : (r : Rule) → Promised (opening r)
  unfolding outcome
  agrees-opening r = by-test (readable r)
      (λ e. let h = (readable-is r).0 e in
      (book r [], rw e (opens h), opened (shown n b) r e ∙ ap (λ (m : ℕ). shown m (book r [])) length-shown, kept_fresh n r h))
      (λ e. rw e (b, not_opened (untold (readable r) (readable-is r) e), refl, k))

  agrees-adding : (x : ℕ) → Promised (adding x)
  unfolding outcome
  agrees-adding x =
      let f = k.fits in
      by-test (leb x (names b.rule))
      (λ e. let h : x ≤ names b.rule = leb-true _ _ e in
      by-test (ltb (length b.row) (room n))
      (λ l. let g : length b.row < room n = ltb-true _ _ l in
      let i = length_push b.row x in
      let j = filled n b.row x (omega arith) in
      rw (checked-shown, e, length-shown, l) (
        record { rule = b.rule; row = b.row ++ (x ∷ []) },
        adds h (λ (k : length b.row ≡ room n). omega arith),
        cc,
        record { known = k.known; named = (upto-append _ b.row (x ∷ [])).1 (k.named, (h, tt)); fits = omega arith },
      ))
      (λ l. let g : room n ≤ length b.row = ltb-false _ _ l in
      let i : length b.row ≡ room n = omega arith in rw (checked-shown, e, length-shown, l) (b, no_space h i, refl, k)))
      (λ e. let h : names b.rule < x = leb-false _ _ e in rw (checked-shown, e) (b, not_named h, refl, k))

  agrees-taking : Promised taking_back
  unfolding outcome
  agrees-taking = by-test (ltb 0 (length b.row))
      (λ e. let f = k.fits in
      let (w, x, i) = last b.row (ltb-true _ _ e) in
      let l : length b.row ≡ length w + 1 = ap length i ∙ length_push w x in
      let m : length b.row - 1 ≡ length w = omega arith in
      let j = freed n b.row w x i (omega arith) in
      rw (checked-shown, e) (
        record { rule = b.rule; row = w },
        takes-last b.row w x i,
        cc,
        record { known = k.known; named = ((upto-append _ w (x ∷ [])).0 (rw i at k.named)).0; fits = omega arith },
      ))
      (λ e. let h : length b.row ≤ 0 = ltb-false _ _ e in rw (checked-shown, e) (b, rw (nil_from_length b.row (omega arith)) none_to_take, refl, k))

  -- what asking promises
  asked-shown : asked (shown n b).session (shown n b).trail ≡ Ok (verdict (rule_type b.rule) b.row)
  unfolding outcome
  asked-shown = rw (checked-shown, take_at b.row (replicate (n - length b.row) free) (length b.row) refl)

  agrees-asking : Agrees n b asking (of_judged (asked (shown n b).session (shown n b).trail)) (shown n b)
  agrees-asking =
      let m = type-means k.known in
      rw asked-shown (b, asks m (verdict-says (rule_type b.rule) (means-conflict-free m) b.row), refl, k)

  pub asked-says : {A : Ty} → Means b.rule A → (v : Verdict) → Gives (shown n b).session (shown n b).trail (Ok v) ↔ Says A b.row v
  asked-says m v =
      let t = verdict-is (rule_type b.rule) (rw (means-type m) at (means-conflict-free m)) b.row v in
      (λ e. rw (means-type m) (t.0 (said (sym asked-shown ∙ sym e))), λ h. ap Ok (sym (t.1 (rw (means-type m) at h))) ∙ sym asked-shown)
    where
      said : {u v : Verdict} → ◌≡◌ {A = Result Verdict JudgeFault} (Ok u) (Ok v) → u ≡ v
      said e = cc

  -- what looking ahead promises
  ahead-shown : NextNames (rule_type b.rule) (names b.rule) b.row (names_ahead (shown n b).session (shown n b).trail)
  ahead-shown = rw (take_at b.row (replicate (n - length b.row) free) (length b.row) refl) ((rule-lists (type-means k.known)).0 refl)

  agrees-ahead : {a : Result ℕ JudgeFault} {lent' : Word} (lent : Word)
      → HandsNext (next_asked (shown n b).session (shown n b).trail (length lent)) a lent lent'
      → Agrees n b (looking_ahead (length lent)) (of_next a lent') (shown n b)
  agrees-ahead lent (d, f) =
      let l = names_ahead (shown n b).session (shown n b).trail in
      let m = type-means k.known in
      let g = next-by-asked (shown n b).session (shown n b).trail (length lent) in
      by-test (leb (length l) (length lent))
      (λ e. rw (d, f, g, asked-shown, e, take_at l (drop (length l) lent) (length l) refl) (b, lists_next m ahead-shown (leb-true _ _ e), refl, k))
      (λ e. rw (d, f, g, asked-shown, e) (b, not_listed m ahead-shown (leb-false _ _ e), refl, k))

  agreed : {q : Call} {a : Step} {t : Trail} → Does q (shown n b).session (shown n b).trail a t → Promised q
      → Agrees n b q (of_outcome a.outcome) (world a.session t)
  agreed (e, f) h = rw (e, f) h

  pub agrees : {u : World} {q : Call} {a : CallReply} → Plays (shown n b) q a u → Agrees n b q a u
  agrees (by_open {r} d) = agreed d (agrees-opening r)
  agrees (by_add {x} d) = agreed d (agrees-adding x)
  agrees (by_take_back d) = agreed d agrees-taking
  agrees (by_verdict e) = rw e agrees-asking
  agrees (by_next lent d) = agrees-ahead lent d
