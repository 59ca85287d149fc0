-- Lists of calls on one session and one trail: document 01, "Sessions". Each call gets the session that the last opening, addition or take-back
-- handed back, refused or not, and the whole trail, which nothing else writes. Of an answer, a trail and another lent row at exit only the method's
-- promise is known.
use Rattle.std.specs.Prelude.{List, [], ◌∷◌, ◌++◌, ℕ, ◌-◌, length, take, replicate, Result, Ok, Err}
use Rattle.model.specs.{declared.rule.Rule.Rule, declared.verdict.Verdict.Verdict, Word.Word}
use Rattle.judge.specs.{declared.fault.JudgeFault.JudgeFault, Row.judge_number, Next.HandsNext}
use Rattle.sessions.specs.{declared.session.Session.Session, declared.session.Step.Step}
use Rattle.sessions.specs.Book.{Call, opening, adding, taking_back, asking, looking_ahead, CallReply, says, lists, refuses, nothing, Book}
use Rattle.sessions.specs.Session.{Outcome, Trail, free, Does, Gives, next_asked}

-- a session and the trail that is lent with it
pub record World : Type 0 where
  pub session : Session
  pub trail : Trail

abbrev pub world : Session → Trail → World
world s t = record { session = s; trail = t }

-- what an answer says: a verdict, the names that may come next, a refusal with the table's number, or none of these
abbrev pub of_outcome : Outcome → CallReply
of_outcome (Ok u) = nothing
of_outcome (Err f) = refuses (judge_number f)

abbrev pub of_judged : Result Verdict JudgeFault → CallReply
of_judged (Ok v) = says v
of_judged (Err f) = refuses (judge_number f)

-- the names stand in the first places of the row that was lent for them
abbrev pub of_next : Result ℕ JudgeFault → Word → CallReply
of_next (Ok n) row = lists (take n row)
of_next (Err f) row = refuses (judge_number f)

-- One call of a method: the world before it, the call, its reply and the world after it. Opening, adding and taking back each hand back the session as
-- it then stands; asking hands back no session and writes nothing lent; looking ahead hands back no session and writes the row that it is lent for the
-- names alone, never the trail.
pub data Plays (u : World) : Call → CallReply → World → Type 0 where
  by_open : {r : Rule} {a : Step} {t : Trail}
      → Does (opening r) u.session u.trail a t → Plays u (opening r) (of_outcome a.outcome) (world a.session t)
  by_add : {x : ℕ} {a : Step} {t : Trail}
      → Does (adding x) u.session u.trail a t → Plays u (adding x) (of_outcome a.outcome) (world a.session t)
  by_take_back : {a : Step} {t : Trail}
      → Does taking_back u.session u.trail a t → Plays u taking_back (of_outcome a.outcome) (world a.session t)
  by_verdict : {a : Result Verdict JudgeFault} → Gives u.session u.trail a → Plays u asking (of_judged a) u
  by_next : {a : Result ℕ JudgeFault} {lent' : Word} (lent : Word)
      → HandsNext (next_asked u.session u.trail (length lent)) a lent lent' → Plays u (looking_ahead (length lent)) (of_next a lent') u

-- A list of calls, with the reply to each: every call gets the world that the one before it left.
pub data PlaysAll : World → List Call → List CallReply → World → Type 0 where
  no_more : {u : World} → PlaysAll u [] [] u
  and_then : {u₀ u₁ u₂ : World} {q : Call} {a : CallReply} {qs : List Call} {rs : List CallReply}
      → Plays u₀ q a u₁ → PlaysAll u₁ qs rs u₂ → PlaysAll u₀ (q ∷ qs) (a ∷ rs) u₂

-- the world that shows a book in a trail of n places: the book's rule, as many children as the row is long, the row in the first places and every
-- other place free, past the room too
abbrev pub shown : ℕ → Book → World
shown n b = world (record { rule = b.rule; children = length b.row }) (b.row ++ replicate (n - length b.row) free)
