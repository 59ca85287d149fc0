-- The table of document 01, with 46 of document 02, for the calls of a session: when each refusal stands, and which one a call is answered.
use mathlib.Core.{Path.◌≡◌, List.[], List.◌∷◌}
use Rattle.std.specs.Prelude.{ℕ, ◌≤◌, ◌<◌, length, take, drop, Result, Ok, Err}
use Rattle.model.specs.{declared.rule.Rule.Rule, declared.verdict.Verdict.Verdict, Word.Word, Types.Ty, Verdict.Says, Rule.Readable, Rule.Means, Rule.names}
use Rattle.judge.specs.{declared.fault.JudgeFault.JudgeFault, Row.Upto, Row.judge_number, Next.NextNames, Next.NextReply}
use Rattle.judge.specs.Next.{next_listed, next_refused}
use Rattle.judge.specs.declared.fault.JudgeFault.TheVariants.{Unreadable, BadTrail, UnknownName, NoRoom, NothingToTakeBack, ShortRow}
use Rattle.sessions.specs.{declared.session.Session.Session, Session.Outcome, Session.Trail, Session.free}
use Rattle.sessions.specs.Book.{Call, opening, adding, taking_back, asking, looking_ahead, room}
use Rattle.fields.specs.Least.{NoneStands, Least}

-- every place is free
abbrev pub AllFree : Trail → Type 0
AllFree [] = Unit {0}
AllFree (x ∷ t) = (x ≡ free) × AllFree t

-- 42 does not stand: no more children than room, no filled place above the names, every other place free
abbrev pub Intact : ℕ → ℕ → Trail → Type 0
Intact children named t = (children ≤ room (length t)) × Upto named (take children t) × AllFree (drop children t)

-- every call but opening looks at the session that it is given
abbrev pub Later : Call → Type 0
Later (opening r) = ⊥
Later (adding x) = Unit {0}
Later taking_back = Unit {0}
Later asking = Unit {0}
Later (looking_ahead k) = Unit {0}

-- a refusal that the call tries, and when it stands
pub data CallStands (s : Session) (t : Trail) : Call → JudgeFault → Type 0 where
  no_rule : {r : Rule} → ¬ Readable r → CallStands s t (opening r) Unreadable
  bad_rule : {q : Call} → Later q → ¬ Readable s.rule → CallStands s t q Unreadable
  bad_trail : {q : Call} → Later q → ¬ Intact s.children (names s.rule) t → CallStands s t q BadTrail
  high_number : {x : ℕ} → names s.rule < x → CallStands s t (adding x) UnknownName
  full_room : {x : ℕ} → room (length t) ≤ s.children → CallStands s t (adding x) NoRoom
  none_added : s.children ≡ 0 → CallStands s t taking_back NothingToTakeBack
  few_places : {k : ℕ} {A : Ty} {l : Word} → Means s.rule A → NextNames A (names s.rule) (take s.children t) l → k < length l
      → CallStands s t (looking_ahead k) ShortRow

-- what a call is answered: the refusal of the smallest number that stands, if one does
abbrev pub Tried : Session → Trail → Call → Outcome → Type 0
Tried s t q (Ok u) = NoneStands (CallStands s t q)
Tried s t q (Err f) = Least judge_number (CallStands s t q) f

-- what asking is answered: else the verdict by the meaning
abbrev pub Asks : Session → Trail → Result Verdict JudgeFault → Type 0
Asks s t (Ok v) = NoneStands (CallStands s t asking) × ((A : Ty) × Means s.rule A × Says A (take s.children t) v)
Asks s t (Err f) = Least judge_number (CallStands s t asking) f

-- what looking ahead with a row of k places lent is answered: else the names that may come next by the meaning
abbrev pub AsksNext : Session → Trail → ℕ → NextReply → Type 0
AsksNext s t k (next_listed l) =
    NoneStands (CallStands s t (looking_ahead k)) × ((A : Ty) × Means s.rule A × NextNames A (names s.rule) (take s.children t) l)
AsksNext s t k (next_refused f) = Least judge_number (CallStands s t (looking_ahead k)) f
