-- What each call of a session answers, and what it leaves: document 01, "Sessions", and document 02, W1, with refusals 40 and 42 to 46 in the order
-- tried. The methods of src/session.rt promise just this, of any session and any trail.
pub mod Laws
use mathlib.Core.{Path.◌≡◌, Bool.Bool, Bool.true, Bool.cond, Bool.◌&&◌, List.List, List.[], List.◌∷◌}
use Rattle.std.specs.Prelude.{ℕ, ◌+◌, ◌-◌, leb, ltb, eqb, length, take, drop, set, replicate, Result, Ok, Err}
use Rattle.judge.specs.{declared.fault.JudgeFault.JudgeFault, Row.upto, Next.next_names, Next.NextReply, Next.next_listed}
use Rattle.judge.specs.Next.{next_refused}
use Rattle.judge.specs.declared.fault.JudgeFault.TheVariants.{Unreadable, BadTrail, UnknownName, NoRoom, NothingToTakeBack, ShortRow}
use Rattle.sessions.specs.{declared.session.Session.Session, declared.session.Step.Step}
use Rattle.sessions.specs.Book.{Call, opening, adding, taking_back, asking, looking_ahead, room}
use Rattle.model.specs.{declared.verdict.Verdict.Verdict, Word.Word, Verdict.verdict, Rule.names, Rule.rule_type, Check.readable}

-- the places of a trail
abbrev pub Trail : Type 0
Trail = List ℕ

-- what a call is answered: nothing more, or the refusal
abbrev pub Outcome : Type 0
Outcome = Result (Unit {0}) JudgeFault

-- what a free place holds
abbrev pub free : ℕ
free = 65535

abbrev pub all_free : Trail → Bool
all_free [] = true
all_free (x ∷ t) = eqb x free && all_free t

-- 42 does not stand, for so many children and names: no more children than room, no filled place above the names, and every other place free, past
-- the room too (`Refusal.Intact`, `Session.Laws.intact-tells`)
unfoldable pub intact : ℕ → ℕ → Trail → Bool
intact children named t = leb children (room (length t)) && (upto named (take children t) && all_free (drop children t))

-- a condition, and the refusal where it does not hold
abbrev pub check : Bool → JudgeFault → Outcome
check b f = cond b (Ok tt) (Err f)

abbrev pub ◌then◌ : Outcome → Outcome → Outcome
◌then◌ (Ok u) o = o
◌then◌ (Err f) o = Err f

infixr 20 ◌then◌
-- 40 and 42
unfoldable pub checked : Session → Trail → Outcome
checked s t = check (readable s.rule) Unreadable then check (intact s.children (names s.rule) t) BadTrail

-- the names that may come next behind the children
abbrev pub names_ahead : Session → Trail → Word
names_ahead s t = next_names (rule_type s.rule) (names s.rule) (take s.children t)

-- what each call tries, in this order
unfoldable pub outcome : Call → Session → Trail → Outcome
outcome (opening r) s t = check (readable r) Unreadable
outcome (adding x) s t = checked s t then check (leb x (names s.rule)) UnknownName then check (ltb s.children (room (length t))) NoRoom
outcome taking_back s t = checked s t then check (ltb 0 s.children) NothingToTakeBack
outcome asking s t = checked s t
outcome (looking_ahead k) s t = checked s t then check (leb (length (names_ahead s t)) k) ShortRow

-- what is new where the call was done, and what was where it was refused
abbrev pub when_done : {A : Type 0} → Outcome → A → A → A
when_done (Ok u) new old = new
when_done (Err f) new old = old

abbrev pub new_session : Call → Session → Session
new_session (opening r) s = record { rule = r; children = 0 }
new_session (adding x) s = record { rule = s.rule; children = s.children + 1 }
new_session taking_back s = record { rule = s.rule; children = s.children - 1 }
new_session asking s = s
new_session (looking_ahead k) s = s

abbrev pub new_trail : Call → Session → Trail → Trail
new_trail (opening r) s t = replicate (length t) free
new_trail (adding x) s t = set t s.children x
new_trail taking_back s t = set t (s.children - 1) free
new_trail asking s t = t
new_trail (looking_ahead k) s t = t

-- the answer of opening, adding and taking back, and the trail at exit
abbrev pub call_step : Call → Session → Trail → Step
call_step q s t = record { session = when_done (outcome q s t) (new_session q s) s; outcome = outcome q s t }

abbrev pub trail_after : Call → Session → Trail → Trail
trail_after q s t = when_done (outcome q s t) (new_trail q s t) t

-- what opening, adding and taking back promise of the answer r and the trail t' at exit
abbrev pub Does : Call → Session → Trail → Step → Trail → Type 0
Does q s t r t' = (r ≡ call_step q s t) × (t' ≡ trail_after q s t)

-- the answer of asking
abbrev pub judged_by : Outcome → Session → Trail → Result Verdict JudgeFault
judged_by (Ok u) s t = Ok (verdict (rule_type s.rule) (take s.children t))
judged_by (Err f) s t = Err f

abbrev pub asked : Session → Trail → Result Verdict JudgeFault
asked s t = judged_by (outcome asking s t) s t

-- what asking promises of the answer a; it hands back no session and writes nothing lent
abbrev pub Gives : Session → Trail → Result Verdict JudgeFault → Type 0
Gives s t a = a ≡ asked s t

-- the reply of looking ahead with a row of k places lent; what is handed back of it, and what is written into that row, is `HandsNext` (judge/Next)
abbrev pub listed_by : Outcome → Session → Trail → NextReply
listed_by (Ok u) s t = next_listed (names_ahead s t)
listed_by (Err f) s t = next_refused f

abbrev pub next_asked : Session → Trail → ℕ → NextReply
next_asked s t k = listed_by (outcome (looking_ahead k) s t) s t
