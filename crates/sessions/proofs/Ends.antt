-- The ends: what is proved of every session, trail and list of calls. Each proof is a citation.
use mathlib.Core.{Path.◌≡◌, Logic.◌↔◌, List.List, List.[], List.◌∷◌, List.map}
use Rattle.std.specs.Prelude.{ℕ, suc, ◌≤◌, length, replicate, Result, Ok}
use Rattle.std.proofs.lemmas.List.{length-map}
use Rattle.model.specs.{declared.rule.Rule.Rule, declared.verdict.Verdict.Verdict, Word.Word, Types.Ty, Verdict.Says, Rule.Means, Rule.names, Syntax.Syntax}
use Rattle.model.specs.{Syntax.written_names, Syntax.number_in, Fault.Answers, Fault.accepted, Model.model_of, Model.type_of}
use Rattle.judge.specs.{declared.fault.JudgeFault.JudgeFault, Row.Upto, Reading.reading, Reading.parts_of}
use Rattle.judge.specs.{Named.row_of, Next.NextReply}
use Rattle.judge.specs.Named.Laws.{rule-means, row_named, row_written}
use Rattle.sessions.specs.{declared.session.Session.Session, Book.Laws.keeps-once, Refusal.Tried, Refusal.Asks}
use Rattle.sessions.specs.{Refusal.AsksNext, Calls.World, Calls.Plays}
use Rattle.sessions.proofs.RefusalLaws.{outcome-is, asked_is, next_is}
use Rattle.sessions.specs.{Calls.PlaysAll, Calls.shown}
use Rattle.sessions.specs.Session.{Outcome, Trail, outcome, asked, Gives, next_asked}
use Rattle.sessions.proofs.CallsTheorem.{plays-all, agrees-with-book, judges-row}
use Rattle.sessions.specs.Book.{Call, opening, adding, CallReply, nothing, Book, book, room, Keeps}
use Rattle.fields.specs.Bytes.{Text}

-- Demand 1, sessions: a call of any session with any trail is refused just as the table says, and asking is else answered by the meaning.
pub refused-exactly : (s : Session) (t : Trail) (q : Call) (o : Outcome) → (outcome q s t ≡ o) ↔ Tried s t q o
refused-exactly = outcome-is

pub asked-exactly : (s : Session) (t : Trail) (a : Result Verdict JudgeFault) → (asked s t ≡ a) ↔ Asks s t a
asked-exactly = asked_is

-- Document 02, W1: looking ahead, of any session with any trail and k places lent, is refused just as the table says, and else answered with the names
-- that may come next by the meaning.
pub next-exactly : (s : Session) (t : Trail) (k : ℕ) (a : NextReply) → (next_asked s t k ≡ a) ↔ AsksNext s t k a
next-exactly = next_is

-- Demand 3: whatever session and trail there were, every list of calls behind an opening that was not refused has the book's replies and leaves what
-- the book has, with any answers, sessions, trails and lent rows that the methods' promises allow. There are such for every list, and the book gives
-- one reply to each call.
pub calls-keep-book : {u₀ u₁ u₂ : World} {r : Rule} {qs : List Call} {rs : List CallReply}
    → Plays u₀ (opening r) nothing u₁ → PlaysAll u₁ qs rs u₂ →
    let n = length u₀.trail in
    (b : Book) × Keeps n (book r []) qs rs b × (u₂ ≡ shown n b) × (length b.row ≤ room n)
calls-keep-book = agrees-with-book

pub calls-answered : (u : World) (qs : List Call) → (rs : List CallReply) × (v : World) × PlaysAll u qs rs v
calls-answered = plays-all

pub book-once : {n : ℕ} {b c d : Book} {qs : List Call} {rs rs' : List CallReply} → Keeps n b qs rs c → Keeps n b qs rs' d
    → (rs ≡ rs') × (c ≡ d)
book-once = keeps-once

-- Demands 2 and 3, a row: opening a rule that means the type A, whatever session and trail there were, and adding the row's numbers one by one is
-- refused nowhere where there is room and no number is above the rule's names. Asking then gives the verdict v exactly when the row has it by the
-- meaning.
pub session-judges : {r : Rule} {A : Ty} {u₀ u : World} {rs : List CallReply} → Means r A → (w : Word) → Upto (names r) w
    → length w ≤ room (length u₀.trail) → PlaysAll u₀ (opening r ∷ map adding w) rs u
    → (rs ≡ replicate (suc (length w)) nothing) × ((v : Verdict) → Gives u.session u.trail (Ok v) ↔ Says A w v)
session-judges = judges-row

-- From text to verdict, as `text-judged` (judge/Ends) has it for `judge_row`: of every accepted text and every list of children as bytes, a session
-- that is opened with the text's rule and given the children's numbers by `number_of`, child by child, answers as the meaning of the text's tree says.
pub text-judged-by-session : {x : Text} {t : Syntax} {w₀ u : World} {rs : List CallReply} → Answers x (accepted t) → (cs : List Text)
    → length cs ≤ room (length w₀.trail) → PlaysAll w₀ (opening (reading x).rule ∷ map adding (row_of (parts_of x (reading x).names) cs)) rs u
    → (rs ≡ replicate (suc (length cs)) nothing)
    × ((v : Verdict) → Gives u.session u.trail (Ok v) ↔ Says (type_of (model_of t)) (row_of (written_names t) cs) v)
text-judged-by-session {x} a cs l ps =
    let w = row_of (parts_of x (reading x).names) cs in
    let n : length w ≡ length cs = length-map cs (number_in (parts_of x (reading x).names)) in
    let (e, s) = judges-row (rule-means a) w (row_named a cs) (rw n l) ps in
    (rw n at e, λ v. rw (row_written a cs) at (s v))
