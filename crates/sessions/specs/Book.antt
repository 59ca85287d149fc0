-- The book that a list of calls agrees with: document 01, "Sessions", and document 02, W1. It is fed the trail's length and, for each call, which one
-- it is and the rule or name number that it is given, or how many places it is lent; never a session, an answer or a place of the trail or of another
-- lent row. `Ends.calls-keep-book` says that sessions agree with it.
pub mod Laws
use mathlib.Core.{Path.◌≡◌, List.List, List.[], List.◌∷◌, List.◌++◌}
use Rattle.std.specs.Prelude.{ℕ, ◌≤◌, ◌<◌, min, length}
use Rattle.model.specs.{declared.rule.Rule.Rule, declared.verdict.Verdict.Verdict, Word.Word, Types.Ty, Verdict.Says, Rule.Readable, Rule.Means, Rule.names}
use Rattle.judge.specs.Next.{NextNames}
use Rattle.fields.specs.Limits.{max_row}

pub data Call : Type 0 where
  opening : Rule → Call
  adding : ℕ → Call
  taking_back asking : Call
  -- asking for the names that may come next, with a row of so many places lent
  looking_ahead : ℕ → Call

-- a verdict, the names that may come next, a refusal with the table's number, or none of these
pub data CallReply : Type 0 where
  says : Verdict → CallReply
  lists : Word → CallReply
  refuses : ℕ → CallReply
  nothing : CallReply

-- It keeps a rule and a row of name numbers, 0 standing for a name that the model lacks.
pub record Book : Type 0 where
  pub rule : Rule
  pub row : Word

abbrev pub book : Rule → Word → Book
book r w = record { rule = r; row = w }

-- the trail's length, or 4,096 if that is less
abbrev pub room : ℕ → ℕ
room n = min n max_row

-- One call: the book before it, the call, the book's reply and the book after it. n is the trail's length.
pub data Enters (n : ℕ) : Book → Call → CallReply → Book → Type 0 where
  -- Opening: if no model text reads into the given rule, 40, and nothing changes. Else that rule is kept and the row is empty.
  not_opened : {b : Book} {r : Rule} → ¬ Readable r → Enters n b (opening r) (refuses 40) b
  opens : {b : Book} {r : Rule} → Readable r → Enters n b (opening r) nothing (book r [])
  -- Adding: a number above the kept rule's names is 43; else, if the row is as long as the room, 44. Else the number joins the row's end.
  not_named : {r : Rule} {w : Word} {x : ℕ} → names r < x → Enters n (book r w) (adding x) (refuses 43) (book r w)
  no_space : {r : Rule} {w : Word} {x : ℕ} → x ≤ names r → length w ≡ room n → Enters n (book r w) (adding x) (refuses 44) (book r w)
  adds : {r : Rule} {w : Word} {x : ℕ} → x ≤ names r → ¬ length w ≡ room n → Enters n (book r w) (adding x) nothing (book r (w ++ (x ∷ [])))
  -- Taking back: from an empty row 45. Else the last number goes.
  none_to_take : {r : Rule} → Enters n (book r []) taking_back (refuses 45) (book r [])
  takes : {r : Rule} {w : Word} (x : ℕ) → Enters n (book r (w ++ (x ∷ []))) taking_back nothing (book r w)
  -- Asking is never refused. It gives the verdict on the row by any model text that reads into the kept rule.
  asks : {r : Rule} {w : Word} {A : Ty} {v : Verdict} → Means r A → Says A w v → Enters n (book r w) asking (says v) (book r w)
  -- Looking ahead: if the lent places are fewer than the names that may come next by any model text that reads into the kept rule, 46. Else it gives
  -- these names. The room plays no part.
  not_listed : {r : Rule} {w l : Word} {A : Ty} {k : ℕ} → Means r A → NextNames A (names r) w l → k < length l
      → Enters n (book r w) (looking_ahead k) (refuses 46) (book r w)
  lists_next : {r : Rule} {w l : Word} {A : Ty} {k : ℕ} → Means r A → NextNames A (names r) w l → length l ≤ k
      → Enters n (book r w) (looking_ahead k) (lists l) (book r w)

-- A list of calls, with the book's reply to each (`Ends.book-once`: there are no other replies, and no other book at the end).
pub data Keeps (n : ℕ) : Book → List Call → List CallReply → Book → Type 0 where
  done : {b : Book} → Keeps n b [] [] b
  next : {b c d : Book} {q : Call} {a : CallReply} {qs : List Call} {rs : List CallReply}
      → Enters n b q a c → Keeps n c qs rs d → Keeps n b (q ∷ qs) (a ∷ rs) d
