-- The names that may come next behind a row: document 02, W1, and refusal 46. Below it:
--   Laws     there is one list and one reply, and the functions compute them; a dead row has none
--   Set      a set of names as a number
--   Ahead    what the pass over the nodes computes
--   Longer   what the tests say of a row with a name more
--   Meaning  the set that the pass ends with has just the names that may come next
-- proofs/NextCode.antt has what is known where names are counted and listed.
pub mod Laws
pub mod Set
pub mod Ahead
pub mod Longer
pub mod Meaning
use mathlib.Core.{Path.◌≡◌, Logic.◌⊎◌, Logic.◌↔◌, List.[], List.◌∷◌, List.◌++◌, Bool.Bool, Bool.true, Bool.false, Bool.cond}
use Rattle.std.specs.Prelude.{ℕ, zero, suc, ◌<◌, ◌≤◌, Result, Ok, Err}
use lib.{Dec.leb, ListN.length, ListN.drop}
use Rattle.fields.specs.{Bytes.Text, Limits.max_row}
use Rattle.model.specs.{declared.rule.Rule.Rule, declared.verdict.Verdict.Verdict, Word.Word, Word.keep, Types.Ty, Verdict.Says, Verdict.verdict}
use Rattle.model.specs.{Rule.Means, Rule.names, Rule.rule_type, Syntax.written_names, Model.model_of, Model.type_of}
use Rattle.model.specs.declared.verdict.Verdict.TheVariants.{Complete, Open, Dead}
use Rattle.judge.specs.{declared.fault.JudgeFault.JudgeFault, declared.fault.JudgeFault.TheVariants.ShortRow}
use Rattle.judge.specs.{Row.Upto, Row.Judges, Row.judged}
use Rattle.judge.specs.declared.fault.NextFault.{NextFault, TheVariants.Text as BadText, TheVariants.Row as BadRow}
use Rattle.judge.specs.declared.fault.TextFault.TheVariants.{Model as BadModel, Children as BadChildren}
use Rattle.judge.specs.Reply.{row, Reply, model_refused, children_refused, good, Replies, reply, row_in}

-- x may come: with x behind it, the row is complete or open
abbrev pub MayCome : Ty → Word → ℕ → Type 0
MayCome A w x = Says A (w ++ (x ∷ [])) Complete ⊎ Says A (w ++ (x ∷ [])) Open

-- each number is above the one before it, the first above m
abbrev pub RisesFrom : ℕ → Word → Type 0
RisesFrom m [] = Unit {0}
RisesFrom m (x ∷ l) = (m < x) × RisesFrom x l

abbrev pub Among : ℕ → Word → Type 0
Among x [] = ⊥
Among x (y ∷ l) = (x ≡ y) ⊎ Among x l

-- l lists, rising, just those of the names 1 to n that may come behind the row w (`Next.Laws.list-exactly`: there is one such list, and only one)
pub record NextNames (A : Ty) (n : ℕ) (w l : Word) : Type 0 where
  pub rises : RisesFrom 0 l
  pub listed : (x : ℕ) → Among x l ↔ ((1 ≤ x) × (x ≤ n) × MayCome A w x)

-- the same as a function
abbrev pub is_live : Verdict → Bool
is_live Complete = true
is_live Open = true
is_live Dead = false

unfoldable pub may_come : Ty → Word → ℕ → Bool
may_come A w x = is_live (verdict A (w ++ (x ∷ [])))

-- 1 to n
abbrev pub numbers_to : ℕ → Word
numbers_to zero = []
numbers_to (suc n) = numbers_to n ++ (suc n ∷ [])

unfoldable pub next_names : Ty → ℕ → Word → Word
next_names A n w = keep (may_come A w) (numbers_to n)

-- a list of names, or a refusal
pub data NextReply : Type 0 where
  next_listed : Word → NextReply
  next_refused : JudgeFault → NextReply

-- The reply where nothing else is refused, into a lent row of k places: 46 just where the list is longer.
pub data NextInto (A : Ty) (n : ℕ) (w : Word) (k : ℕ) : NextReply → Type 0 where
  all_listed : {l : Word} → NextNames A n w l → length l ≤ k → NextInto A n w k (next_listed l)
  -- 46
  row_too_short : {l : Word} → NextNames A n w l → k < length l → NextInto A n w k (next_refused ShortRow)

-- by a rule: refused as judging is, or by the meaning (`Ends.next-names-exactly`: there is one reply, and only one)
pub data JudgesNext (r : Rule) (w : Word) (k : ℕ) : NextReply → Type 0 where
  not_judged : {f : JudgeFault} → Judges r w (Err f) → JudgesNext r w k (next_refused f)
  next_by_meaning : {A : Ty} {a : NextReply} → Means r A → length w ≤ max_row → Upto (names r) w → NextInto A (names r) w k a → JudgesNext r w k a

-- by texts, the names numbered as they are written
abbrev pub ChildrenNextStands : Text → Text → ℕ → Reply NextReply → Type 0
ChildrenNextStands m c k = Replies row (λ t a. NextInto (type_of (model_of t)) (length (written_names t)) (row_in t c) k a) m c

-- the same as functions
abbrev pub fitted : ℕ → Word → NextReply
fitted k l = cond (leb (length l) k) (next_listed l) (next_refused ShortRow)

abbrev pub next_by : NextReply → Result Verdict JudgeFault → NextReply
next_by a (Ok v) = a
next_by a (Err f) = next_refused f

unfoldable pub next_judged : Rule → Word → ℕ → NextReply
next_judged r w k = next_by (fitted k (next_names (rule_type r) (names r) w)) (judged r w)

unfoldable pub children_next : Text → Text → ℕ → Reply NextReply
children_next m c k = reply row (λ t. fitted k (next_names (type_of (model_of t)) (length (written_names t)) (row_in t c))) m c

-- what is handed back: how many names are listed, or the refusal; and the lent row at exit: the list, then the places as they were
abbrev pub next_answer : NextReply → Result ℕ JudgeFault
next_answer (next_listed l) = Ok (length l)
next_answer (next_refused f) = Err f

abbrev pub row_after : NextReply → Word → Word
row_after (next_listed l) lent = l ++ drop (length l) lent
row_after (next_refused f) lent = lent

abbrev pub HandsNext : NextReply → Result ℕ JudgeFault → Word → Word → Type 0
HandsNext a r lent lent' = (r ≡ next_answer a) × (lent' ≡ row_after a lent)

abbrev pub row_answer : Result ℕ JudgeFault → Result ℕ NextFault
row_answer (Ok n) = Ok n
row_answer (Err f) = Err (BadRow f)

abbrev pub children_answer : Reply NextReply → Result ℕ NextFault
children_answer (model_refused f) = Err (BadText (BadModel f))
children_answer (children_refused f) = Err (BadText (BadChildren f))
children_answer (good a) = row_answer (next_answer a)

abbrev pub children_row_after : Reply NextReply → Word → Word
children_row_after (model_refused f) lent = lent
children_row_after (children_refused f) lent = lent
children_row_after (good a) lent = row_after a lent

abbrev pub HandsChildrenNext : Reply NextReply → Result ℕ NextFault → Word → Word → Type 0
HandsChildrenNext a r lent lent' = (r ≡ children_answer a) × (lent' ≡ children_row_after a lent)
