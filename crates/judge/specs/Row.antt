-- What a judged row is answered: document 01, "Verdicts" and refusals 40, 41 and 43, tried in this order.
pub mod Laws
pub mod Attribute
pub mod Tally
pub mod Joined
pub mod Stack
pub mod Root
pub mod Pass
use mathlib.Core.{List.[], List.◌∷◌, Bool.Bool, Bool.true, Bool.cond, Bool.◌&&◌}
use Rattle.std.specs.Prelude.{ℕ, ◌<◌, ◌≤◌, Result, Ok, Err}
use lib.{ListN.length, Dec.leb}
use Rattle.judge.specs.{declared.fault.JudgeFault.JudgeFault}
use Rattle.judge.specs.declared.fault.JudgeFault.TheVariants.{Unreadable, LongRow, BadTrail, UnknownName, NoRoom, NothingToTakeBack, ShortRow}
use Rattle.model.specs.{declared.rule.Rule.Rule, Word.Word, Types.Ty, Verdict.Says, Verdict.verdict, Rule.Readable, Rule.Means, Rule.names, Rule.rule_type}
use Rattle.model.specs.{Check.readable, declared.verdict.Verdict.Verdict}
use Rattle.fields.specs.Limits.{max_row}

-- document 01's numbers, and 46 of document 02
abbrev pub judge_number : JudgeFault → ℕ
judge_number Unreadable = 40
judge_number LongRow = 41
judge_number BadTrail = 42
judge_number UnknownName = 43
judge_number NoRoom = 44
judge_number NothingToTakeBack = 45
judge_number ShortRow = 46

-- no number is above n
abbrev pub Upto : ℕ → Word → Type 0
Upto n [] = Unit {0}
Upto n (x ∷ w) = (x ≤ n) × Upto n w

-- the answer to the row w by the rule r (`Ends.judged-exactly`: there is one, and only one)
pub data Judges (r : Rule) (w : Word) : Result Verdict JudgeFault → Type 0 where
  -- 40
  unreadable : ¬ Readable r → Judges r w (Err Unreadable)
  -- 41
  long_row : Readable r → max_row < length w → Judges r w (Err LongRow)
  -- 43
  unknown_name : Readable r → length w ≤ max_row → ¬ Upto (names r) w → Judges r w (Err UnknownName)
  by_meaning : {A : Ty} {v : Verdict} → Means r A → length w ≤ max_row → Upto (names r) w → Says A w v → Judges r w (Ok v)

-- the same as a function
abbrev pub upto : ℕ → Word → Bool
upto n [] = true
upto n (x ∷ w) = leb x n && upto n w

-- 40, 41 and 43, or how many names the rule has
unfoldable pub row_tested : Rule → Word → Result ℕ JudgeFault
row_tested r w =
    cond (readable r)
    (cond (leb (length w) max_row) (cond (upto (names r) w) (Ok (names r)) (Err UnknownName)) (Err LongRow))
    (Err Unreadable)

abbrev pub judged_if : Verdict → Result ℕ JudgeFault → Result Verdict JudgeFault
judged_if v (Ok n) = Ok v
judged_if v (Err f) = Err f

unfoldable pub judged : Rule → Word → Result Verdict JudgeFault
judged r w = judged_if (verdict (rule_type r) w) (row_tested r w)
