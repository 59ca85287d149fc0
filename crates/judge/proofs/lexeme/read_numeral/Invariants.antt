-- the digits from i on say what number comes behind the value so far
use Rattle.judge.specs.Reading.Lexeme.Laws.{Rest}
use Rattle.judge.proofs.lexeme.read_numeral.Given as goal

abbrev pub invariant-loop-i : goal.invariant-loop-i
invariant-loop-i l = Rest l.text l.at l.value l.i
