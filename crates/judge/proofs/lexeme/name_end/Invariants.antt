use Rattle.judge.specs.Reading.Lexeme.Laws.{NamePassed}
use Rattle.judge.proofs.lexeme.name_end.Given as goal

abbrev pub invariant-loop-i : goal.invariant-loop-i
invariant-loop-i l = NamePassed l.text l.at l.key l.i
