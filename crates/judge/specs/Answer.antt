-- The one answer to a text, as a function: its least fault, or the tree that it spells (`Fault.Answers`). Every text has one (`answered`), and only one
-- (`answer-is`).
use Rattle.std.specs.Prelude.{◌≡◌}
use Rattle.fields.specs.Bytes.{Text}
use Rattle.model.specs.{Fault.Answer, Fault.Answers}
use Rattle.model.proofs.FaultAnswered.{answers-once, an-answer}

pub answer : Text → Answer
answer x = (an-answer x).0

pub answered : (x : Text) → Answers x (answer x)
unfolding answer
answered x = (an-answer x).1

pub answer-is : (x : Text) (a : Answer) → Answers x a → a ≡ answer x
answer-is x a h = answers-once x a (answer x) h (answered x)
