-- Whatever was read of the children, the outcome is that of the model text.
use Rattle.std.proofs.Common.{Err, ap, sym, ◌∙◌}
use Rattle.judge.proofs.ReplyRead.{outcome_of, outcome-told}
use Rattle.judge.proofs.reading.model_outcome.Goals as goal

pub returns-in-Ok : goal.returns-in-Ok
returns-in-Ok c = outcome-told c.in-Ok.ensures

pub returns-in-Err-Model : goal.returns-in-Err-Model
returns-in-Err-Model c = sym (ap (λ e. outcome_of (Err e)) c.in-Err-Model.field-0-is) ∙ outcome-told c.in-Err-Model.ensures

pub returns-in-Err-Children : goal.returns-in-Err-Children
returns-in-Err-Children c = sym (ap (λ e. outcome_of (Err e)) c.in-Err-Children.field-0-is) ∙ outcome-told c.in-Err-Children.ensures
