-- The reply to what was read.
use Rattle.std.proofs.Common.{Ok, ap, sym, refl}
use Rattle.std.proofs.lemmas.Result.{err_from_is_err_and}
use Rattle.judge.specs.FirstFault.{children_fault}
use Rattle.judge.proofs.ReplyRead.{read-both, read-fault, reply-refused, row-searched, fault-searched}
use Rattle.judge.proofs.first_fault.search_children.Goals as goal

pub returns-in_err-read_children : goal.returns-in_err-read_children
unfolding children_fault
returns-in_err-read_children c =
    let p = err_from_is_err_and c.from_residual.result c.from_residual.ensures.1 in
    rw (p.1, p.2) (sym (reply-refused c.in_err-read_children.ensures _ refl))

pub returns-in-Whole : goal.returns-in-Whole
returns-in-Whole c = row-searched (read-both c.in_ok-read_children.ensures (ap Ok c.in-Whole.is))

pub returns-in-Faulty : goal.returns-in-Faulty
returns-in-Faulty c = fault-searched (read-fault c.in_ok-read_children.ensures (ap Ok c.in-Faulty.is))
