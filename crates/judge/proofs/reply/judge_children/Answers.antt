-- The reply to what was read.
use Rattle.std.proofs.Common.{Ok, ap, sym, refl}
use Rattle.std.proofs.lemmas.Result.{err_from_is_err_and}
use Rattle.judge.specs.Reply.{children_reply}
use Rattle.judge.proofs.ReplyRead.{read-both, read-fault, reply-refused, row-judged, fault-judged}
use Rattle.judge.proofs.reply.judge_children.Goals as goal

pub returns-in_err-read : goal.returns-in_err-read
unfolding children_reply
returns-in_err-read c =
    let p = err_from_is_err_and c.from_residual.result c.from_residual.ensures.1 in
    rw (p.1, p.2) (sym (reply-refused c.in_err-read.ensures _ refl))

pub verdict_by-requires : goal.verdict_by-requires
verdict_by-requires c = (read-both c.in_ok-read.ensures (ap Ok c.in-Whole.is)).sized

pub returns-in-Whole : goal.returns-in-Whole
returns-in-Whole c = row-judged (read-both c.in_ok-read.ensures (ap Ok c.in-Whole.is)) c.verdict_by.ensures

pub returns-in-Faulty : goal.returns-in-Faulty
returns-in-Faulty c = fault-judged (read-fault c.in_ok-read.ensures (ap Ok c.in-Faulty.is))
