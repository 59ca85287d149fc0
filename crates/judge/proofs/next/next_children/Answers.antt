-- The reply to what was read.
use Rattle.std.proofs.Common.{Ok, ap, refl}
use Rattle.std.proofs.lemmas.Result.{err_from_is_err_and}
use Rattle.judge.specs.Next.{children_next}
use Rattle.judge.proofs.NextCode.{refused-answer}
use Rattle.judge.proofs.ReplyRead.{read-both, read-fault, reply-refused, row_listed, fault-listed}
use Rattle.judge.proofs.next.next_children.Goals as goal

pub returns-in_err-read : goal.returns-in_err-read
unfolding children_next
returns-in_err-read c =
    let p = err_from_is_err_and c.from_residual.result c.from_residual.ensures.1 in
    rw (p.1, p.2) (refused-answer _ c.args.row.now (reply-refused c.in_err-read.ensures _ refl))

pub root_next-set-requires : goal.root_next-set-requires
root_next-set-requires c = (read-both c.in_ok-read.ensures (ap Ok c.in-Whole.is)).sized

pub list_names-requires : goal.list_names-requires
list_names-requires c = (read-both c.in_ok-read.ensures (ap Ok c.in-Whole.is)).sized.few_names

pub returns-in_err-list_names-in-Whole : goal.returns-in_err-list_names-in-Whole
returns-in_err-list_names-in-Whole c =
    let h = row_listed (read-both c.in_ok-read.ensures (ap Ok c.in-Whole.is)) c.root_next-set.ensures c.args.row.now c.list_names.ensures in
    let p = err_from_is_err_and c.from_residual-in_err-list_names-in-Whole.result c.from_residual-in_err-list_names-in-Whole.ensures.1 in
    rw (p.1, p.2) (rw c.in_err-list_names-in-Whole.was at h)

pub returns-in_ok-list_names-in-Whole : goal.returns-in_ok-list_names-in-Whole
returns-in_ok-list_names-in-Whole c =
    let h = row_listed (read-both c.in_ok-read.ensures (ap Ok c.in-Whole.is)) c.root_next-set.ensures c.args.row.now c.list_names.ensures in
    rw c.in_ok-list_names-in-Whole.was at h

pub returns-in-Faulty : goal.returns-in-Faulty
returns-in-Faulty c = fault-listed (read-fault c.in_ok-read.ensures (ap Ok c.in-Faulty.is)) c.args.row.now
