-- Each answer of the member reader says what the whole text's answer is (`Reading.Whole`).
use Rattle.std.proofs.Common.{sym, length}
use borrow.Author.Tests.{eqb-false}
use Rattle.std.proofs.lemmas.Result.{err_from_is_err_and}
use Rattle.judge.proofs.ReadingWhole.{start-ready, more-refused, low_read, depth-read, deep-refused}
use Rattle.judge.proofs.reader.read_whole.Goals as goal
use Rattle.judge.proofs.reader.read_whole.Goals.{else-past-gt-MAX_DEPTH-via-then-past-gt-MAX_DEPTH+else-depth_in-gt-MAX_DEPTH}
use Rattle.judge.proofs.reader.read_whole.Goals.{else-past-gt-MAX_DEPTH-via-else-past-gt-MAX_DEPTH}

pub member-requires : goal.member-requires
member-requires c = start-ready c.requires (eqb-false (length c.args.text.now) 0 (sym c.if-is_empty.ensures)) c.if-text-gt-MAX_TEXT.false

pub returns-in_err-past : goal.returns-in_err-past
returns-in_err-past c =
    let p = err_from_is_err_and c.from_residual.result c.from_residual.ensures.1 in
    rw (p.1, p.2) c.in_err-past.ensures

pub returns-then-end-text : goal.returns-then-end-text
returns-then-end-text c = rw c.new-then-end-text.ensures (more-refused c.in_ok-past.ensures c.if-end-text.true)

pub returns-then-depth_in-gt-MAX_DEPTH : goal.returns-then-depth_in-gt-MAX_DEPTH
returns-then-depth_in-gt-MAX_DEPTH c =
    rw c.new-then-depth_in-gt-MAX_DEPTH.ensures
    (deep-refused c.in_ok-past.ensures c.if-end-text.false c.depth_in.ensures c.if-depth_in-gt-MAX_DEPTH.true)

pub returns : goal.returns
returns c =
    elim c.else-past-gt-MAX_DEPTH.branch [
      | else-past-gt-MAX_DEPTH-via-then-past-gt-MAX_DEPTH+else-depth_in-gt-MAX_DEPTH w ↦
          depth-read c.in_ok-past.ensures c.if-end-text.false w.depth_in.ensures w.if-depth_in-gt-MAX_DEPTH.false
      | else-past-gt-MAX_DEPTH-via-else-past-gt-MAX_DEPTH w ↦ low_read c.in_ok-past.ensures c.if-end-text.false w.if-past-gt-MAX_DEPTH.false
    ]
