use Rattle.std.proofs.Common.{arith}
use Rattle.canonical.specs.Writer.Accepted.{nil-put}
use Rattle.canonical.proofs.write.write_nothing.Goals as goal

pub returns-clause-value : goal.returns-clause-value
returns-clause-value c =
    (nil-put c.args.buffer.now c.put.new.buffer c.put.result (omega arith) c.put.ensures.value c.put.ensures.buffer_after).0

pub returns-clause-buffer_after : goal.returns-clause-buffer_after
returns-clause-buffer_after c =
    (nil-put c.args.buffer.now c.put.new.buffer c.put.result (omega arith) c.put.ensures.value c.put.ensures.buffer_after).1
