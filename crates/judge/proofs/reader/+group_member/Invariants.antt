-- The text left falls from a group to its members and with each turn of the loop: two calls at each place.
use Rattle.std.proofs.Common.{length, ◌+◌, ◌-◌, ◌*◌}
use Rattle.judge.specs.Reading.Walk.{AtMember, around, kept_in}
use Rattle.judge.proofs.reader.+group_member.Given as goal

abbrev pub decreases-group : goal.decreases-group
decreases-group l = (length l.text.now - l.c.at) * 2 + 1

abbrev pub decreases-member : goal.decreases-member
decreases-member l = (length l.text.now - l.c.at) * 2

abbrev pub invariant-group-loop-past : goal.invariant-group-loop-past
invariant-group-loop-past l =
    AtMember l.text l.work (kept_in l.table) l.fn.c.at l.next l.left l.node l.sign l.members l.height (around l.text l.fn.c.at)

abbrev pub decreases-group-loop-past : goal.decreases-group-loop-past
decreases-group-loop-past l = length l.text - l.next.at
