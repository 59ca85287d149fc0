-- There is one child more than there are tabs.
use Rattle.fields.specs.Children.Laws.{count-few, count-many}
use Rattle.fields.proofs.children.count_children.Goals as goal

pub returns-then-tabs-lt-MAX_ROW : goal.returns-then-tabs-lt-MAX_ROW
returns-then-tabs-lt-MAX_ROW c = count-few c.args.children.now _ (cc) c.times_in-tabs.ensures c.if-tabs-lt-MAX_ROW.true

pub returns-else-tabs-lt-MAX_ROW : goal.returns-else-tabs-lt-MAX_ROW
returns-else-tabs-lt-MAX_ROW c = count-many c.args.children.now _ (cc) c.times_in-tabs.ensures c.if-tabs-lt-MAX_ROW.false
