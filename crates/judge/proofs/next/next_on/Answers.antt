-- The first pass finds a fault, and no name may come, or its tally tells the names, and they are listed. The search leaves the nodes as they were.
use Rattle.std.proofs.Common.{arith}
use Rattle.judge.specs.Packed.Laws.{same_nodes}
use Rattle.judge.proofs.RowTallyLaws.{fault-told}
use Rattle.judge.proofs.RowCode.{searchable, counts-known}
use Rattle.judge.proofs.NextCode.{next-stopped, next-tallied, hands-no-names}
use Rattle.judge.proofs.next.next_on.Goals as goal

pub search_row-requires : goal.search_row-requires
search_row-requires c = searchable c.requires

pub root_next-set-requires : goal.root_next-set-requires
root_next-set-requires c =
    let r = c.requires.sized in
    record {
      few = r.few;
      whole = omega (arith, r.whole, c.search_row.ensures.same_nodes.1);
      names_are = rw (same_nodes _ _ c.search_row.ensures.same_nodes _ r.few) r.names_are;
      few_names = r.few_names;
    }

pub list_names-requires : goal.list_names-requires
list_names-requires c = c.requires.sized.few_names

pub returns-in-Some : goal.returns-in-Some
returns-in-Some c =
    let r = c.requires in
    let t = c.search_row.ensures.row_tallied _ (counts-known r) in
    hands-no-names c.args.row.now (next-stopped _ r.good c.args.children.now r.sized.names_are r.named (fault-told t c.in-Some.is))

pub returns-in-None : goal.returns-in-None
returns-in-None c =
    let r = c.requires in
    let t = c.search_row.ensures.row_tallied _ (counts-known r) in
    rw (
      c.root_next-set.ensures,
      same_nodes _ _ c.search_row.ensures.same_nodes _ r.sized.few,
      r.children_are,
      next-tallied _ r.good c.args.children.now r.sized.names_are r.named (fault-told t c.in-None.is) _ (t.tallied c.in-None.is),
    )
    at c.list_names.ensures
