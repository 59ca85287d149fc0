-- The first pass finds a fault, and the row is dead, or its tally tells the verdict. The search leaves the nodes as they were.
use Rattle.std.proofs.Common.{sym, arith}
use Rattle.judge.specs.Packed.Laws.{same_nodes}
use Rattle.judge.proofs.RowTallyLaws.{fault-told}
use Rattle.judge.proofs.RowCode.{searchable, counts-known, verdict-stopped, verdict-tallied}
use Rattle.judge.proofs.row.verdict_on.Goals as goal

pub search_row-requires : goal.search_row-requires
search_row-requires c = searchable c.requires

pub verdict_by-requires : goal.verdict_by-requires
verdict_by-requires c =
    let r = c.requires.sized in
    record {
      few = r.few;
      whole = omega (arith, r.whole, c.search_row.ensures.same_nodes.1);
      names_are = rw (same_nodes _ _ c.search_row.ensures.same_nodes _ r.few) r.names_are;
      few_names = r.few_names;
    }

pub returns-in-Some : goal.returns-in-Some
returns-in-Some c =
    let r = c.requires in
    let t = c.search_row.ensures.row_tallied _ (counts-known r) in
    sym (verdict-stopped _ r.good c.args.row.now r.sized.names_are r.named (fault-told t c.in-Some.is))

pub returns-in-None : goal.returns-in-None
returns-in-None c =
    let r = c.requires in
    let t = c.search_row.ensures.row_tallied _ (counts-known r) in
    rw (c.verdict_by.ensures, same_nodes _ _ c.search_row.ensures.same_nodes _ r.sized.few, r.children_are)
    (verdict-tallied _ r.good c.args.row.now r.sized.names_are r.named (fault-told t c.in-None.is) _ (t.tallied c.in-None.is))
