-- Names are fields that are spelt as names and short.
use Rattle.std.proofs.Common.{◌≡◌, ◌∙◌, true, false}
use Rattle.fields.specs.{Split.tab, Split.split, Children.Spelling.all_spelt, Children.Laws.spelt-and-short}
use Rattle.fields.proofs.children.all_names.Goals as goal

pub returns-then-all_spelt : goal.returns-then-all_spelt
returns-then-all_spelt c =
    let parts = split tab c.args.children.now in
    let e : all_spelt parts ≡ true = cc in
    c.all_short.ensures ∙ (rw e at (spelt-and-short parts))

pub returns-else-all_spelt : goal.returns-else-all_spelt
returns-else-all_spelt c =
    let parts = split tab c.args.children.now in
    let e : all_spelt parts ≡ false = cc in
    c.if-all_spelt.false ∙ (rw e at (spelt-and-short parts))
