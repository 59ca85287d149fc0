-- `all` of std is `all` of specs/Bytes.
use Rattle.std.proofs.Common.{◌∙◌, rules, tests}
use Rattle.std.proofs.lemmas.Iterator.{YieldsList-from_slice}
use Rattle.std.proofs.lemmas.Iterator.Search.{all_from_yields_List}
use Rattle.fields.specs.{Bytes.is_inner, Bytes.Laws.all_list}
use Rattle.fields.proofs.children.all_inner.Goals as goal

pub returns : goal.returns
returns c =
    let x = c.args.text.now in
    all_from_yields_List is_inner _ _ _ c.all.ensures.ran (YieldsList-from_slice x cc) (λ b r q k. search (rules, tests)) ∙ all_list is_inner x
