use Rattle.std.proofs.Common.{rules, tests, ◌∙◌, ◌≡◌, length}
use Rattle.std.proofs.lemmas.Iterator.{YieldsList-from_slice}
use Rattle.std.proofs.lemmas.Iterator.Consumers.{count_from_yields_List, YieldsList-from_filter}
use Rattle.std.specs.List.{filter}
use Rattle.fields.specs.{Bytes.same_text}
use Rattle.lister.specs.{Listing.word, Making.Laws.times-said}
use Rattle.lister.proofs.total.times_said.Goals as goal

pub returns : goal.returns
returns c =
    let e : c.count.result ≡ length (filter (λ v. same_text (word v) (word c.args.one)) c.args.said.now) =
    count_from_yields_List c.filter.result c.count.result c.count.ensures.ran
    (YieldsList-from_filter _ (λ v. same_text (word v) (word c.args.one)) (YieldsList-from_slice c.args.said.now cc) c.filter.ensures.closure
    (λ x r q k. search (rules, tests))) in
    e ∙ times-said (word c.args.one) c.args.said.now
