-- Test by test, in the order of the numbers.
use Rattle.std.proofs.Common.{sym, ◌∙◌}
use Rattle.fields.specs.{Bytes.bytes, Heads.Laws.fields-three}
use Rattle.sheet.proofs.SheetLaws.{checked-few, checked-many, checked-word, checked-name, checked-again, checked-good}
use Rattle.sheet.proofs.Words.{other-word, rule-line}
use Rattle.sheet.proofs.sheet.check_line.Goals as goal
use Rattle.sheet.proofs.sheet.check_line.Goals.{then-line-ends-via-then-line-ends, then-line-ends-via-else-line-ends+then-ends-line}
use Rattle.sheet.proofs.sheet.check_line.Goals.{then-line-ends-via-else-line-ends+else-ends-line+then-not-same_bytes}

pub returns-then-line-ends : goal.returns-then-line-ends
returns-then-line-ends c =
    elim c.then-line-ends.branch [
      | then-line-ends-via-then-line-ends w ↦ checked-few _ _ c.requires w.if-line-ends.true
      | then-line-ends-via-else-line-ends+then-ends-line w ↦ checked-many _ (fields-three _ _ c.requires w.if-line-ends.false) w.if-ends-line.true
      | then-line-ends-via-else-line-ends+else-ends-line+then-not-same_bytes w ↦
          checked-word _ (fields-three _ _ c.requires w.if-line-ends.false) w.if-ends-line.false
          (other-word c.args.line.now c.args.ends (bytes "rule") w.same_bytes.ensures w.if-not-same_bytes.true)
    ]

pub returns-then-not-is_name : goal.returns-then-not-is_name
returns-then-not-is_name c =
    let r = rule-line c.args.line.now c.args.ends c.requires c.if-line-ends.false c.if-ends-line.false c.same_bytes.ensures c.if-not-same_bytes.false in
    checked-name _ r (sym c.is_name.ensures ∙ c.if-not-is_name.true)

pub returns-then-number_of-ne0 : goal.returns-then-number_of-ne0
returns-then-number_of-ne0 c =
    let r = rule-line c.args.line.now c.args.ends c.requires c.if-line-ends.false c.if-ends-line.false c.same_bytes.ensures c.if-not-same_bytes.false in
    checked-again _ r (sym c.is_name.ensures ∙ c.if-not-is_name.false) c.number_of.ensures c.if-number_of-ne0.true

pub returns : goal.returns
returns c =
    let r = rule-line c.args.line.now c.args.ends c.requires c.if-line-ends.false c.if-ends-line.false c.same_bytes.ensures c.if-not-same_bytes.false in
    checked-good _ r (sym c.is_name.ensures ∙ c.if-not-is_name.false) c.number_of.ensures c.if-number_of-ne0.false
