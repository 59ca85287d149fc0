-- Test by test, in the order of the numbers.
use Rattle.std.proofs.Common.{sym, ◌∙◌}
use Rattle.fields.specs.{Bytes.bytes, Heads.Laws.fields-three}
use Rattle.sheet.specs.Cues.Laws.{line-few, line_word, line-number, line-above, line-names, line-many, line-good}
use Rattle.sheet.proofs.Words.{other-word, same-word, cue-line}
use Rattle.sheet.proofs.cues.read_line.Goals as goal
use Rattle.sheet.proofs.cues.read_line.Goals.{then-line-ends-via-then-line-ends, then-line-ends-via-else-line-ends+then-not-same_bytes}

pub returns-then-line-ends : goal.returns-then-line-ends
returns-then-line-ends c =
    elim c.then-line-ends.branch [
      | then-line-ends-via-then-line-ends w ↦ line-few _ _ c.first_fields-ends.ensures.value w.if-line-ends.true
      | then-line-ends-via-else-line-ends+then-not-same_bytes w ↦
          line_word _ (fields-three _ _ c.first_fields-ends.ensures.value w.if-line-ends.false)
          (other-word c.args.line.now c.first_fields-ends.result (bytes "cue") w.same_bytes.ensures w.if-not-same_bytes.true)
    ]

pub returns-then-not-is_number : goal.returns-then-not-is_number
returns-then-not-is_number c =
    line-number _ (fields-three _ _ c.first_fields-ends.ensures.value c.if-line-ends.false)
    (same-word c.args.line.now c.first_fields-ends.result (bytes "cue") c.same_bytes.ensures c.if-not-same_bytes.false)
    (sym c.is_number.ensures ∙ c.if-not-is_number.true)

pub returns-then-number-previous : goal.returns-then-number-previous
returns-then-number-previous c =
    let q = cue-line c.args.line.now c.first_fields-ends.result c.first_fields-ends.ensures.value c.if-line-ends.false
    c.same_bytes.ensures c.if-not-same_bytes.false (sym c.is_number.ensures ∙ c.if-not-is_number.false) in
    line-above _ q c.value_of-number.ensures c.if-number-previous.true

pub returns-then-not-all_names : goal.returns-then-not-all_names
returns-then-not-all_names c =
    let q = cue-line c.args.line.now c.first_fields-ends.result c.first_fields-ends.ensures.value c.if-line-ends.false
    c.same_bytes.ensures c.if-not-same_bytes.false (sym c.is_number.ensures ∙ c.if-not-is_number.false) in
    line-names _ q c.value_of-number.ensures c.if-number-previous.false (sym c.all_names.ensures ∙ c.if-not-all_names.true)

pub returns-then-times_in-gt-MAX_ROW : goal.returns-then-times_in-gt-MAX_ROW
returns-then-times_in-gt-MAX_ROW c =
    let q = cue-line c.args.line.now c.first_fields-ends.result c.first_fields-ends.ensures.value c.if-line-ends.false
    c.same_bytes.ensures c.if-not-same_bytes.false (sym c.is_number.ensures ∙ c.if-not-is_number.false) in
    line-many _ q c.value_of-number.ensures c.if-number-previous.false (sym c.all_names.ensures ∙ c.if-not-all_names.false)
    c.times_in.ensures c.if-times_in-gt-MAX_ROW.true

pub returns : goal.returns
returns c =
    let q = cue-line c.args.line.now c.first_fields-ends.result c.first_fields-ends.ensures.value c.if-line-ends.false
    c.same_bytes.ensures c.if-not-same_bytes.false (sym c.is_number.ensures ∙ c.if-not-is_number.false) in
    line-good _ q c.value_of-number.ensures c.if-number-previous.false (sym c.all_names.ensures ∙ c.if-not-all_names.false)
    c.times_in.ensures c.if-times_in-gt-MAX_ROW.false
