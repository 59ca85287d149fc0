use Rattle.std.proofs.Common.{◌≡◌, ◌+◌, length}
use Rattle.fields.specs.{Split.lines, Lines.lines_left}
use Rattle.sheet.specs.Cues.{cue_lines, cues_read}
use Rattle.sheet.proofs.cues.read_cues.Given as goal

abbrev pub invariant-loop-line : goal.invariant-loop-line
invariant-loop-line l = record {
  can : (goal.iterator-loop-line).can_next l.line-iterator;
  ends : (goal.iterator-loop-line).is_finite l.line-iterator;
  counted : l.count + length (lines_left l.line-iterator) ≡ length (lines l.text);
  answer : cues_read l.text ≡ cue_lines l.count l.number (lines_left l.line-iterator);
}
