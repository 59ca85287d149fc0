-- The two cases of `Marking`.
use Rattle.std.proofs.Common.{◌≡◌, false, refl, sym, ap, ◌∙◌, arith}
use Rattle.model.specs.{Tree.is_plain, Mark.mark_at, Mark.Laws.mark-inside}
use Rattle.judge.specs.Reading.Walk.{with_mark}
use Rattle.judge.proofs.reader.mark.Goals as goal

pub on-requires : goal.on-requires
on-requires c =
    let m : is_plain (mark_at c.args.text.now c.args.c.at) ≡ false =
    sym (c.is_plain.ensures ∙ ap is_plain c.mark_at-mark.ensures) ∙ c.if-is_plain.false in
    omega (arith, mark-inside c.args.text.now c.args.c.at m)

pub returns : goal.returns
returns c =
    with_mark c.packed_marked.result (sym (c.is_plain.ensures ∙ ap is_plain c.mark_at-mark.ensures) ∙ c.if-is_plain.false) c.on.ensures
    (rw (← c.mark_at-mark.ensures) c.packed_marked.ensures) refl
