use Rattle.std.proofs.Common.{sym, ap, ◌∙◌, arith}
use Rattle.sheet.specs.{declared.sheet.SheetRead.SheetRead}
use Rattle.sheet.proofs.SheetGood.{outcome-is}
use Rattle.tidying.specs.Tidying.Laws.{good-sheet}
use Rattle.tidying.proofs.write.tidy_sheet.Goals as goal

pub tidied_length-total-requires : goal.tidied_length-total-requires
tidied_length-total-requires c =
    let x = c.args.sheet.now in
    good-sheet x (sym (outcome-is x) ∙ sym (ap (λ (r : SheetRead). r.outcome) c.read_sheet.ensures) ∙ c.in_ok-read_sheet.was)

pub write_rules-requires : goal.write_rules-requires
write_rules-requires c =
    let x = c.args.sheet.now in (
      good-sheet x (sym (outcome-is x) ∙ sym (ap (λ (r : SheetRead). r.outcome) c.read_sheet.ensures) ∙ c.in_ok-read_sheet.was),
      omega (arith, c.tidied_length-total.ensures),
    )
