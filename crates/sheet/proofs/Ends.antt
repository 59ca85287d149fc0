-- The ends: when a sheet and a cue list are refused, by the table, and what reading a sheet hands back. Each proof is a citation.
use mathlib.Core.{Path.◌≡◌, Logic.◌↔◌}
use Rattle.fields.specs.Bytes.{Text}
use Rattle.std.specs.Prelude.{Result, Ok, ℕ}
use Rattle.fields.specs.declared.{fault.AtLine.AtLine, fault.CueFault.CueFault}
use Rattle.sheet.specs.declared.sheet.SheetFault.{SheetFault}
use Rattle.sheet.specs.{Cues.cues_read, Sheet.sheet_outcome, Sheet.sheet_read, Sheet.HoldsSheet}
use Rattle.sheet.proofs.SheetPlaces.{places_are}
use Rattle.sheet.specs.{Refusal.SheetAnswers, Refusal.CuesAnswers}
use Rattle.sheet.proofs.RefusalLaws.{sheet-is, cues-is}

-- Demand 1, sheet: it is refused with the first fault of the table that stands, and read where none does.
pub sheet-exactly : (x : Text) (o : Result Unit (AtLine SheetFault)) → (sheet_outcome x ≡ o) ↔ SheetAnswers x o
sheet-exactly = sheet-is

-- `read_sheet`: kinds and models stand at the places that it hands back, each entry has what its model reads into, and no other place is filled.
pub places-exactly : (x : Text) → sheet_outcome x ≡ Ok tt → HoldsSheet x (sheet_read x).sheet
places-exactly = places_are

-- Demand 1, cue list: it is refused with the first fault of the table that stands, and counted where none does.
pub cues-exactly : (x : Text) (r : Result ℕ (AtLine CueFault)) → (cues_read x ≡ r) ↔ CuesAnswers x r
cues-exactly = cues-is
