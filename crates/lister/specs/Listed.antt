-- What a listing is answered: the definition, the table, the number and the line of a refusal, and the buffer after.
pub mod Laws
use mathlib.Core.{Path.◌≡◌, Bool.cond, List.◌++◌}
use Rattle.std.specs.Prelude.{Result, Ok, Err, ℕ, ◌≤◌, ◌<◌}
use lib.{Dec.leb, ListN.length, ListN.drop}
use Rattle.fields.specs.{Bytes.Text, Children.cue_number, Least.NoFault, Least.First}
use Rattle.fields.specs.declared.{fault.AtLine.AtLine, fault.CueFault.CueFault}
use Rattle.sheet.specs.declared.{sheet.SheetFault.SheetFault, refusal.Source.Source, refusal.Refusal.Refusal}
use Rattle.sheet.specs.{Cues.cues_read, Sheet.sheet_number, Sheet.sheet_outcome, Refusal.SheetStands, Refusal.sheet_rank, Refusal.CueStands}
use Rattle.sheet.specs.{RefusalLine.too_long}
use Rattle.lister.specs.Listing.{listing}
use Rattle.lister.specs.declared.listing.ListFault.{ListFault, TheVariants.Sheet, TheVariants.Cues, TheVariants.TooLong}

-- the sheet is tried before the list; 50 where the listing is longer than the buffer's size
abbrev pub by_cues : Result ℕ (AtLine CueFault) → Result ℕ ListFault → Result ℕ ListFault
by_cues (Ok n) good = good
by_cues (Err f) good = Err (Cues f)

abbrev pub by_sheet : Result Unit (AtLine SheetFault) → Result ℕ ListFault → Result ℕ ListFault
by_sheet (Ok _) good = good
by_sheet (Err f) good = Err (Sheet f)

abbrev pub by_room : Text → ℕ → Result ℕ ListFault
by_room x size = cond (leb (length x) size) (Ok (length x)) (Err TooLong)

abbrev pub listed : Text → Text → ℕ → Result ℕ ListFault
listed s c size = by_sheet (sheet_outcome s) (by_cues (cues_read c) (by_room (listing s c) size))

-- by the table, in a buffer of this size: the sheet's own first, then the list's (sheet/Refusal), and 50 last
abbrev pub Lists : Text → Text → ℕ → Result ℕ ListFault → Type 0
Lists s c size (Err (Sheet f)) = First sheet_rank (SheetStands s) f.fault f.line
Lists s c size (Err (Cues f)) = NoFault (SheetStands s) × First cue_number (CueStands c) f.fault f.line
Lists s c size (Err TooLong) = NoFault (SheetStands s) × NoFault (CueStands c) × (size < length (listing s c))
Lists s c size (Ok n) = NoFault (SheetStands s) × NoFault (CueStands c) × (length (listing s c) ≤ size) × (n ≡ length (listing s c))

-- The sheet's and the list's lines count from 1, and are 0 for 20, 21, 30 and 31 (sheet/Refusal); 50 has none. A written listing has no refusal.
abbrev pub listed_source : Result ℕ ListFault → Source
listed_source (Ok n) = Source.Listing
listed_source (Err (Sheet f)) = Source.Sheet
listed_source (Err (Cues f)) = Source.Cues
listed_source (Err TooLong) = Source.Listing

abbrev pub listed_number : Result ℕ ListFault → ℕ
listed_number (Ok n) = 0
listed_number (Err (Sheet f)) = sheet_number f.fault
listed_number (Err (Cues f)) = cue_number f.fault
listed_number (Err TooLong) = too_long

abbrev pub listed_line : Result ℕ ListFault → ℕ
listed_line (Ok n) = 0
listed_line (Err (Sheet f)) = f.line
listed_line (Err (Cues f)) = f.line
listed_line (Err TooLong) = 0

abbrev pub listed_refusal : Result ℕ ListFault → Refusal
listed_refusal r = record { source = listed_source r; number = listed_number r; line = listed_line r }

-- the buffer after: the listing and the bytes behind it as they were; a refusal changes none
abbrev pub buffer_after : Result ℕ ListFault → Text → Text → Text
buffer_after (Ok n) new old = new ++ drop n old
buffer_after (Err (Sheet f)) new old = old
buffer_after (Err (Cues f)) new old = old
buffer_after (Err TooLong) new old = old
