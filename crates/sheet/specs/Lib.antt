-- Sheet and cue list, above the judge. Open first: proofs/Ends.antt, then Refusal. Laws that rest on what a must-fail edit changes are in
-- proofs/, as SheetLaws.
--   Ends       when each is refused, by the table, and what reading a sheet hands back
--   Refusal    the table: when each refusal stands, at which line, and which one is answered
--   Cues       the lines of a cue list, and what is wrong with one
--   Sheet      the lines of a sheet, what is wrong with one, and what they read into
--   RefusalLine   the line that is printed on a refusal
--   AtLine     a refusal with its line, and the tests of a whole file
pub mod AtLine
pub mod Cues
pub mod Sheet
pub mod RefusalLine
pub mod Refusal
