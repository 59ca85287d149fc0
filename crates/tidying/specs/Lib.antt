-- A sheet with each model written in its one way. Open Ends first.
--   Ends       what a sheet is answered, by the table, and what a tidied sheet is
--   Tidying    the lines of a tidied sheet, the answer, its number, and the buffer after; the folder beside it holds the laws
pub mod Tidying
pub mod Ends
