-- The listing of a cue list by a sheet, above the readers of both. Open first: Ends, then Listing, Said and Listed.
--   Ends       when a listing is refused, what it says of each cue, and what its last line says
--   Listing    the lines of a listing, the last one among them
--   Said       what is said of a cue line, by the meaning
--   Listed     the answer, its number, and the buffer after
-- Making holds what the parts of a listing's making know of each other.
pub mod Listing
pub mod Listed
pub mod Said
pub mod Making
pub mod Ends
