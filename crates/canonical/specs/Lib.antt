-- What the writer of models promises. Open Ends first: the theorems, each a citation. Then the definitions; a folder beside a file holds the laws of what
-- the file defines.
--   Meaning    what an atom as written means
--   Tidy       a tree with its counts and marks in one way
--   Order      the members of `|` and `&` in one order
--   Neat       the form of a canonical tree
--   Canonical  the one way to write a model, and what the writer answers
-- Writer holds what the proofs of the code need, Examples some texts in their one way.
pub mod Ends
pub mod Meaning
pub mod Tidy
pub mod Order
pub mod Neat
pub mod Canonical
pub mod Writer
pub mod Examples
