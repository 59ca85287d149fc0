-- What sessions promise. Open proofs/Ends.antt first: the theorems, each a citation. Then the definitions; a folder beside a file holds laws of what
-- the file defines, and the laws that rest on what must-fail edits change are in proofs/, as CallsTheorem.
--   Book       what a list of calls is answered
--   Refusal    when each refusal of the table stands for a call
--   Session    what each method of a session promises
--   Calls      lists of calls on one session and one trail, by what the methods promise
pub mod Book
pub mod Refusal
pub mod Session
pub mod Calls
