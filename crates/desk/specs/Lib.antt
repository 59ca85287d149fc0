-- What the desk promises. Open Ends first, then the definitions; a folder beside a file holds the laws of what the file defines.
--   Desk     the numbers of the replies to two texts, and a lent row at exit
--   Child    where the name of a child stands
pub mod Ends
pub mod Desk
pub mod Child
