-- What the proofs of the writer's code need. No promise names a definition below.
--   Place      names, counts, atoms and trees at a place of a model text
--   Head       what the head of a tree tells of it
--   Put        a byte of what was put is put anew
--   Tidied     what the code makes of a tidied tree and of a group's members, step by step
--   Keeps          what it knows of them
--   Stack      the trees on the stack
--   Recursion  what the recursion over a model text keeps
--   Lists      members as lists of places on the stack, and what is written of them
--   Length     the length of what is written
--   Written    a tree is written, member by member
--   Accepted   the tree of an accepted text, and what is written of it
pub mod Place
pub mod Head
pub mod Put
pub mod Tidied
pub mod Keeps
pub mod Stack
pub mod Recursion
pub mod Lists
pub mod Length
pub mod Written
pub mod Accepted
