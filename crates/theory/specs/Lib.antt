-- Document 01's terms: the dictionary and its parts, the merge procedure, the pair check, the encoders, typing, the
-- tree of intervals.
pub mod Lists
pub mod Dictionary
pub mod Parts
pub mod Merge
pub mod Paper
pub mod PairCheck
pub mod Backtracking
pub mod CountLimit
pub mod Table
pub mod Shortest
pub mod Typing
pub mod Tree
-- The demands' words for a code list.
pub mod Demands
-- Its sample files, computed on these definitions.
pub mod Samples
-- No term of document 01: what typing one byte more rests on.
pub mod FirstJoin
