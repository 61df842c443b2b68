-- Lists
pub mod Lists
-- The paper's passes, the pair check and the merge procedure
pub mod Pass
pub mod Stage
pub mod PairCheck
pub mod Merge
pub mod Neighbours
pub mod Encode
-- The rows that begin a text; parts; readings
pub mod RowsAt
pub mod Accepted
pub mod AcceptedTest
pub mod Readings
pub mod PairSteps
-- Table and typing
pub mod TypingLists
pub mod Sides
pub mod TypingRows
pub mod Typing
pub mod Table
-- Shortest and greedy
pub mod ShortestLists
pub mod Longest
pub mod ShortestSteps
pub mod Shortest
pub mod Greedy
pub mod Decoding
-- Backtracking and the count with a limit
pub mod Places
pub mod Candidates
pub mod Backtracking
pub mod CountLimit
pub mod Over
-- The tree of prefixes, and intervals
pub mod Tree
pub mod Interval
-- What the demands say, and document 01's samples
pub mod Demands
pub mod Samples
pub mod FirstJoin
pub mod Spine
