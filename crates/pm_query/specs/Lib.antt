pub mod Answer
pub mod Columns
pub mod Pairs
pub mod Build
pub mod Bound
pub mod Worked
pub mod WorkedTrees
