pub mod Joins
pub mod Built
pub mod Worked
