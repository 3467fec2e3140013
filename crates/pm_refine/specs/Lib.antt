pub mod Refined
pub mod Refining
pub mod Steps
pub mod Example
