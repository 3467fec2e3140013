pub mod Percent
pub mod Rows
pub mod Progress
pub mod Refusals
pub mod Explained
pub mod Plain
