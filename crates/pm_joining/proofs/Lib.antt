pub mod Listed
pub mod Takes
pub mod Unique
pub mod Shapes
pub mod Merged
