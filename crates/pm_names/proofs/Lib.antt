pub mod Along
pub mod Once
pub mod Positions
pub mod Prefixes
pub mod Steps
