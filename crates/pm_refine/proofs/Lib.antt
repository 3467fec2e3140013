pub mod Entries
pub mod Unchanged
pub mod Stale
pub mod Example
