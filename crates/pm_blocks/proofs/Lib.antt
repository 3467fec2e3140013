pub mod Runs
pub mod SortKeys
pub mod Sorts
pub mod Applied
pub mod Aggregates
pub mod Groups
pub mod LedRows
