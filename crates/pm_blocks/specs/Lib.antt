pub mod SortedNumbers
pub mod SortState
pub mod Limits
pub mod Accumulators
pub mod GroupState
pub mod Worked
pub mod Leads
