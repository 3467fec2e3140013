pub mod Found
pub mod Chained
pub mod Cuts
pub mod Entered
