pub mod Orders
pub mod Widths
pub mod Capped
pub mod Found
pub mod Joined
pub mod Grouped
pub mod Promised
pub mod Bound
