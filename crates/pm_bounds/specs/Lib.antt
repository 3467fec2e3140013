pub mod Bounds
pub mod Capped
pub mod Enclosure
pub mod Moment
pub mod Steps
pub mod Worked
