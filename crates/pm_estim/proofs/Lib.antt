pub mod Estimates
pub mod Drivers
pub mod Certain
pub mod PipeLists
pub mod Shown
