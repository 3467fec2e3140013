pub mod Pipelines
pub mod Estimates
pub mod Certified
pub mod Lists
pub mod Steps
