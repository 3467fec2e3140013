pub mod Texts
pub mod Files
pub mod Tables
pub mod References
pub mod Checks
pub mod Calls
pub mod Stops
pub mod Requests
