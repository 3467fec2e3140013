pub mod Commands
pub mod Stops
pub mod Calls
pub mod Text
pub mod Certified
pub mod Alike
