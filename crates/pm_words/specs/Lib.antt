pub mod Commands
pub mod Settings
pub mod Worked
