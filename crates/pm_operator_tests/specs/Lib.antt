pub mod Fed
pub mod Worked
