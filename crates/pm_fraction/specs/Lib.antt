pub mod Capped
pub mod Hundredths
pub mod Root
