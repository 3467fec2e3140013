pub mod Noted
pub mod Gauged
pub mod Ran
pub mod Memory
pub mod Running
