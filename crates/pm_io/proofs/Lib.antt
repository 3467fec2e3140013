pub mod Feeds
pub mod Gathered
pub mod Lines
pub mod Outside
pub mod Parts
pub mod Places
