pub mod Breaches
pub mod Sources
pub mod Names
pub mod Kinds
pub mod Conditions
