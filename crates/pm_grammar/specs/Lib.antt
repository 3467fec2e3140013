pub mod Language
pub mod Reading
pub mod Lists
pub mod Steps
pub mod Outcome
pub mod Answers
