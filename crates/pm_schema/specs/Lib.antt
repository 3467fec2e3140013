pub mod Terminals
pub mod Reading
pub mod Grammar
pub mod Answers
pub mod Rules
pub mod References
pub mod Meaning
pub mod Worked
