pub mod Grammar
pub mod Terminals
pub mod Reading
pub mod Statement
pub mod Worked
pub mod Same
