pub mod Byte
pub mod Head
pub mod Pieces
pub mod Symbol
pub mod Quoting
pub mod Tokens
pub mod Words
pub mod Parts
