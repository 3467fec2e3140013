pub mod Fed
pub mod Examples
