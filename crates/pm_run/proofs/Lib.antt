mod Paces
mod Moments
mod RootRows
mod Meters
mod Turns
mod BoundLines
pub mod Pieces
