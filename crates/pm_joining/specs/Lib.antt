pub mod Trees
pub mod Tables
pub mod Sides
pub mod Shifts
pub mod Taking
pub mod Ways
