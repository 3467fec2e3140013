pub mod Conjuncts
pub mod Grouping
pub mod Bound
pub mod Meaning
pub mod Laws
pub mod Worked
