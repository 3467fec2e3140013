pub mod ValueOrder
pub mod Keys
pub mod KeysAppended
pub mod KeyCounts
pub mod Scaling
pub mod Folds
pub mod WellFormed
mod Sizes
pub mod Truths
