pub mod Hashes
pub mod HashSteps
pub mod MergeSteps
pub mod IndexSteps
pub mod Groups
pub mod GroupSteps
pub mod SortSteps
pub mod Seekings
