pub mod Numbers
pub mod Hash
pub mod Chains
pub mod Cuts
