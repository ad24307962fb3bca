pub mod Keeping
pub mod Chains
pub mod Fronts
