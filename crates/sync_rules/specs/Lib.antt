pub mod Generations
pub mod Breaches
pub mod Sync
pub mod Steps
pub mod SafeSync
pub mod Calls
pub mod Laws
pub mod Examples
