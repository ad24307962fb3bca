pub mod Heard
pub mod Steps
pub mod Opened
pub mod Batches
pub mod Starting
pub mod Finishing
