pub mod Modes
pub mod Entry
pub mod Checks
pub mod Reading
pub mod Configured
pub mod Indexed
pub mod Parts
pub mod Written
