pub mod Ended
pub mod Codes
pub mod Completions
pub mod Turns
