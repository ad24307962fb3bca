pub mod Content
pub mod Counts
pub mod Views
pub mod Merges
